-- What the next reading of a clock in memory does.
use Rattle.std.proofs.Common.{◌≡◌, ℕ, zero, suc, ◌+◌, ◌≤◌, Bool, true, false, List, [], ◌∷◌, ◌++◌, length, nat_eq, if◌then◌else◌, None, Some, refl, arith}
use Rattle.std.proofs.lemmas.Grind.{common_steps}
use Rattle.std.proofs.lemmas.Bool.Decides.{nat_tests}
use Rattle.dsv_outside.specs.Causes.{last_count, next_count}
use Rattle.dsv_outside.specs.Clocks.{Reads, moment_at, first_readings, told_readings}

length-first_readings : (moments : List ℕ) (count : ℕ) → length (first_readings moments count) ≡ count
unfolding first_readings
length-first_readings moments zero = refl
length-first_readings moments (suc count) =
    let before : length (first_readings moments count) ≡ count = length-first_readings moments count in
    grind (arith, common_steps)

one_more : (moments : List ℕ) (count : ℕ) → first_readings moments (count + 1) ≡ first_readings moments count ++ moment_at moments count ∷ []
unfolding first_readings
one_more moments count = let e : count + 1 ≡ suc count = omega arith in rw e refl

pub reads_next : (moments : List ℕ) (count : ℕ) → count ≤ last_count → Reads (told_readings moments count) (told_readings moments (next_count count)) (moment_at moments count ∷ [])
reads_next moments count fits = either (nat_eq count last_count) (nat_eq (next_count count) last_count) refl refl where
  either : (now later : Bool) → nat_eq count last_count ≡ now → nat_eq (next_count count) last_count ≡ later → Reads (if now then None else Some (first_readings moments count)) (if later then None else Some (first_readings moments (next_count count))) (moment_at moments count ∷ [])
  either true true is next = tt
  either true false is next = absurd (grind (arith, nat_tests))
  either false true is next =
      let size : length (first_readings moments count) ≡ count = length-first_readings moments count in
      let last : next_count count ≡ last_count = grind (arith, nat_tests) in
      rw size (omega arith)
  either false false is next =
      let more : next_count count ≡ count + 1 = grind (arith, nat_tests) in
      rw more (one_more moments count)
