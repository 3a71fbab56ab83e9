-- More digits make no smaller number.
use Rattle.std.proofs.Common.{◌≡◌, ℕ, List, [], ◌∷◌, ◌≤◌, ◌+◌, ◌-◌, ◌*◌, arith, Option, Some, None, Bool, true, false, nat_le, refl, length, get_or, drop}
use Rattle.std.specs.Prelude.{if◌then◌else◌}
use Rattle.std.proofs.lemmas.Bool.Decides.{nat_tests}
use Rattle.dsv_base.specs.Numbers.{digits_after}

pub digits_after-rises : (ds : List ℕ) (n : ℕ) → n ≤ digits_after n ds
digits_after-rises [] n = omega arith
digits_after-rises (d ∷ ds) n = let rises : n * 10 + (d - 48) ≤ digits_after (n * 10 + (d - 48)) ds = digits_after-rises ds (n * 10 + (d - 48)) in omega arith

-- a number that is at most the given one, and none above
abbrev pub at_most : ℕ → ℕ → Option ℕ
at_most most n = if nat_le n most then Some n else None

refused : (b : Bool) (n : ℕ) → None ≡ (if b then Some n else None) → b ≡ false
refused true n h = cc
refused false n h = refl

-- where the first digits are too many, all are
pub too_large : (n most whole : ℕ) → n ≤ whole → None ≡ at_most most n → None ≡ at_most most whole
too_large n most whole h none =
    let large : nat_le n most ≡ false = refused (nat_le n most) n none in
    let all : nat_le whole most ≡ false = grind (arith, nat_tests) in
    rw all refl

-- the first digit stands before those of the rest
pub digits_after-front : (n : ℕ) (ds : List ℕ) → 1 ≤ length ds → digits_after (n * 10 + (get_or ds 0 0 - 48)) (drop 1 ds) ≡ digits_after n ds
digits_after-front n [] h = absurd (omega arith)
digits_after-front n (d ∷ ds) h = refl
