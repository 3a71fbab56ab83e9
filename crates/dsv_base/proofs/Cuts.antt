-- Where a text is cut at a byte.
use Rattle.std.proofs.Common.{◌≡◌, ℕ, zero, suc, ◌<◌, ◌+◌, true, false, List, [], ◌∷◌, None, Some, take, drop, length, get_or, refl, sym, ap, ◌∙◌, arith}
use Rattle.std.specs.Prelude.{◌==◌, if◌then◌else◌}
use Rattle.std.specs.List.{All}
use Rattle.std.specs.Option.{option_map}
use Rattle.std.proofs.lemmas.Bool.Decides.{nat_tests}
use Rattle.dsv_base.specs.Lines.{cut_at}

-- a byte that is another stands before what is cut off
onto : (byte b : ℕ) (bs : List ℕ) → (b == byte) ≡ false → cut_at byte (b ∷ bs) ≡ option_map (λ cut. (b ∷ cut.0, cut.1)) (cut_at byte bs)
onto byte b bs goes_on = ap (λ stops. if stops then Some ([], bs) else option_map (λ (cut : List ℕ × List ℕ). (b ∷ cut.0, cut.1)) (cut_at byte bs)) goes_on

stops_here : (byte b : ℕ) (bs : List ℕ) → (b == byte) ≡ true → cut_at byte (b ∷ bs) ≡ Some ([], bs)
stops_here byte b bs stops = ap (λ stops. if stops then Some ([], bs) else option_map (λ (cut : List ℕ × List ℕ). (b ∷ cut.0, cut.1)) (cut_at byte bs)) stops

pub cut_at-none : (byte : ℕ) (text : List ℕ) → All (λ b. (b == byte) ≡ false) text → cut_at byte text ≡ None
cut_at-none byte [] h = refl
cut_at-none byte (b ∷ bs) h =
    let others = cut_at-none byte bs (λ k d below. h (suc k) d (omega arith)) in
    onto byte b bs (h 0 0 (omega arith)) ∙ ap (option_map (λ (cut : List ℕ × List ℕ). (b ∷ cut.0, cut.1))) others

pub cut_at-place : (byte : ℕ) (text : List ℕ) (at : ℕ) → at < length text → get_or text at 0 ≡ byte → All (λ b. (b == byte) ≡ false) (take at text) → cut_at byte text ≡ Some (take at text, drop (at + 1) text)
cut_at-place byte [] at h here before = absurd (omega arith)
cut_at-place byte (b ∷ bs) zero h here before = stops_here byte b bs (grind (arith, nat_tests))
cut_at-place byte (b ∷ bs) (suc at) h here before =
    let others = cut_at-place byte bs at (omega arith) here (λ k d below. before (suc k) d (omega arith)) in
    let more : suc at + 1 ≡ suc (at + 1) = omega arith in
    onto byte b bs (before 0 0 (omega arith)) ∙ ap (option_map (λ (cut : List ℕ × List ℕ). (b ∷ cut.0, cut.1))) others ∙ ap (λ n. Some (b ∷ take at bs, drop n (b ∷ bs))) (sym more)
