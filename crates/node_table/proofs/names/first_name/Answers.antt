use Rattle.std.proofs.Common.{◌≡◌, ℕ, List, ◌∷◌, ◌++◌, ◌==◌, ◌<◌, ◌+◌, ◌-◌, false, take, drop, length, get_or, arith, sym, ap, ◌∙◌, add-one, drop-cons}
use Rattle.std.specs.List.{All, slice_split}
use Rattle.std.proofs.lemmas.List.{take-append-drop}
use Rattle.std.proofs.lemmas.List.Splits.{slice_split_none, slice_split_at}
use Rattle.std.proofs.lemmas.Grind.{common_steps}
use Rattle.std.proofs.lemmas.Bool.Decides.{nat_tests}
use Rattle.dsv_base.specs.Paths.{components}
use Rattle.node_table.proofs.names.first_name.Goals as goal

pub returns-in-None-clause-cut : goal.returns-in-None-clause-cut
returns-in-None-clause-cut c = slice_split_none (λ b. b == 47) c.args.text.now c.in-None.ensures.none

-- the text as the code cuts it
whole : (text : List ℕ) (at : ℕ) → at < length text → text ≡ take at text ++ (get_or text at 0 ∷ drop (at + 1) text)
whole text at h = sym (take-append-drop at text) ∙ ap (λ rest. take at text ++ rest) (rw (add-one, drop-cons text at 0))

cut_at : (text : List ℕ) (at : ℕ) → at < length text → get_or text at 0 ≡ 47 → All (λ b. (b == 47) ≡ false) (take at text) → components text ≡ take at text ∷ components (drop (at + 1) text)
cut_at text at h ten before =
    ap (slice_split (λ b. b == 47)) (whole text at h)
    ∙ slice_split_at (λ b. b == 47) (take at text) (get_or text at 0) (drop (at + 1) text) before (grind (arith, nat_tests))

all_of_rest : (text : List ℕ) (at : ℕ) → take (length text - at) (drop at text) ≡ drop at text
all_of_rest text at = grind (arith, common_steps)

pub returns-in-Some-clause-cut : goal.returns-in-Some-clause-cut
returns-in-Some-clause-cut c = rw (all_of_rest c.args.text.now (c.in-Some.at + 1)) (cut_at c.args.text.now c.in-Some.at c.in-Some.ensures.within c.in-Some.ensures.at c.in-Some.ensures.before)
