use Rattle.std.proofs.Common.{◌≡◌, ℕ, List, ◌+◌, ◌-◌, take, drop, length, arith}
use Rattle.std.proofs.lemmas.Grind.{common_steps}
use Rattle.dsv_base.proofs.Cuts.{cut_at-none, cut_at-place}
use Rattle.dsv_base.proofs.lines.cut_at.Goals as goal

all_of_rest : (text : List ℕ) (at : ℕ) → take (length text - at) (drop at text) ≡ drop at text
all_of_rest text at = grind (arith, common_steps)

pub returns-in-None-clause-cut : goal.returns-in-None-clause-cut
returns-in-None-clause-cut c = cut_at-none c.args.byte c.args.text.now c.in-None.ensures.none

pub returns-in-Some-clause-cut : goal.returns-in-Some-clause-cut
returns-in-Some-clause-cut c = rw (all_of_rest c.args.text.now (c.in-Some.at + 1)) (cut_at-place c.args.byte c.args.text.now c.in-Some.at c.in-Some.ensures.within c.in-Some.ensures.at c.in-Some.ensures.before)
