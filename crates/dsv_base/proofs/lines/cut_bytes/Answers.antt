use Rattle.std.proofs.Common.{sym}
use Rattle.dsv_base.proofs.Cuts.{cut_at-none, cut_at-place}
use Rattle.dsv_base.proofs.lines.cut_bytes.Goals as goal

pub returns-in-None-clause-cut : goal.returns-in-None-clause-cut
returns-in-None-clause-cut c = sym (cut_at-none c.args.byte c.args.text.now (rw c.get.ensures at c.in-None.ensures.none))

pub returns-in_ok-after-in-Some-clause-cut : goal.returns-in_ok-after-in-Some-clause-cut
returns-in_ok-after-in-Some-clause-cut c = rw (c.in_ok-part-in-Some.ensures, c.in_ok-after-in-Some.ensures) (sym (cut_at-place c.args.byte c.args.text.now c.in-Some.at (rw c.get.ensures at c.in-Some.ensures.within) (rw c.get.ensures at c.in-Some.ensures.at) (rw c.get.ensures at c.in-Some.ensures.before)))
