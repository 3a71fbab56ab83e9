use Rattle.std.proofs.Common.{ap, ◌∙◌}
use Rattle.dsv_base.specs.Lines.{lines_of}
use Rattle.dsv_base.proofs.LinesCut.{lines_of-cut, cut_lines}
use Rattle.dsv_base.proofs.lines.first_line.Goals as goal

pub returns-in-None-clause-cut : goal.returns-in-None-clause-cut
returns-in-None-clause-cut c = lines_of-cut c.args.text.now ∙ ap (cut_lines c.args.text.now) c.in-None.ensures.cut

pub returns-in-Some-clause-cut : goal.returns-in-Some-clause-cut
unfolding lines_of
returns-in-Some-clause-cut c = lines_of-cut c.args.text.now ∙ ap (cut_lines c.args.text.now) c.in-Some.ensures.cut
