use Rattle.dsv_base.proofs.LineParts.{file_lines-last, file_lines-first}
use Rattle.dsv_base.proofs.text_files.next_line.Goals as goal

pub returns-in-None-clause-line : goal.returns-in-None-clause-line
returns-in-None-clause-line c = file_lines-last c.args.text.now c.in-None.ensures.cut

pub returns-in-Some-clause-line : goal.returns-in-Some-clause-line
returns-in-Some-clause-line c = rw c.without_return.ensures (file_lines-first c.args.text.now _ _ c.in-Some.ensures.cut)
