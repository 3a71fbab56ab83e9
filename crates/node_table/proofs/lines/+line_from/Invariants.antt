use Rattle.std.proofs.Common.{length}
use Rattle.node_table.proofs.lines.+line_from.Given as goal

abbrev pub decreases-line_from : goal.decreases-line_from
decreases-line_from l = length l.rest.now
