use Rattle.std.proofs.Common.{length}
use Rattle.node_table.proofs.reading.+reached.Given as goal

abbrev pub decreases-reached : goal.decreases-reached
decreases-reached l = length l.rest.now
