use Rattle.std.proofs.Common.{length}
use Rattle.tree_edits.proofs.store.Store.+hang_below.Given as goal

abbrev pub decreases-hang_below : goal.decreases-hang_below
decreases-hang_below l = length l.rest.now
