use Rattle.std.proofs.Common.{length}
use Rattle.tree_edits.proofs.store.Store.+glance_below.Given as goal

abbrev pub decreases-glance_below : goal.decreases-glance_below
decreases-glance_below l = length l.rest.now
