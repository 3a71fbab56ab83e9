use Rattle.std.proofs.Common.{length}
use Rattle.tree_edits.proofs.store.Store.+look_below.Given as goal

abbrev pub decreases-look_below : goal.decreases-look_below
decreases-look_below l = length l.rest.now
