use Rattle.std.proofs.Common.{◌≤◌, length, reverse, take}
use Rattle.tree_settling.proofs.Turns.{IsTurned}
use Rattle.tree_settling.proofs.settling.settle_all.Given as goal

abbrev pub invariant-touches : goal.invariant-touches
invariant-touches l = record {
  within : l.left ≤ length l.touches;
  turned : IsTurned l.cells l.touches l.more.items (take l.left l.touches) (reverse l.made.items);
}

abbrev pub decreases-touches : goal.decreases-touches
decreases-touches l = l.left
