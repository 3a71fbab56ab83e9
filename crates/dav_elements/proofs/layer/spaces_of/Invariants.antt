use Rattle.std.proofs.Common.{◌≤◌, drop, length}
use Rattle.dav_elements.specs.Layers.{FindsSpaces}
use Rattle.dav_elements.proofs.layer.spaces_of.Given as goal

abbrev pub invariant-bounds : goal.invariant-bounds
invariant-bounds l = record {
  within : l.left ≤ length l.bounds;
  finds : FindsSpaces l.spaces (λ k. k.items) (drop l.left l.bounds);
}

abbrev pub decreases-bounds : goal.decreases-bounds
decreases-bounds l = l.left
