use Rattle.std.proofs.Common.{◌≤◌, length, take}
use Rattle.tree_settling.proofs.Scans.{IsScanned}
use Rattle.tree_settling.proofs.listing.listed.Given as goal

abbrev pub invariant-made : goal.invariant-made
invariant-made l = record {
  within : l.left ≤ length l.made;
  scanned : IsScanned l.directory l.made (take l.left l.made) l.names.items;
}

abbrev pub decreases-made : goal.decreases-made
decreases-made l = l.left
