use Rattle.std.proofs.Common.{◌≡◌, ◌≤◌, ◌*◌, length, drop}
use Rattle.rev_nodes.specs.Changes.{apply_from}
use Rattle.tree_edits.specs.AreEdits.{AreEdits}
use Rattle.rev_trees.specs.Kept.{trees_in, youngest}
use Rattle.rev_trees.proofs.Applied.{IsOnTheWay}
use Rattle.rev_trees.proofs.next.apply_all.Given as goal

-- the changes that are left make of what the edits show what all make of the youngest tree
abbrev pub invariant-changes : goal.invariant-changes
invariant-changes l = record {
  are : AreEdits l.rev l.cells l.edits;
  few : length l.edits.touched ≤ 65 * l.change-index;
  counted : l.index ≡ l.change-index;
  way : IsOnTheWay l.rev (trees_in l.revisions) l.index (drop l.change-index l.changes) (apply_from 0 l.changes (trees_in l.revisions) (youngest (trees_in l.revisions)) l.rev) l.cells l.edits;
}
