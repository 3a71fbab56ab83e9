use Rattle.std.proofs.Common.{◌≡◌, ◌≤◌, ◌+◌, length}
use Rattle.rev_trees.specs.Readies.{revisions_of}
use Rattle.rev_scripts.specs.Scripts.{revisions_from}
use Rattle.rev_scripts.proofs.ReadRevisions.{IsLeft}
use Rattle.rev_scripts.proofs.build.read_others.Given as goal

-- the trees so far, and the revisions that are left
abbrev pub invariant-revisions : goal.invariant-revisions
invariant-revisions l = record {
  read : IsLeft (revisions_of l.trees) l.begins l.rest (revisions_from (length l.fn.text) (revisions_of l.fn.trees) l.fn.line l.fn.text);
  name : l.trees.name ≡ l.fn.trees.name;
  uuid : l.trees.uuid ≡ l.fn.trees.uuid;
  room : l.begins + length l.rest ≤ l.fn.line + length l.fn.text;
  few : length l.trees.revisions + length l.rest ≤ length l.fn.trees.revisions + length l.fn.text;
}

abbrev pub decreases-revisions : goal.decreases-revisions
decreases-revisions l = length l.rest
