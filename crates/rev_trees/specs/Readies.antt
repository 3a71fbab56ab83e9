-- A revision that is ready to be pushed, and what the two steps of a push do.
use Rattle.std.specs.Prelude.{ℕ, ◌≡◌, ◌≤◌, ◌*◌, List, [], ◌∷◌, ◌++◌, Result, Ok, Err, length, map}
use Rattle.rev_nodes.specs.declared.cell.Cell.{Cell}
use Rattle.rev_nodes.specs.declared.changed.Changed.{Changed}
use Rattle.rev_nodes.specs.declared.commit.Commit.{Commit}
use Rattle.rev_trees.specs.declared.push_fault.PushFault.{PushFault}
use Rattle.rev_trees.specs.declared.push_fault.PushFault.TheVariants.{Unfit, FullRevisions, NoMemory}
use Rattle.rev_nodes.specs.declared.unfit.Unfit as unfit
use Rattle.rev_nodes.specs.Trees.{Tree, Revision}
use Rattle.rev_nodes.specs.ChangedPaths.{changed_paths}
use Rattle.rev_nodes.specs.Pushes.{youngest_tree, tree_after}
use Rattle.rev_nodes.specs.Forests.{ForestRevision, Forest, tree_of, without_numbers}

-- a revision that was prepared on these revisions and nodes, and how much room it needs to be pushed, for revisions and for nodes
pub record ReadyRevision : Type 0 where
  pub base : List ForestRevision
  pub nodes : List Cell
  pub needs : ℕ
  pub node_needs : ℕ
  pub commit : Commit
  pub changed : List Changed
  pub tree : Tree

-- it was prepared on the revisions and nodes of these trees, which have room for it
pub record IsReadyOn (ready : ReadyRevision) (forest : Forest) : Type 0 where
  pub base : ready.base ≡ forest.revisions
  pub nodes : ready.nodes ≡ forest.nodes
  pub roomy : ready.needs ≤ forest.room
  pub node_roomy : ready.node_needs ≤ forest.node_room

-- the revisions of the trees, without the numbers of nodes
abbrev pub revisions_of : Forest → List Revision
revisions_of forest = map without_numbers forest.revisions

-- the trees are as they were, and have no less room: what was ready stays so
pub record IsUnchanged (old : Forest) (new : Forest) : Type 0 where
  pub name : new.name ≡ old.name
  pub uuid : new.uuid ≡ old.uuid
  pub revisions : new.revisions ≡ old.revisions
  pub nodes : new.nodes ≡ old.nodes
  pub room : old.room ≤ new.room
  pub node_room : old.node_room ≤ new.node_room

-- what is ready is the next revision of the commit
pub record IsNext (revisions : List Revision) (commit : Commit) (ready : ReadyRevision) : Type 0 where
  pub commit_is : ready.commit ≡ commit
  pub tree_is : tree_after revisions commit ≡ Ok ready.tree
  pub changed_is : ready.changed ≡ changed_paths commit.changes (youngest_tree revisions) ready.tree

-- what is ready is the next revision of the commit, prepared on these trees, which have room for it; or this is the number of the first change that doesn't fit; or there are no more numbers, which is told before any change is tried; want of memory is free
abbrev pub Prepares : Commit → Forest → Forest → Result ReadyRevision PushFault → Type 0
Prepares commit old new (Ok ready) = (length old.revisions ≤ 2000000000) × IsReadyOn ready new × IsNext (revisions_of old) commit ready
Prepares commit old new (Err (Unfit index)) = (length old.revisions ≤ 2000000000) × (why : unfit.Unfit) × (tree_after (revisions_of old) commit ≡ Err (index, why))
Prepares commit old new (Err FullRevisions) = length old.revisions ≡ 2000000001
Prepares commit old new (Err NoMemory) = length old.revisions ≤ 2000000000

-- one revision more, which is the one that was ready; the name, the uuid and the other revisions are as they were, and so are the nodes, behind which there are at most 65 more for each change
pub record Pushes (ready : ReadyRevision) (old : Forest) (new : Forest) : Type 0 where
  pub name : new.name ≡ old.name
  pub uuid : new.uuid ≡ old.uuid
  pub revision : ForestRevision
  pub revisions : new.revisions ≡ old.revisions ++ revision ∷ []
  pub commit : revision.commit ≡ ready.commit
  pub changed : revision.changed ≡ ready.changed
  pub tree : tree_of revision.places ≡ ready.tree
  pub more : List Cell
  pub nodes : new.nodes ≡ old.nodes ++ more
  pub few : length more ≤ 65 * length ready.commit.changes
