-- The next revision, as it is made from those that are kept.
use Rattle.std.specs.Prelude.{ℕ, ◌≡◌, ◌*◌, ◌≤◌, ◌<◌, ◌++◌, ⊤, List, Result, Ok, Err, length, IsTrue}
use Rattle.rev_nodes.specs.declared.cell.Cell.{Cell}
use Rattle.rev_nodes.specs.declared.commit.Commit.{Commit}
use Rattle.rev_nodes.specs.declared.unfit.Unfit.{Unfit}
use Rattle.rev_nodes.specs.declared.unfit.Unfit.TheVariants.{NoNode, IsRoot, Exists, NoParent, TooLong, NoMemory}
use Rattle.rev_nodes.specs.Trees.{Tree}
use Rattle.rev_nodes.specs.ChangedPaths.{changed_paths}
use Rattle.rev_nodes.specs.Fitting.{in_order}
use Rattle.node_table.specs.Tables.{cell_at, IsSoundTable}
use Rattle.node_table.specs.Shown.{IsShown}
use Rattle.tree_edits.specs.Edits.{EditedTree, AreShown}
use Rattle.rev_trees.specs.declared.push_fault.PushFault.{PushFault}
use Rattle.rev_trees.specs.declared.push_fault.PushFault.TheVariants as faults
use Rattle.rev_trees.specs.declared.next.NextRevision.{NextRevision}
use Rattle.rev_trees.specs.Kept.{youngest, made_of}

-- the fault of the change of this number
abbrev pub fault_of : ℕ → Unfit → PushFault
fault_of index NoMemory = faults.NoMemory
fault_of index NoNode = faults.Unfit index
fault_of index IsRoot = faults.Unfit index
fault_of index Exists = faults.Unfit index
fault_of index NoParent = faults.Unfit index
fault_of index TooLong = faults.Unfit index

-- all changes fit, and the edits show the tree that comes of them, whose places stand in order
pub record AreDone (read : Result Tree (ℕ × Unfit)) (cells : List Cell) (edits : EditedTree) : Type 0 where
  pub tree : Tree
  pub is : read ≡ Ok tree
  pub shown : AreShown cells edits tree
  pub sorted : IsTrue (in_order tree)

-- the edits show what comes of all changes, or this is the number of the first that doesn't fit; want of memory is free
abbrev pub AppliesAll : Result Tree (ℕ × Unfit) → List Cell → EditedTree → Result (Unit {0}) PushFault → Type 0
AppliesAll read cells edits (Ok done) = AreDone read cells edits
AppliesAll read cells edits (Err (faults.Unfit index)) = (why : Unfit) × (read ≡ Err (index, why))
AppliesAll read cells edits (Err faults.FullRevisions) = ⊥
AppliesAll read cells edits (Err faults.NoMemory) = ⊤

-- the revision is what the commit makes of the trees so far, with its nodes behind those of the table
pub record IsMade (cells : List Cell) (trees : List Tree) (commit : Commit) (made : NextRevision) : Type 0 where
  pub commit_is : made.revision.commit ≡ commit
  pub tree : Tree
  pub tree_is : made_of trees commit ≡ Ok tree
  pub changed_is : made.revision.changed ≡ changed_paths commit.changes (youngest trees) tree
  pub sound : IsSoundTable (cells ++ made.cells.items)
  pub within : made.revision.root < length (cells ++ made.cells.items)
  pub created : (cell_at (cells ++ made.cells.items) made.revision.root).node.created ≤ length trees
  pub shown : IsShown (cells ++ made.cells.items) made.revision.root tree
  pub sorted : IsTrue (in_order tree)
  pub few : length made.cells.items ≤ 65 * length commit.changes

-- what making the next revision answers
abbrev pub Makes : List Cell → List Tree → Commit → Result NextRevision PushFault → Type 0
Makes cells trees commit (Ok made) = IsMade cells trees commit made
Makes cells trees commit (Err (faults.Unfit index)) = (why : Unfit) × (made_of trees commit ≡ Err (index, why))
Makes cells trees commit (Err faults.FullRevisions) = ⊥
Makes cells trees commit (Err faults.NoMemory) = ⊤
