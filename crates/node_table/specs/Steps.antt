-- The roots that changes begin at and copies are taken from.
use Rattle.std.specs.Prelude.{ℕ, true, ◌≡◌, ◌≤◌, ◌<◌, List, [], Option, Some, None, length}
use Rattle.rev_nodes.specs.declared.cell.Cell.{Cell}
use Rattle.rev_nodes.specs.declared.kind.Kind.{Kind}
use Rattle.rev_nodes.specs.declared.change.Change.{Change}
use Rattle.rev_nodes.specs.declared.change.Change.TheVariants.{Put, SetProp, DelProp, Mkdir, Delete, Copy}
use Rattle.rev_nodes.specs.Trees.{Tree, tree_at}
use Rattle.rev_nodes.specs.Fitting.{in_order}
use Rattle.rev_nodes.specs.Formed.{IsFormed}
use Rattle.node_table.specs.Heights.{no_height}
use Rattle.node_table.specs.Tables.{cell_at, IsSoundTable}
use Rattle.node_table.specs.Shown.{IsShown}

-- a cell that begins in this revision, by no copy, with nothing in it
abbrev pub new_cell : ℕ → Kind → List ℕ → Cell
new_cell r kind text = record { node = record { kind = kind; props = []; text = text; created = r }; line = record { since = r; source = None }; entries = []; height = no_height }

-- a number of a sound table whose node was changed last in this revision or before, so that a change of it can begin there
pub record IsBase (r : ℕ) (cells : List Cell) (root : ℕ) : Type 0 where
  pub sound : IsSoundTable cells
  pub within : root < length cells
  pub young : (cell_at cells root).node.created ≤ r

-- trees that can be copied from: the places of each stand in order, and each of them is formed
pub record AreSources (trees : List Tree) : Type 0 where
  pub sorted : (rev : ℕ) → in_order (tree_at trees rev) ≡ true
  pub formed : (rev : ℕ) → rev < length trees → IsFormed (tree_at trees rev)

-- a number of the table whose node was changed last before this revision
pub record IsSource (r : ℕ) (cells : List Cell) (from : ℕ) : Type 0 where
  pub within : from < length cells
  pub young : (cell_at cells from).node.created < r

-- the tree that a copy is taken from is shown by this root, or there is none
abbrev pub IsFrom : List Cell → Option ℕ → ℕ → List Tree → Type 0
IsFrom cells None rev trees = tree_at trees rev ≡ []
IsFrom cells (Some id) rev trees = IsShown cells id (tree_at trees rev) × (rev < length trees)

-- where the change is a copy, the tree that it is taken from is shown by this root, or there is none
abbrev pub HasSource : List Cell → Option ℕ → Change → List Tree → Type 0
HasSource cells from (Put path text) trees = Unit {0}
HasSource cells from (SetProp path name value) trees = Unit {0}
HasSource cells from (DelProp path name) trees = Unit {0}
HasSource cells from (Mkdir path) trees = Unit {0}
HasSource cells from (Delete path) trees = Unit {0}
HasSource cells from (Copy source rev path) trees = IsFrom cells from rev trees
