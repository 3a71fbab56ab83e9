-- What is true of all edits that changes lead to.
use Rattle.std.specs.Prelude.{ℕ, ◌≡◌, ◌<◌, ◌≤◌, true, false, List, [], Option, None, Some, length, is_some}
use Rattle.std.specs.FinMap.{is_sorted}
use Rattle.std.specs.Ordering.{nat_cmp}
use Rattle.std.specs.Cmp.Lexicographic.{slice_cmp}
use Rattle.dsv_base.specs.Paths.{is_path, parent_text}
use Rattle.rev_nodes.specs.declared.cell.Cell.{Cell}
use Rattle.rev_nodes.specs.Trees.{is_dir_kind}
use Rattle.node_table.specs.Tables.{cell_at, IsSoundTable}
use Rattle.tree_edits.specs.Edits.{Held, Touched, EditedTree, touched_at}

-- what stands at a touched path fits the table and the revision: it was changed last in that or before, it began no later than it was changed, what stands in it by the table is of the table and was changed no later, and nothing stands in a file
pub record IsHeld (rev : ℕ) (cells : List Cell) (here : Held) : Type 0 where
  pub created : here.node.created ≤ rev
  pub since : here.line.since ≤ here.node.created
  pub within : (id : ℕ) → here.under ≡ Some id → id < length cells
  pub older : (id : ℕ) → here.under ≡ Some id → (cell_at cells id).node.created ≤ here.node.created
  pub file : (id : ℕ) → here.under ≡ Some id → is_dir_kind here.node.kind ≡ false → (cell_at cells id).entries ≡ []

-- the parent of a touched path is touched, a directory stands there, and it was changed no earlier and began no later than what stands in it
pub record IsInDir (touched : Touched) (parent : List ℕ) (edit : Option Held) : Type 0 where
  pub above : Held
  pub there : touched_at touched parent ≡ Some (Some above)
  pub dir : is_dir_kind above.node.kind ≡ true
  pub created : (here : Held) → edit ≡ Some here → here.node.created ≤ above.node.created
  pub since : (here : Held) → edit ≡ Some here → above.line.since ≤ here.line.since

-- a touched path is a path, stands in a touched directory, and is gone only where it isn't `/`
pub record IsPlaced (touched : Touched) (path : List ℕ) (edit : Option Held) : Type 0 where
  pub one : is_path path ≡ true
  pub parents : (parent : List ℕ) → parent_text path ≡ Some parent → IsInDir touched parent edit
  pub stands : parent_text path ≡ None → is_some edit ≡ true

-- touched paths that rise, each of them placed, with what fits the table
pub record AreTouched (rev : ℕ) (cells : List Cell) (touched : Touched) : Type 0 where
  pub sorted : is_sorted (slice_cmp nat_cmp) touched ≡ true
  pub placed : (path : List ℕ) (edit : Option Held) → touched_at touched path ≡ Some edit → IsPlaced touched path edit
  pub held : (path : List ℕ) (here : Held) → touched_at touched path ≡ Some (Some here) → IsHeld rev cells here

-- edits of a revision over a root of a sound table, whose node was changed last in that revision or before
pub record AreEdits (rev : ℕ) (cells : List Cell) (edits : EditedTree) : Type 0 where
  pub sound : IsSoundTable cells
  pub within : edits.root < length cells
  pub young : (cell_at cells edits.root).node.created ≤ rev
  pub touched : AreTouched rev cells edits.touched
