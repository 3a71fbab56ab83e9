-- Edits that came to be cells of the table.
use Rattle.std.specs.Prelude.{ℕ, suc, is_some, ◌≡◌, ◌≤◌, ◌<◌, ◌+◌, true, List, [], ◌∷◌, ◌++◌, Option, None, Some, map, length, if◌then◌else◌}
use Rattle.std.specs.Option.{option_map, option_map_or, unwrap_or}
use Rattle.std.specs.Str.{bytes_eq}
use Rattle.dsv_base.specs.Paths.{root_text}
use Rattle.rev_nodes.specs.declared.cell.Cell.{Cell}
use Rattle.rev_nodes.specs.declared.entry.Entry.{Entry}
use Rattle.node_table.specs.Ways.{Name, are_names}
use Rattle.node_table.specs.Tables.{height_over, cell_at, seen, IsSoundTable}
use Rattle.node_table.specs.Rebuilt.{root_spot}
use Rattle.tree_edits.specs.declared.held.Held.{Held}
use Rattle.tree_edits.specs.AreEdits.{AreTouched, AreEdits}
use Rattle.tree_edits.specs.Edits.{Touched, EditedTree, touched_at, held_from, held_node, shown}
use Rattle.tree_settling.specs.Merged.{AllMade, made_at, AreMerged}
use Rattle.tree_settling.specs.Listed.{AreListed}

-- how many of the touched paths have something that stands there
abbrev pub standing : Touched → ℕ
standing [] = 0
standing (t ∷ ts) = if is_some t.1 then suc (standing ts) else standing ts

-- new cells behind those of a table, one for each touched path where something stands, with which it is sound; and a root among them all, changed last in this revision or before, that shows what the edits do
pub record IsSettled (rev : ℕ) (cells : List Cell) (edits : EditedTree) (more : List Cell) (root : ℕ) : Type 0 where
  pub sound : IsSoundTable (cells ++ more)
  pub within : root < length (cells ++ more)
  pub created : (cell_at (cells ++ more) root).node.created ≤ rev
  pub shows : (ns : List Name) → are_names ns ≡ true → seen (cells ++ more) (Some (root_spot (cells ++ more) root)) ns ≡ shown cells edits ns
  pub count : length more ≡ standing edits.touched
  pub few : length more ≤ length edits.touched

-- edits over the tree of a root
abbrev pub edits_of : ℕ → Touched → EditedTree
edits_of root touched = record { root = root; touched = touched }

-- whichever revision the edits are of, they are settled
abbrev pub Settles : List Cell → EditedTree → List Cell → ℕ → Type 0
Settles cells edits more root = (rev : ℕ) → AreEdits rev cells edits → IsSettled rev cells edits more root

-- of some revision, what was touched is as edits leave it
abbrev pub AreOfEdits : List Cell → Touched → Type 0
AreOfEdits cells touched = (rev : ℕ) × AreTouched rev cells touched

-- what an edit leaves stands on numbers of the table
abbrev pub IsOnTable : List Cell → Option Held → Type 0
IsOnTable cells edit = (here : Held) (id : ℕ) → edit ≡ Some here → here.under ≡ Some id → id < length cells

-- what the table has in what stands at a place
abbrev pub entries_under : List Cell → Held → List Entry
entries_under cells here = option_map_or (λ id. (cell_at cells id).entries) here.under []

-- the cell of what stands at a path: that node and line, what was made in it over what the table has there, and the height that goes with it in the table with the cells behind it
pub record IsCellOf (cells more : List Cell) (made : AllMade) (path : List ℕ) (here : Held) (cell : Cell) : Type 0 where
  pub node : cell.node ≡ here.node
  pub line : cell.line ≡ here.line
  pub names : AllMade
  pub listed : AreListed path made names
  pub merged : AreMerged names (entries_under cells here) cell.entries
  pub height : cell.height ≡ height_over (cells ++ more) cell.entries

-- that cell is the one that was added
pub record IsAdded (cells : List Cell) (made : AllMade) (path : List ℕ) (here : Held) (old new : List Cell) : Type 0 where
  pub cell : Cell
  pub is : new ≡ old ++ cell ∷ []
  pub cell_is : IsCellOf cells old made path here cell

-- what was made of a path: nothing where nothing stands, and else a cell of it
abbrev pub IsMadeOf : List Cell → AllMade → List ℕ → Option Held → List Cell → List Cell → List ℕ × Option ℕ → Type 0
IsMadeOf cells made path None old new one = (one ≡ (path, None)) × (new ≡ old)
IsMadeOf cells made path (Some here) old new one = (one ≡ (path, Some (length cells + length old))) × IsAdded cells made path here old new

-- a number whose cell shows what stands at a path and below it
pub record IsMadeAt (cells : List Cell) (touched : Touched) (all : List Cell) (path : List ℕ) (here : Held) (id : ℕ) : Type 0 where
  pub within : id < length all
  pub node : (cell_at all id).node ≡ here.node
  pub line : (cell_at all id).line ≡ here.line
  pub shows : (ns : List Name) → are_names ns ≡ true → seen all (Some (record { id = id; line = here.line })) ns ≡ option_map held_node (held_from cells touched path (Some here) ns)

-- what was made of a path is what stands there
abbrev pub Agrees : List Cell → Touched → List Cell → List ℕ → Option (Option Held) → Option (Option ℕ) → Type 0
Agrees cells touched all path None None = Unit {0}
Agrees cells touched all path (Some None) (Some None) = Unit {0}
Agrees cells touched all path (Some (Some here)) (Some (Some id)) = IsMadeAt cells touched all path here id
Agrees cells touched all path edit made = ⊥

-- each of these touched paths has come to what stands there; there is one cell more for each where something does, and the table is sound with them
pub record AreSettled (cells : List Cell) (touched : Touched) (more : List Cell) (done : Touched) (made : AllMade) : Type 0 where
  pub sound : IsSoundTable (cells ++ more)
  pub keys : map (λ m. m.0) made ≡ map (λ t. t.0) done
  pub agree : (path : List ℕ) → Agrees cells touched (cells ++ more) path (touched_at done path) (made_at made path)
  pub count : length more ≡ standing done

-- what was made of `/`, which stands first, and else the old root
abbrev pub root_made : AllMade → ℕ → ℕ
root_made [] root = root
root_made (m ∷ ms) root = if bytes_eq m.0 root_text then unwrap_or m.1 root else root
