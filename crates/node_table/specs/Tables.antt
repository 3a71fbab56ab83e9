-- A table of nodes that are linked by number.
use Rattle.std.specs.Prelude.{ℕ, ◌≡◌, ◌<◌, ◌≤◌, nat_le, Bool, false, List, [], ◌∷◌, Option, None, Some, map, length, slice_index_or, IsTrue, if◌then◌else◌}
use Rattle.std.specs.Option.{option_map, option_and_then}
use Rattle.std.specs.FinMap.{find, is_sorted}
use Rattle.std.specs.Ordering.{nat_cmp}
use Rattle.std.specs.Cmp.Lexicographic.{slice_cmp}
use Rattle.dsv_base.specs.Paths.{is_component, join_text}
use Rattle.rev_nodes.specs.declared.entry.Entry.{Entry}
use Rattle.rev_nodes.specs.declared.height.Height.{Height}
use Rattle.rev_nodes.specs.declared.kind.Kind.TheVariants.{File}
use Rattle.rev_nodes.specs.declared.line.Line.{Line}
use Rattle.rev_nodes.specs.Trees.{TreeNode, is_dir_kind}
use Rattle.rev_nodes.specs.declared.cell.Cell.{Cell}
use Rattle.node_table.specs.Ways.{Name}
use Rattle.node_table.specs.Heights.{no_height, height_below, higher}

-- an entry as a name with its number
abbrev pub pair : Entry → Name × ℕ
pair e = (e.name, e.id)

-- the number at a name
abbrev pub child : Name → List Entry → Option ℕ
child n entries = find (slice_cmp nat_cmp) n (map pair entries)

-- the entries rise by their names
abbrev pub entries_rise : List Entry → Bool
entries_rise entries = is_sorted (slice_cmp nat_cmp) (map pair entries)

-- this is the index of one of the entries, and the name leads to the number of that
pub record IsEntryAt (entries : List Entry) (name : Name) (index : ℕ) : Type 0 where
  pub within : index < length entries
  pub found : (d : Entry) → child name entries ≡ Some (slice_index_or entries index d).id

-- past the end of the table stands a file without text
abbrev pub no_cell : Cell
no_cell = record { node = record { kind = File; props = []; text = []; created = 0 }; line = record { since = 0; source = None }; entries = []; height = no_height }

-- the cell of a number
abbrev pub cell_at : List Cell → ℕ → Cell
cell_at cells id = slice_index_or cells id no_cell

-- the number at a name in a directory
abbrev pub child_in : List Cell → Name → ℕ → Option ℕ
child_in cells n id = child n (cell_at cells id).entries

-- the number that names lead to
abbrev pub reach : List Cell → Option ℕ → List Name → Option ℕ
reach cells id [] = id
reach cells id (n ∷ ns) = reach cells (option_and_then (child_in cells n) id) ns

-- a number where it stands, with the line of its place
pub record Spot : Type 0 where
  pub id : ℕ
  pub line : Line

-- the line that a directory's gives to a name in it
abbrev pub carried_line : Line → Name → Line
carried_line above n = record { since = above.since; source = option_map (λ s. (join_text s.0 n, s.1)) above.source }

-- the line of a place by that of its directory: the younger of the two, and its own where both are as young
abbrev pub below_line : Line → Name → Line → Line
below_line above n own = if nat_le above.since own.since then own else carried_line above n

-- a number in the directory at a place
abbrev pub spot_in : List Cell → Line → Name → ℕ → Spot
spot_in cells line n id = record { id = id; line = below_line line n (cell_at cells id).line }

-- one name down
abbrev pub one_down : List Cell → Name → Spot → Option Spot
one_down cells n spot = option_map (spot_in cells spot.line n) (child_in cells n spot.id)

-- where names lead to
abbrev pub walk : List Cell → Option Spot → List Name → Option Spot
walk cells spot [] = spot
walk cells spot (n ∷ ns) = walk cells (option_and_then (one_down cells n) spot) ns

-- what stands at a place
abbrev pub spot_node : List Cell → Spot → TreeNode
spot_node cells spot = record { node = (cell_at cells spot.id).node; line = spot.line }

-- what stands where names lead to
abbrev pub seen : List Cell → Option Spot → List Name → Option TreeNode
seen cells spot ns = option_map (spot_node cells) (walk cells spot ns)

-- a name that leads from a directory to a number is a component of paths, the number is below that of the directory, and its node was changed last no later than the directory
pub record IsChild (cells : List Cell) (id : ℕ) (n : Name) (i : ℕ) : Type 0 where
  pub lower : i < id
  pub name : IsTrue (is_component n)
  pub older : (cell_at cells i).node.created ≤ (cell_at cells id).node.created

-- how long the longest ways are that begin with one of these entries
abbrev pub height_over : List Cell → List Entry → Height
height_over cells [] = no_height
height_over cells (e ∷ es) = higher (height_below e.name (cell_at cells e.id).height) (height_over cells es)

-- the entries rise by their names, each leads to a child, and a file has none; the line began no later than the node was changed last; the height is that of the longest ways through the entries
pub record IsCell (cells : List Cell) (id : ℕ) : Type 0 where
  pub sorted : IsTrue (entries_rise (cell_at cells id).entries)
  pub children : (n : Name) (i : ℕ) → child_in cells n id ≡ Some i → IsChild cells id n i
  pub file : is_dir_kind (cell_at cells id).node.kind ≡ false → (cell_at cells id).entries ≡ []
  pub since : (cell_at cells id).line.since ≤ (cell_at cells id).node.created
  pub height : (cell_at cells id).height ≡ height_over cells (cell_at cells id).entries

-- each cell of the table is so
abbrev pub IsSoundTable : List Cell → Type 0
IsSoundTable cells = (id : ℕ) → IsCell cells id
