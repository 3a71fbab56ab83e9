-- What a table has one name below a place, what is read without memory, and what is asked of touched paths that are read.
use Rattle.std.specs.Prelude.{ℕ, ◌≡◌, ◌<◌, max, List, Option, Some, None, length, ◌∷◌, [], true}
use Rattle.std.specs.Option.{option_map, option_and_then}
use Rattle.dsv_base.specs.Paths.{is_component, components, join_text}
use Rattle.rev_nodes.specs.declared.cell.Cell.{Cell}
use Rattle.rev_nodes.specs.declared.line.Line.{Line}
use Rattle.node_table.specs.Ways.{Name}
use Rattle.node_table.specs.Tables.{cell_at, child_in, below_line, IsSoundTable}
pub use Rattle.tree_edits.specs.declared.glance.Glance.{Glance}
use Rattle.tree_edits.specs.declared.sight.Sight.{Sight}
use Rattle.tree_edits.specs.Edits.{Held, Touched, EditedTree, touched_at, held_in}
use Rattle.tree_edits.specs.Rests.{IsRest}

-- what the table has at a name below a place of this line, in what stands there by number
abbrev pub table_child : List Cell → Line → Option ℕ → Name → Option Held
table_child cells line under n = option_map (λ i. held_in cells (below_line line n (cell_at cells i).line) i) (option_and_then (child_in cells n) under)

-- what a glance sees of what stands at a place: its kind, the revision of its last change, and the one in which its line began
abbrev pub glance_of : Held → Glance
glance_of here = record { kind = here.node.kind; created = here.node.created; since = here.line.since }

-- what is read of it on the way to another place: the same, and the number of what stands in it by the table
abbrev pub sight_of : Held → Sight
sight_of here = record { glance = glance_of here; under = here.under }

-- what is read so of a node of the table in a directory whose line began in this revision: its line began in the younger of that and its own
abbrev pub sight_in : List Cell → ℕ → ℕ → Sight
sight_in cells since id = record { glance = record { kind = (cell_at cells id).node.kind; created = (cell_at cells id).node.created; since = max since (cell_at cells id).line.since }; under = Some id }

-- the number under a place is one of the table
abbrev pub IsUnder : List Cell → Option ℕ → Type 0
IsUnder cells under = (id : ℕ) → under ≡ Some id → id < length cells

-- it is so where something stands
abbrev pub HasUnder : List Cell → Option Held → Type 0
HasUnder cells None = Unit {0}
HasUnder cells (Some here) = IsUnder cells here.under

-- so are those of the touched paths, and the table is sound
pub record CanRead (cells : List Cell) (touched : Touched) : Type 0 where
  pub sound : IsSoundTable cells
  pub within : (path : List ℕ) (here : Held) → touched_at touched path ≡ Some (Some here) → IsUnder cells here.under

-- the root is one of the table too
pub record CanReadEdits (cells : List Cell) (edits : EditedTree) : Type 0 where
  pub root : edits.root < length cells
  pub touched : CanRead cells edits.touched

-- the rest of a path is its last name
pub record IsLastName (text path rest : List ℕ) : Type 0 where
  pub cut : components rest ≡ rest ∷ []
  pub is : text ≡ join_text path rest

-- the rest of a path is a name, to which this path leads, and behind it more, which is shorter
pub record IsNextName (text path rest name next after : List ℕ) : Type 0 where
  pub cut : components rest ≡ name ∷ components after
  pub is : next ≡ join_text path name
  pub more : is_component name ≡ true → IsRest text next after
  pub shorter : length after < length rest
