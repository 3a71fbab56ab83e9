-- Edits over a tree of the table: at each path that a change touched, what stands there now.
use Rattle.std.specs.Prelude.{ℕ, ◌≡◌, true, List, [], ◌∷◌, Option, None, Some}
use Rattle.std.specs.Option.{option_map, option_and_then}
use Rattle.std.specs.FinMap.{find}
use Rattle.std.specs.Ordering.{nat_cmp}
use Rattle.std.specs.Cmp.Lexicographic.{slice_cmp}
use Rattle.dsv_base.specs.Paths.{root_text, join_text}
use Rattle.rev_nodes.specs.declared.line.Line.{Line}
use Rattle.rev_nodes.specs.Trees.{TreeNode, Tree, at}
use Rattle.rev_nodes.specs.Formed.{IsFormed}
use Rattle.rev_nodes.specs.declared.cell.Cell.{Cell}
pub use Rattle.tree_edits.specs.declared.held.Held.{Held}
use Rattle.rev_nodes.specs.Subtrees.{path_below}
use Rattle.node_table.specs.Ways.{Name, are_names}
use Rattle.node_table.specs.Tables.{cell_at, child_in, below_line}

-- the touched paths in byte order, each once, with what stands there now, or that nothing does
abbrev pub Touched : Type 0
Touched = List (List ℕ × Option Held)

-- edits over the tree of a root of the table
pub record EditedTree : Type 0 where
  pub root : ℕ
  pub touched : Touched

-- what an edit says of a path, if one touched it
abbrev pub touched_at : Touched → List ℕ → Option (Option Held)
touched_at touched path = find (slice_cmp nat_cmp) path touched

-- a node of the table at a place with this line
abbrev pub held_in : List Cell → Line → ℕ → Held
held_in cells line id = record { node = (cell_at cells id).node; line = line; under = Some id }

-- what the table has one name below a place
abbrev pub child_of : List Cell → Name → Held → Option Held
child_of cells n here = option_map (λ i. held_in cells (below_line here.line n (cell_at cells i).line) i) (option_and_then (child_in cells n) here.under)

-- what an edit says counts before what the table has
abbrev pub or_touched : Option (Option Held) → Option Held → Option Held
or_touched None other = other
or_touched (Some edit) other = edit

-- where names lead from a place at a path; edits below it count only where something stands there
abbrev pub held_from : List Cell → Touched → List ℕ → Option Held → List Name → Option Held
held_from cells touched path here [] = here
held_from cells touched path None (n ∷ ns) = None
held_from cells touched path (Some here) (n ∷ ns) = held_from cells touched (join_text path n) (or_touched (touched_at touched (join_text path n)) (child_of cells n here)) ns

-- what stands at the root
abbrev pub held_root : List Cell → EditedTree → Option Held
held_root cells edits = or_touched (touched_at edits.touched root_text) (Some (held_in cells (cell_at cells edits.root).line edits.root))

-- what stands where names lead from the root
abbrev pub held : List Cell → EditedTree → List Name → Option Held
held cells edits ns = held_from cells edits.touched root_text (held_root cells edits) ns

-- the node of a tree that a place shows
abbrev pub held_node : Held → TreeNode
held_node here = record { node = here.node; line = here.line }

-- what is shown where names lead from the root
abbrev pub shown : List Cell → EditedTree → List Name → Option TreeNode
shown cells edits ns = option_map held_node (held cells edits ns)

-- the flat tree is formed, and has at each path what the edits show there
pub record AreShown (cells : List Cell) (edits : EditedTree) (tree : Tree) : Type 0 where
  pub shows : (ns : List Name) → are_names ns ≡ true → at (path_below root_text ns) tree ≡ shown cells edits ns
  pub formed : IsFormed tree
