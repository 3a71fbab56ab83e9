-- Edits that touch nothing show what their root does.
use Rattle.std.proofs.Common.{◌≡◌, ℕ, List, [], ◌∷◌, Option, None, Some, refl, sym, ap, subst, ◌∙◌}
use Rattle.std.specs.Option.{option_map}
use Rattle.dsv_base.specs.Paths.{root_text, join_text}
use Rattle.rev_nodes.specs.declared.cell.Cell.{Cell}
use Rattle.rev_nodes.specs.Trees.{Tree}
use Rattle.node_table.specs.Ways.{Name}
use Rattle.node_table.specs.Tables.{Spot, cell_at, child_in, spot_in, walk, spot_node, seen, below_line}
use Rattle.node_table.specs.Rebuilt.{root_spot}
use Rattle.node_table.specs.Shown.{IsShown}
use Rattle.node_table.proofs.Growing.{walk_none}
use Rattle.tree_edits.specs.declared.held.Held.{Held}
use Rattle.tree_edits.specs.Edits.{EditedTree, held_in, held_from, held_node, shown, AreShown}
use Rattle.tree_edits.specs.AreEdits.{AreEdits}
use Rattle.tree_edits.specs.Reading.{CanReadEdits}

-- no edits, over the tree of a root
abbrev pub untouched : ℕ → EditedTree
untouched root = record { root = root; touched = [] }

held_none : (cells : List Cell) (path : List ℕ) (ns : List Name) → held_from cells [] path None ns ≡ None
held_none cells path [] = refl
held_none cells path (n ∷ ns) = refl

-- what is held at a spot
abbrev held_at : List Cell → Spot → Held
held_at cells spot = held_in cells spot.line spot.id

held_walk : (cells : List Cell) (ns : List Name) (path : List ℕ) (spot : Spot) → held_from cells [] path (Some (held_at cells spot)) ns ≡ option_map (held_at cells) (walk cells (Some spot) ns)
held_walk cells [] path spot = refl
held_walk cells (n ∷ ns) path spot = by (child_in cells n spot.id) (λ i. held_walk cells ns (join_text path n) (spot_in cells spot.line n i))
  where
    by : (o : Option ℕ) → ((i : ℕ) → held_from cells [] (join_text path n) (Some (held_at cells (spot_in cells spot.line n i))) ns ≡ option_map (held_at cells) (walk cells (Some (spot_in cells spot.line n i)) ns))
        → held_from cells [] (join_text path n) (option_map (λ (i : ℕ). held_in cells (below_line spot.line n (cell_at cells i).line) i) o) ns ≡ option_map (held_at cells) (walk cells (option_map (spot_in cells spot.line n) o) ns)
    by None go = held_none cells (join_text path n) ns ∙ sym (ap (option_map (held_at cells)) (walk_none cells ns))
    by (Some i) go = go i

pub untouched_shown : (cells : List Cell) (root : ℕ) (ns : List Name) → shown cells (untouched root) ns ≡ seen cells (Some (root_spot cells root)) ns
untouched_shown cells root ns = ap (option_map held_node) (held_walk cells ns root_text (root_spot cells root)) ∙ nodes (walk cells (Some (root_spot cells root)) ns)
  where
    nodes : (o : Option Spot) → option_map held_node (option_map (held_at cells) o) ≡ option_map (spot_node cells) o
    nodes None = refl
    nodes (Some s) = refl

-- so they show its tree
pub shows_tree : (cells : List Cell) (root : ℕ) (tree : Tree) (edits : EditedTree) → edits ≡ untouched root → IsShown cells root tree → AreShown cells edits tree
shows_tree cells root tree edits is s = subst (λ (e : EditedTree). AreShown cells e tree) (sym is) (record {
  shows = λ ns named. s.shown ns named ∙ sym (untouched_shown cells root ns);
  formed = s.formed;
})

-- edits of a revision can be read
pub can_read : (rev : ℕ) (cells : List Cell) (edits : EditedTree) → AreEdits rev cells edits → CanReadEdits cells edits
can_read rev cells edits are = record {
  root = are.within;
  touched = record { sound = are.sound; within = λ path here e. (are.touched.held path here e).within };
}
