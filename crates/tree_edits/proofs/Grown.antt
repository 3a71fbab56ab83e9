-- Edits stay edits where the table grows, and what they show stays.
use Rattle.std.proofs.Common.{◌≡◌, ℕ, ◌<◌, ◌≤◌, List, [], ◌∷◌, Option, None, Some, length, refl, sym, ap, subst, ◌∙◌, arith, length-append}
use Rattle.std.specs.Option.{option_map}
use Rattle.dsv_base.specs.Paths.{root_text, join_text}
use Rattle.rev_nodes.specs.declared.cell.Cell.{Cell}
use Rattle.rev_nodes.specs.declared.line.Line.{Line}
use Rattle.rev_nodes.specs.Trees.{Tree}
use Rattle.node_table.specs.Ways.{Name}
use Rattle.node_table.specs.Tables.{cell_at, child, child_in, below_line, IsSoundTable}
use Rattle.node_table.specs.Rebuilt.{IsLonger}
use Rattle.node_table.proofs.Growing.{cell_at-kept, child_within}
use Rattle.tree_edits.specs.Edits.{Held, EditedTree, touched_at, held_in, child_of, or_touched, held_from, held_root, held, held_node, AreShown}
use Rattle.tree_edits.specs.AreEdits.{IsHeld, AreEdits}
use Rattle.tree_edits.specs.Reading.{table_child, IsUnder, HasUnder}
use Rattle.tree_edits.specs.Hanging.{child_held}
use Rattle.tree_edits.proofs.StepsDown.{can_read, can_touched}

module _ (old new : List Cell) (grown : IsLonger old new) where
  cell_grown : (id : ℕ) → id < length old → cell_at new id ≡ cell_at old id
  cell_grown id less = ap (λ cs. cell_at cs id) grown.is ∙ cell_at-kept old grown.more id less

  number_grown : (id : ℕ) → id < length old → id < length new
  number_grown id less = let l = ap length grown.is in let s = length-append old grown.more in omega (arith, l, s, less)

  place_grown : (r : ℕ) (here : Held) → IsHeld r old here → IsHeld r new here
  place_grown r here h = record {
    created = h.created;
    since = h.since;
    within = λ id e. number_grown id (h.within id e);
    older = λ id e. subst (λ (c : Cell). c.node.created ≤ here.node.created) (sym (cell_grown id (h.within id e))) (h.older id e);
    file = λ id e k. ap (λ (c : Cell). c.entries) (cell_grown id (h.within id e)) ∙ h.file id e k;
  }

  -- edits over a table are edits over a longer one
  pub are_grown : (r : ℕ) (edits : EditedTree) → IsSoundTable new → AreEdits r old edits → AreEdits r new edits
  are_grown r edits sound are = record {
    sound = sound;
    within = number_grown edits.root are.within;
    young = subst (λ (c : Cell). c.node.created ≤ r) (sym (cell_grown edits.root are.within)) are.young;
    touched = record {
      sorted = are.touched.sorted;
      placed = are.touched.placed;
      held = λ path here there. place_grown r here (are.touched.held path here there);
    };
  }

  module _ (r : ℕ) (edits : EditedTree) (are : AreEdits r old edits) where
    child_grown : (line : Line) (n : Name) (under : Option ℕ) → IsUnder old under → (table_child new line under n ≡ table_child old line under n) × HasUnder old (table_child old line under n)
    child_grown line n None u = (refl, tt)
    child_grown line n (Some id) u =
        let b = by (child_in old n id) refl in
        (ap (λ (c : Cell). option_map (λ i. held_in new (below_line line n (cell_at new i).line) i) (child n c.entries)) (cell_grown id (u id refl)) ∙ b.0, b.1)
      where
        by : (o : Option ℕ) → child_in old n id ≡ o → (option_map (λ i. held_in new (below_line line n (cell_at new i).line) i) o ≡ option_map (λ i. held_in old (below_line line n (cell_at old i).line) i) o) × HasUnder old (option_map (λ i. held_in old (below_line line n (cell_at old i).line) i) o)
        by None e = (refl, tt)
        by (Some i) e =
            let less = child_within old are.sound n id i (u id refl) e in (
              ap (λ (c : Cell). let h : Held = record { node = c.node; line = below_line line n c.line; under = Some i } in Some h) (cell_grown i less),
              λ k f. subst (λ m. m < length old) (let s : i ≡ k = cc in s) less,
            )

    from_grown : (ns : List Name) (path : List ℕ) (here : Option Held) → HasUnder old here → held_from new edits.touched path here ns ≡ held_from old edits.touched path here ns
    from_grown [] path here u = refl
    from_grown (n ∷ ns) path None u = refl
    from_grown (n ∷ ns) path (Some here) u =
        let c = child_grown here.line n here.under u in
        ap (λ o. held_from new edits.touched (join_text path n) (or_touched (touched_at edits.touched (join_text path n)) o) ns) c.0
        ∙ from_grown ns (join_text path n) (child_held old edits.touched path n here) (can_touched old edits.touched (join_text path n) (child_of old n here) (can_read r old edits are).touched c.1)

    -- what stands where names lead stays
    pub held_grown : (ns : List Name) → held new edits ns ≡ held old edits ns
    held_grown ns =
        ap (λ (c : Cell). let h : Held = record { node = c.node; line = c.line; under = Some edits.root } in held_from new edits.touched root_text (or_touched (touched_at edits.touched root_text) (Some h)) ns) (cell_grown edits.root are.within)
        ∙ from_grown ns root_text (held_root old edits) (can_touched old edits.touched root_text (Some (held_in old (cell_at old edits.root).line edits.root)) (can_read r old edits are).touched (λ id e. subst (λ k. k < length old) (let s : edits.root ≡ id = cc in s) are.within))

    -- so the tree that they show stays
    pub shown_grown : (tree : Tree) → AreShown old edits tree → AreShown new edits tree
    shown_grown tree is = record { shows = λ ns named. is.shows ns named ∙ ap (option_map held_node) (sym (held_grown ns)); formed = is.formed }
