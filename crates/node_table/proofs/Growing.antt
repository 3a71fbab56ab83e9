-- What a growing table shows stays as it was.
use Rattle.std.proofs.Common.{◌≡◌, ℕ, zero, suc, ◌<◌, ◌≤◌, false, List, [], ◌∷◌, ◌++◌, Option, None, Some, length, get_or, refl, sym, ap, subst, ◌∙◌, arith, inl, inr, length-append}
use Rattle.std.specs.Prelude.{IsTrue}
use Rattle.std.specs.Option.{option_map}
use Rattle.std.proofs.lemmas.Bool.{cases_lt}
use Rattle.rev_nodes.specs.declared.entry.Entry.{Entry}
use Rattle.rev_nodes.specs.declared.line.Line.{Line}
use Rattle.rev_nodes.specs.Trees.{TreeNode, is_dir_kind}
use Rattle.rev_nodes.specs.declared.cell.Cell.{Cell}
use Rattle.node_table.specs.Ways.{Name}
use Rattle.node_table.specs.Heights.{height_below, higher}
use Rattle.node_table.specs.Tables.{entries_rise, height_over, cell_at, no_cell, child, child_in, reach, Spot, spot_in, below_line, one_down, walk, spot_node, seen, IsCell, IsSoundTable}
use Rattle.node_table.proofs.EntriesFound.{own_entry}

pub cell_at-kept : (cells more : List Cell) (id : ℕ) → id < length cells → cell_at (cells ++ more) id ≡ cell_at cells id
cell_at-kept [] more id h = absurd (omega (arith, h))
cell_at-kept (x ∷ cells) more zero h = refl
cell_at-kept (x ∷ cells) more (suc id) h = cell_at-kept cells more id (omega (arith, h))

pub cell_at-next : (cells : List Cell) (cell : Cell) (more : List Cell) → cell_at (cells ++ cell ∷ more) (length cells) ≡ cell
cell_at-next [] cell more = refl
cell_at-next (x ∷ cells) cell more = cell_at-next cells cell more

pub cell_at-past : (cells : List Cell) (id : ℕ) → length cells ≤ id → cell_at cells id ≡ no_cell
cell_at-past [] id h = refl
cell_at-past (x ∷ cells) zero h = absurd (omega (arith, h))
cell_at-past (x ∷ cells) (suc id) h = cell_at-past cells id (omega (arith, h))

pub height_over-kept : (cells more : List Cell) (entries : List Entry) → ((k : ℕ) (d : Entry) → k < length entries → (get_or entries k d).id < length cells) → height_over (cells ++ more) entries ≡ height_over cells entries
height_over-kept cells more [] within = refl
height_over-kept cells more (e ∷ es) within =
    let here : e.id < length cells = within 0 e (omega arith) in
    let rest = height_over-kept cells more es (λ k d less. within (suc k) d (omega (arith, less))) in
    λ i. higher (height_below e.name (cell_at-kept cells more e.id here i).height) (rest i)

pub walk_none : (cells : List Cell) (ns : List Name) → walk cells None ns ≡ None
walk_none cells [] = refl
walk_none cells (n ∷ ns) = walk_none cells ns

pub reach_none : (cells : List Cell) (ns : List Name) → reach cells None ns ≡ None
reach_none cells [] = refl
reach_none cells (n ∷ ns) = reach_none cells ns

-- numbers are those of the places
pub walk-reach : (cells : List Cell) (ns : List Name) (o : Option Spot) → option_map (λ (s : Spot). s.id) (walk cells o ns) ≡ reach cells (option_map (λ (s : Spot). s.id) o) ns
walk-reach cells [] o = refl
walk-reach cells (n ∷ ns) None = ap (option_map (λ (s : Spot). s.id)) (walk_none cells ns) ∙ sym (reach_none cells ns)
walk-reach cells (n ∷ ns) (Some s) = walk-reach cells ns (one_down cells n s) ∙ ap (λ o. reach cells o ns) (ids (child_in cells n s.id))
  where
    ids : (o : Option ℕ) → option_map (λ (t : Spot). t.id) (option_map (spot_in cells s.line n) o) ≡ o
    ids None = refl
    ids (Some i) = refl

module _ (cells : List Cell) (sound : IsSoundTable cells) where
  pub child_within : (n : Name) (id i : ℕ) → id < length cells → child_in cells n id ≡ Some i → i < length cells
  child_within n id i h e = let low = ((sound id).children n i e).lower in omega (arith, low, h)

  pub reach_within : (ns : List Name) (id i : ℕ) → id < length cells → reach cells (Some id) ns ≡ Some i → i < length cells
  reach_within [] id i h e = subst (λ k. k < length cells) (let s : id ≡ i = cc in s) h
  reach_within (n ∷ ns) id i h e = by (child_in cells n id) refl e (λ j low g. reach_within ns j i low g)
    where
      by : (o : Option ℕ) → child_in cells n id ≡ o → reach cells o ns ≡ Some i → ((j : ℕ) → j < length cells → reach cells (Some j) ns ≡ Some i → i < length cells) → i < length cells
      by None f g go = absurd (let w = sym (reach_none cells ns) ∙ g in cc w)
      by (Some j) f g go = go j (child_within n id j h f) g

  module _ (more : List Cell) where
    pub child_in-kept : (n : Name) (id : ℕ) → id < length cells → child_in (cells ++ more) n id ≡ child_in cells n id
    child_in-kept n id h = ap (λ (c : Cell). child n c.entries) (cell_at-kept cells more id h)

    pub spot_in-kept : (line : Line) (n : Name) (i : ℕ) → i < length cells → spot_in (cells ++ more) line n i ≡ spot_in cells line n i
    spot_in-kept line n i h = ap (λ (c : Cell). let s : Spot = record { id = i; line = below_line line n c.line } in s) (cell_at-kept cells more i h)

    pub reach-kept : (ns : List Name) (id : ℕ) → id < length cells → reach (cells ++ more) (Some id) ns ≡ reach cells (Some id) ns
    reach-kept [] id h = refl
    reach-kept (n ∷ ns) id h = ap (λ o. reach (cells ++ more) o ns) (child_in-kept n id h) ∙ by (child_in cells n id) refl (λ j low. reach-kept ns j low)
      where
        by : (o : Option ℕ) → child_in cells n id ≡ o → ((j : ℕ) → j < length cells → reach (cells ++ more) (Some j) ns ≡ reach cells (Some j) ns) → reach (cells ++ more) o ns ≡ reach cells o ns
        by None f go = reach_none (cells ++ more) ns ∙ sym (reach_none cells ns)
        by (Some j) f go = go j (child_within n id j h f)

    pub seen-none : (ns : List Name) → seen (cells ++ more) None ns ≡ seen cells None ns
    seen-none ns = ap (option_map (spot_node (cells ++ more))) (walk_none (cells ++ more) ns) ∙ sym (ap (option_map (spot_node cells)) (walk_none cells ns))

    pub seen-kept : (ns : List Name) (spot : Spot) → spot.id < length cells → seen (cells ++ more) (Some spot) ns ≡ seen cells (Some spot) ns
    seen-kept [] spot h = ap (λ (c : Cell). let t : TreeNode = record { node = c.node; line = spot.line } in Some t) (cell_at-kept cells more spot.id h)
    seen-kept (n ∷ ns) spot h = ap (λ o. seen (cells ++ more) (option_map (spot_in (cells ++ more) spot.line n) o) ns) (child_in-kept n spot.id h) ∙ by (child_in cells n spot.id) refl (λ s low. seen-kept ns s low)
      where
        by : (o : Option ℕ) → child_in cells n spot.id ≡ o → ((s : Spot) → s.id < length cells → seen (cells ++ more) (Some s) ns ≡ seen cells (Some s) ns) → seen (cells ++ more) (option_map (spot_in (cells ++ more) spot.line n) o) ns ≡ seen cells (option_map (spot_in cells spot.line n) o) ns
        by None f go = seen-none ns
        by (Some j) f go =
            let w = child_within n spot.id j h f in
            ap (λ (s : Spot). seen (cells ++ more) (Some s) ns) (spot_in-kept spot.line n j w) ∙ go (spot_in cells spot.line n j) w

    pub cell_kept : (id : ℕ) → id < length cells → IsCell cells id → IsCell (cells ++ more) id
    cell_kept id h c = record {
      sorted = subst (λ (x : Cell). IsTrue (entries_rise x.entries)) (sym (cell_at-kept cells more id h)) c.sorted;
      children = λ n i e.
          let old = c.children n i (sym (child_in-kept n id h) ∙ e) in
          record {
            lower = old.lower;
            name = old.name;
            older = subst (λ (x : Cell). x.node.created ≤ (cell_at (cells ++ more) id).node.created) (sym (cell_at-kept cells more i (let low = old.lower in omega (arith, low, h))))
                (subst (λ (x : Cell). (cell_at cells i).node.created ≤ x.node.created) (sym (cell_at-kept cells more id h)) old.older);
          };
      file = subst (λ (x : Cell). is_dir_kind x.node.kind ≡ false → x.entries ≡ []) (sym (cell_at-kept cells more id h)) c.file;
      since = subst (λ (x : Cell). x.line.since ≤ x.node.created) (sym (cell_at-kept cells more id h)) c.since;
      height = subst (λ (x : Cell). x.height ≡ height_over (cells ++ more) x.entries) (sym (cell_at-kept cells more id h)) (c.height ∙ sym (height_over-kept cells more (cell_at cells id).entries (λ k d less.
          let low = (c.children _ _ (own_entry (cell_at cells id).entries c.sorted k d less)).lower in omega (arith, low, h))));
    }

pub no_cell_sound : (cells : List Cell) (id : ℕ) → cell_at cells id ≡ no_cell → IsCell cells id
no_cell_sound cells id e = record {
  sorted = subst (λ (x : Cell). IsTrue (entries_rise x.entries)) (sym e) refl;
  children = λ n i f. absurd (let g = sym (ap (λ (x : Cell). child n x.entries) e) ∙ f in cc g);
  file = λ k. ap (λ (x : Cell). x.entries) e;
  since = subst (λ (x : Cell). x.line.since ≤ x.node.created) (sym e) (omega arith);
  height = subst (λ (x : Cell). x.height ≡ height_over cells x.entries) (sym e) refl;
}

-- one cell more that is so
pub sound-more : (cells : List Cell) (cell : Cell) → IsSoundTable cells → IsCell (cells ++ cell ∷ []) (length cells) → IsSoundTable (cells ++ cell ∷ [])
sound-more cells cell sound new id = elim (cases_lt id (length cells)) [
  | inl low ↦ cell_kept cells sound (cell ∷ []) id low (sound id)
  | inr high ↦ elim (cases_lt (length cells) id) [
    | inl past ↦ no_cell_sound (cells ++ cell ∷ []) id (cell_at-past (cells ++ cell ∷ []) id (let n = length-append cells (cell ∷ []) in omega (arith, n, past)))
    | inr low ↦ subst (IsCell (cells ++ cell ∷ [])) (let s : length cells ≡ id = omega (arith, high, low) in s) new
  ]
]

-- what names lead to was made no later
pub younger : (cells : List Cell) → IsSoundTable cells → (ns : List Name) (id i : ℕ) → reach cells (Some id) ns ≡ Some i → (cell_at cells i).node.created ≤ (cell_at cells id).node.created
younger cells sound [] id i e = subst (λ k. (cell_at cells k).node.created ≤ (cell_at cells id).node.created) (let s : id ≡ i = cc in s) (omega arith)
younger cells sound (n ∷ ns) id i e = by (child_in cells n id) refl e (λ j f. younger cells sound ns j i f)
  where
    by : (o : Option ℕ) → child_in cells n id ≡ o → reach cells o ns ≡ Some i → ((j : ℕ) → reach cells (Some j) ns ≡ Some i → (cell_at cells i).node.created ≤ (cell_at cells j).node.created) → (cell_at cells i).node.created ≤ (cell_at cells id).node.created
    by None f g go = absurd (let w = sym (reach_none cells ns) ∙ g in cc w)
    by (Some j) f g go = let a = go j g in let b = ((sound id).children n j f).older in omega (arith, a, b)
