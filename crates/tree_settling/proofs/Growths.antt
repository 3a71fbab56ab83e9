-- What edits show where nothing was touched, and what stays as the table grows.
use Rattle.std.proofs.Common.{◌≡◌, ℕ, ◌<◌, Bool, true, false, List, [], ◌∷◌, ◌++◌, Option, None, Some, length, refl, sym, ap, ◌∙◌, arith, length-append}
use Rattle.std.specs.Prelude.{if◌then◌else◌}
use Rattle.std.specs.Option.{option_map}
use Rattle.std.specs.Str.{bytes_eq}
use Rattle.std.proofs.lemmas.Bool.{and_parts}
use Rattle.dsv_base.specs.Paths.{is_component, parent_text, join_text, front_of, or_root, before_last_slash, root_text}
use Rattle.dsv_base.proofs.Joins.{before_last, component_slash, component_some}
use Rattle.rev_nodes.specs.declared.cell.Cell.{Cell}
use Rattle.rev_nodes.specs.declared.line.Line.{Line}
use Rattle.rev_nodes.proofs.Below.{differ, same_from}
use Rattle.node_table.specs.Ways.{Name, are_names}
use Rattle.node_table.specs.Tables.{cell_at, child_in, spot_in, below_line, spot_node, height_over, seen, IsSoundTable}
use Rattle.node_table.proofs.EntriesFound.{own_entry}
use Rattle.node_table.proofs.Growing.{height_over-kept, cell_at-kept, seen-kept, walk_none}
use Rattle.node_table.proofs.Ways.{not_root, some_text, join-front}
use Rattle.tree_edits.specs.declared.held.Held.{Held}
use Rattle.tree_edits.specs.Edits.{Touched, touched_at, held_in, child_of, or_touched, held_from, held_node}
use Rattle.tree_edits.specs.AreEdits.{AreTouched}
use Rattle.tree_settling.specs.Settled.{IsMadeAt, Agrees}

-- a text that isn't empty
pub record IsSome (p : List ℕ) : Type 0 where
  pub byte : ℕ
  pub rest : List ℕ
  pub is : p ≡ byte ∷ rest

pub join-some : (p n : List ℕ) → IsSome (join_text p n)
join-some p n = by (front_of p) (join-front p n)
  where
    by : (f : List ℕ) → join_text p n ≡ f ++ 47 ∷ n → IsSome (join_text p n)
    by [] e = record { byte = 47; rest = n; is = e }
    by (b ∷ bs) e = record { byte = b; rest = bs ++ 47 ∷ n; is = e }

front_root : (b : ℕ) (bs : List ℕ) → or_root (front_of (b ∷ bs)) ≡ b ∷ bs
front_root b bs = by (bytes_eq (b ∷ bs) root_text) refl
  where
    by : (c : Bool) → bytes_eq (b ∷ bs) root_text ≡ c → or_root (if c then [] else b ∷ bs) ≡ b ∷ bs
    by true e = sym (same_from (b ∷ bs) root_text e)
    by false e = refl

-- a directory is the parent of what is joined to it
pub parent_of_join : (p n : List ℕ) → IsSome p → is_component n ≡ true → parent_text (join_text p n) ≡ Some p
unfolding parent_text
parent_of_join p n some named =
    ap parent_text (join-front p n)
    ∙ ap (λ b. if b then None else Some (or_root (before_last_slash (front_of p ++ 47 ∷ n)))) (differ (front_of p ++ 47 ∷ n) root_text (not_root (front_of p) n (some_text n (component_some n named))))
    ∙ ap (λ t. Some (or_root t)) (before_last (front_of p) n (component_slash n named))
    ∙ ap (λ (t : List ℕ). Some t) (ap (λ t. or_root (front_of t)) some.is ∙ front_root some.byte some.rest ∙ sym some.is)

-- nothing is shown below nothing
pub held_none : (cells : List Cell) (touched : Touched) (path : List ℕ) (ns : List Name) → held_from cells touched path None ns ≡ None
held_none cells touched path [] = refl
held_none cells touched path (n ∷ ns) = refl

pub seen_none : (cells : List Cell) (ns : List Name) → seen cells None ns ≡ None
seen_none cells ns = ap (option_map (spot_node cells)) (walk_none cells ns)

module _ (rev : ℕ) (cells : List Cell) (touched : Touched) (sound : IsSoundTable cells) (are : AreTouched rev cells touched) where
  -- nothing is touched right below what isn't
  pub none_below : (p : List ℕ) (n : Name) → IsSome p → is_component n ≡ true → touched_at touched p ≡ None → touched_at touched (join_text p n) ≡ None
  none_below p n some named none = by (touched_at touched (join_text p n)) refl
    where
      by : (o : Option (Option Held)) → touched_at touched (join_text p n) ≡ o → o ≡ None
      by None e = refl
      by (Some edit) e = let above = ((are.placed (join_text p n) edit e).parents p (parent_of_join p n some named)).there in absurd (let f : None ≡ Some _ = sym none ∙ above in cc f)

  -- where nothing is touched the table is shown
  pub untouched : (ns : List Name) → are_names ns ≡ true → (p : List ℕ) → IsSome p → touched_at touched p ≡ None → (line : Line) (id : ℕ) → option_map held_node (held_from cells touched p (Some (held_in cells line id)) ns) ≡ seen cells (Some (record { id = id; line = line })) ns
  untouched [] names p some none line id = refl
  untouched (n ∷ ns) names p some none line id =
      let named = (and_parts (is_component n) (are_names ns) names).0 in
      ap (λ o. option_map held_node (held_from cells touched (join_text p n) (or_touched o (child_of cells n (held_in cells line id))) ns)) (none_below p n some named none)
      ∙ by (child_in cells n id) (λ l i. untouched ns (and_parts (is_component n) (are_names ns) names).1 (join_text p n) (join-some p n) (none_below p n some named none) l i)
    where
      by : (o : Option ℕ) → ((l : Line) (i : ℕ) → option_map held_node (held_from cells touched (join_text p n) (Some (held_in cells l i)) ns) ≡ seen cells (Some (record { id = i; line = l })) ns)
          → option_map held_node (held_from cells touched (join_text p n) (option_map (λ i. held_in cells (below_line line n (cell_at cells i).line) i) o) ns) ≡ seen cells (option_map (spot_in cells line n) o) ns
      by None go = ap (option_map held_node) (held_none cells touched (join_text p n) ns) ∙ sym (seen_none cells ns)
      by (Some i) go = go (below_line line n (cell_at cells i).line) i

-- what was made of a path stays that as more cells come
module _ (cells : List Cell) (touched : Touched) (all : List Cell) (sound : IsSoundTable all) (more : List Cell) where
  made-kept : (path : List ℕ) (here : Held) (id : ℕ) → IsMadeAt cells touched all path here id → IsMadeAt cells touched (all ++ more) path here id
  made-kept path here id made = record {
    within = let w = made.within in omega (arith, w, length-append all more);
    node = ap (λ (c : Cell). c.node) (cell_at-kept all more id made.within) ∙ made.node;
    line = ap (λ (c : Cell). c.line) (cell_at-kept all more id made.within) ∙ made.line;
    shows = λ ns names. seen-kept all sound more ns (record { id = id; line = here.line }) made.within ∙ made.shows ns names;
  }

  pub agrees-kept : (path : List ℕ) (edit : Option (Option Held)) (made : Option (Option ℕ)) → Agrees cells touched all path edit made → Agrees cells touched (all ++ more) path edit made
  agrees-kept path None None h = tt
  agrees-kept path None (Some id) h = absurd h
  agrees-kept path (Some None) None h = absurd h
  agrees-kept path (Some None) (Some None) h = tt
  agrees-kept path (Some None) (Some (Some id)) h = absurd h
  agrees-kept path (Some (Some here)) None h = absurd h
  agrees-kept path (Some (Some here)) (Some None) h = absurd h
  agrees-kept path (Some (Some here)) (Some (Some id)) h = made-kept path here id h

-- the height of a number of the table is that of its entries, also behind more cells
pub kept_height : (cells more : List Cell) (sound : IsSoundTable cells) (id : ℕ) → id < length cells → (cell_at cells id).height ≡ height_over (cells ++ more) (cell_at cells id).entries
kept_height cells more sound id within =
    (sound id).height ∙ sym (height_over-kept cells more (cell_at cells id).entries (λ k d less.
    let low = ((sound id).children _ _ (own_entry (cell_at cells id).entries (sound id).sorted k d less)).lower in omega (arith, low, within)))
