-- What the edits show and keep after a change of one place.
use Rattle.std.proofs.Common.{◌≡◌, ℕ, ◌+◌, ◌<◌, ◌≤◌, true, List, [], ◌∷◌, ◌++◌, Option, None, Some, length, refl, sym, ap, subst, ◌∙◌, arith}
use Rattle.std.specs.Prelude.{is_some}
use Rattle.std.specs.Option.{option_map}
use Rattle.std.proofs.lemmas.Bool.{and_parts, and_from}
use Rattle.dsv_base.specs.Paths.{is_path, is_component, root_text, parent_text, join_text}
use Rattle.rev_nodes.specs.declared.cell.Cell.{Cell}
use Rattle.rev_nodes.specs.declared.line.Line.{Line}
use Rattle.rev_nodes.specs.Trees.{TreeNode, Tree, at}
use Rattle.rev_nodes.specs.Changes.{marked, placed}
use Rattle.rev_nodes.specs.Subtrees.{path_below}
use Rattle.node_table.specs.Ways.{Name, are_names, names_in}
use Rattle.node_table.specs.Tables.{cell_at}
use Rattle.node_table.specs.Rebuilt.{stamped}
use Rattle.node_table.proofs.Ways.{path_at-more, names-append}
use Rattle.node_table.proofs.PathNames.{names_of_path}
use Rattle.tree_edits.specs.Edits.{Held, Touched, EditedTree, touched_at, held_in, child_of, or_touched, held_from, held_root, held, held_node, shown, AreShown}
use Rattle.tree_edits.specs.AreEdits.{IsHeld, AreTouched, AreEdits}
use Rattle.tree_edits.specs.Hanging.{marked_held, child_held, with_edit, marked_at, hung_in, hung_at}
use Rattle.tree_edits.proofs.Lists.{in_order, order-with, length-with}
use Rattle.tree_edits.proofs.Texts.{names_more, parent_at, parent_root, longer-join, longer_apart}
use Rattle.tree_edits.proofs.Views.{Off, longer_at, none_from, held-append, same_below, stepped, off_kept, placed_shown}
use Rattle.tree_edits.proofs.Kept.{IsHere, IsPlace, EditFits, held_here, place_fits, fresh_fits, Ends, kept_in}

-- ---- counts

pub few_in : (r : ℕ) (cells : List Cell) (leaf : Option Held) (ns : List Name) (touched : Touched) (path : List ℕ) (here : Option Held) (new : Touched) → in_order touched ≡ true → hung_in r cells leaf touched path here ns ≡ Some new → length new ≤ length touched + length ns + 1
few_in r cells leaf [] touched path here new sorted e = let l = length-with path leaf touched sorted in let s = ap length (let t : with_edit path leaf touched ≡ new = cc in t) in omega (arith, l, s)
few_in r cells leaf (n ∷ ns) touched path None new sorted e = absurd (cc e)
few_in r cells leaf (n ∷ ns) touched path (Some h) new sorted e =
    let s = stepped r cells leaf touched path h n ns new e in
    let l = length-with path (Some (marked_held r h)) touched sorted in
    let more = few_in r cells leaf ns (marked_at r path h touched) (join_text path n) (child_held cells (marked_at r path h touched) path n h) new (order-with path (Some (marked_held r h)) touched sorted) s.next in
    omega (arith, l, more)

-- ---- touched paths and what is held there

module _ (r : ℕ) (cells : List Cell) (touched : Touched) (a : AreTouched r cells touched) where
  pub record IsAbove (path : List ℕ) : Type 0 where
    pub above : Held
    pub there : touched_at touched path ≡ Some (Some above)

  pub above_touched : (ns : List Name) (n : Name) (ds : List Name) (path : List ℕ) (edit : Option Held) → are_names (n ∷ ns) ≡ true → are_names ds ≡ true → path ≡ path_below root_text ds → touched_at touched (path_below path (n ∷ ns)) ≡ Some edit → IsAbove path
  above_touched [] n ds path edit k d is e =
      let p = and_parts (is_component n) true k in
      let x = (a.placed (join_text path n) edit e).parents path (ap (λ t. parent_text (join_text t n)) is ∙ parent_at ds n d p.0 ∙ ap Some (sym is)) in
      record { above = x.above; there = x.there }
  above_touched (m ∷ ns) n ds path edit k d is e =
      let p = and_parts (is_component n) (are_names (m ∷ ns)) k in
      let next = above_touched ns m (ds ++ n ∷ []) (join_text path n) edit p.1 (names_more ds n d p.0) (ap (λ t. join_text t n) is ∙ sym (path_at-more root_text ds n)) e in
      let x = (a.placed (join_text path n) (Some next.above) next.there).parents path (ap (λ t. parent_text (join_text t n)) is ∙ parent_at ds n d p.0 ∙ ap Some (sym is)) in
      record { above = x.above; there = x.there }

  pub touched_held : (ns ds : List Name) (path : List ℕ) (here edit : Option Held) → are_names ns ≡ true → are_names ds ≡ true → path ≡ path_below root_text ds → ((e : Option Held) → touched_at touched path ≡ Some e → e ≡ here) → touched_at touched (path_below path ns) ≡ Some edit → held_from cells touched path here ns ≡ edit
  touched_held [] ds path here edit k d is here_is e = sym (here_is edit e)
  touched_held (n ∷ ns) ds path here edit k d is here_is e =
      let p = and_parts (is_component n) (are_names ns) k in
      let x = above_touched ns n ds path edit k d is e in
      ap (λ o. held_from cells touched path o (n ∷ ns)) (sym (here_is (Some x.above) x.there))
      ∙ touched_held ns (ds ++ n ∷ []) (join_text path n) (child_held cells touched path n x.above) edit p.1 (names_more ds n d p.0) (ap (λ t. join_text t n) is ∙ sym (path_at-more root_text ds n)) (λ o f. sym (ap (λ q. or_touched q (child_of cells n x.above)) f)) e

off_beyond : (q : List ℕ) (ns : List Name) (path : List ℕ) → are_names ns ≡ true → length (path_below path ns) < length q → Off q path ns
off_beyond q [] path k less = longer_apart q path less
off_beyond q (n ∷ ns) path k less =
    let p = and_parts (is_component n) (are_names ns) k in
    let far = longer_at (n ∷ ns) path k in
    (longer_apart q path (omega (arith, far, less)), off_beyond q ns (join_text path n) p.1 less)

pub is_root_path : is_path root_text ≡ true
unfolding is_path
is_root_path = refl

-- ---- a change of the place at a path

module _ (r : ℕ) (cells : List Cell) (old new : EditedTree) (are : AreEdits r cells old) (path : List ℕ) (one : is_path path ≡ true) (leaf : Option Held) (root_is : new.root ≡ old.root) (hung : hung_at r cells leaf old (names_in path) ≡ Some new.touched) where
  abbrev way : List Name
  way = names_in path

  named : are_names way ≡ true
  named = (names_of_path path one).names

  path_is : path_below root_text way ≡ path
  path_is = (names_of_path path one).path

  pub few_done : length new.touched ≤ length old.touched + 65
  few_done = let f = few_in r cells leaf way old.touched root_text (held_root cells old) new.touched are.touched.sorted hung in let n = (names_of_path path one).few in omega (arith, f, n)

  pub root_touched : (edit : Option Held) → touched_at old.touched root_text ≡ Some edit → edit ≡ held_root cells old
  root_touched edit e = sym (ap (λ o. or_touched o (Some (held_in cells (cell_at cells old.root).line old.root))) e)

  root_place : IsPlace r cells old.touched root_text (held_root cells old)
  root_place = record {
    one = is_root_path;
    touched_is = root_touched;
    fits = λ h e. fits_by h (touched_at old.touched root_text) refl e;
    up = λ parent is. absurd (let s = sym parent_root ∙ is in cc s);
    root_stands = λ none. stands_by (touched_at old.touched root_text) refl;
  }
    where
      fits_by : (h : Held) (o : Option (Option Held)) → touched_at old.touched root_text ≡ o → or_touched o (Some (held_in cells (cell_at cells old.root).line old.root)) ≡ Some h → IsHere r cells h
      fits_by h None t e =
          let is : held_in cells (cell_at cells old.root).line old.root ≡ h = cc in
          let y = are.young in
          let s = (are.sound old.root).since in
          subst (IsHere r cells) is (record {
            created = y;
            since = omega (arith, y, s);
            within = λ id f. subst (λ k. k < length cells) (let u : old.root ≡ id = cc in u) are.within;
            older = λ id f. subst (λ k. (cell_at cells k).node.created ≤ (cell_at cells old.root).node.created) (let u : old.root ≡ id = cc in u) (omega arith);
            file = λ id f d. subst (λ k. (cell_at cells k).entries ≡ []) (let u : old.root ≡ id = cc in u) ((are.sound old.root).file d);
          })
      fits_by h (Some edit) t e = held_here r cells h (are.touched.held root_text h (t ∙ ap Some e))

      stands_by : (o : Option (Option Held)) → touched_at old.touched root_text ≡ o → is_some (or_touched o (Some (held_in cells (cell_at cells old.root).line old.root))) ≡ true
      stands_by None t = refl
      stands_by (Some edit) t = (are.touched.placed root_text edit t).stands parent_root

  pub are_new : Ends cells are.sound r leaf old.touched (path_below root_text way) (held cells old way) → AreEdits r cells new
  are_new ends = record {
    sound = are.sound;
    within = subst (λ k. k < length cells) (sym root_is) are.within;
    young = subst (λ k. (cell_at cells k).node.created ≤ r) (sym root_is) are.young;
    touched = kept_in cells are.sound r leaf way [] old.touched root_text (held_root cells old) new.touched named refl refl (ap is_path path_is ∙ one) are.touched root_place hung ends;
  }

  pub below_kept : (m : Name) (ms : List Name) → are_names (m ∷ ms) ≡ true → touched_at new.touched (path_below (path_below root_text way) (m ∷ ms)) ≡ touched_at old.touched (path_below (path_below root_text way) (m ∷ ms))
  below_kept m ms k =
      let p = and_parts (is_component m) (are_names ms) k in
      let l = longer-join (path_below root_text way) m p.0 in
      let far = longer_at ms (join_text (path_below root_text way) m) p.1 in
      off_kept r cells leaf way old.touched root_text (held_root cells old) new.touched (path_below (path_below root_text way) (m ∷ ms)) hung (off_beyond (path_below (path_below root_text way) (m ∷ ms)) way root_text named (omega (arith, l, far)))

  pub found_is : (tree : Tree) → AreShown cells old tree → at path tree ≡ option_map held_node (held cells old way)
  found_is tree is = ap (λ p. at p tree) (sym path_is) ∙ is.shows way named

  at_below : (tree : Tree) → AreShown cells old tree → (m : Name) (ms : List Name) → are_names (m ∷ ms) ≡ true → at (path_below root_text (way ++ m ∷ ms)) tree ≡ option_map held_node (held_from cells old.touched (path_below root_text way) (held cells old way) (m ∷ ms))
  at_below tree is m ms k = is.shows (way ++ m ∷ ms) (names-append way (m ∷ ms) named k) ∙ ap (option_map held_node) (held-append cells old.touched way root_text (held_root cells old) (m ∷ ms))

  abbrev pub Shows : Tree → Type 0
  Shows tree = (ns : List Name) → are_names ns ≡ true → at (path_below root_text ns) tree ≡ shown cells new ns

  -- in place
  module _ (h h2 : Held) (held_is : held cells old way ≡ Some h) (leaf_is : leaf ≡ Some h2) (line : h2.line ≡ h.line) (under : h2.under ≡ h.under) where
    pub are_over : h2.node.kind ≡ h.node.kind → h2.node.created ≡ r → AreEdits r cells new
    are_over kind created = are_new (λ t here a p is below. subst (EditFits r cells t (path_below root_text way)) (sym leaf_is) (place_fits cells are.sound r t (path_below root_text way) h h2 a (subst (IsPlace r cells t (path_below root_text way)) (is ∙ held_is) p) line under kind created))

    pub shows_over : (tree : Tree) → AreShown cells old tree → (x : TreeNode) → held_node h2 ≡ stamped r true x → Shows (marked r path (placed path x tree))
    shows_over tree is x x_is = subst (λ p. Shows (marked r p (placed p x tree))) path_is (placed_shown r cells leaf way old new named root_is hung tree (λ ns k f. is.shows ns k) x
        (ap (option_map held_node) leaf_is ∙ ap (λ (y : TreeNode). Some y) x_is)
        (λ m ms k.
        ap (λ o. option_map held_node (held_from cells new.touched (path_below root_text way) o (m ∷ ms))) leaf_is
        ∙ ap (λ (u : Option ℕ). option_map held_node (held_from cells new.touched (path_below root_text way) (Some (record { node = h2.node; line = h2.line; under = u })) (m ∷ ms))) under
        ∙ ap (λ (l : Line). option_map held_node (held_from cells new.touched (path_below root_text way) (Some (record { node = h2.node; line = l; under = h.under })) (m ∷ ms))) line
        ∙ ap (option_map held_node) (same_below cells (m ∷ ms) new.touched old.touched (path_below root_text way) (Some (record { node = h2.node; line = h.line; under = h.under })) below_kept k)
        ∙ sym (at_below tree is m ms k ∙ ap (λ o. option_map held_node (held_from cells old.touched (path_below root_text way) o (m ∷ ms))) held_is)))

  -- where nothing stands
  module _ (x : Held) (held_is : held cells old way ≡ None) (leaf_is : leaf ≡ Some x) where
    pub are_fresh : IsHeld r cells x → x.line.since ≡ r → AreEdits r cells new
    are_fresh fits begins = are_new (λ t here a p is below. subst (EditFits r cells t (path_below root_text way)) (sym leaf_is) (fresh_fits cells are.sound r t (path_below root_text way) x a (subst (IsPlace r cells t (path_below root_text way)) (is ∙ held_is) p) fits begins))

    untouched_by : (m : Name) → is_component m ≡ true → (o : Option (Option Held)) → touched_at old.touched (join_text (path_below root_text way) m) ≡ o → o ≡ None
    untouched_by m k None t = refl
    untouched_by m k (Some edit) t =
        let d = (are.touched.placed (join_text (path_below root_text way) m) edit t).parents (path_below root_text way) (parent_at way m named k) in
        let s = touched_held r cells old.touched are.touched way [] root_text (held_root cells old) (Some d.above) named refl refl root_touched d.there in
        absurd (let c = sym s ∙ held_is in cc c)

    pub untouched : (m : Name) → is_component m ≡ true → touched_at old.touched (join_text (path_below root_text way) m) ≡ None
    untouched m k = untouched_by m k (touched_at old.touched (join_text (path_below root_text way) m)) refl

    pub none_there : (tree : Tree) → AreShown cells old tree → (m : Name) (ms : List Name) → are_names (m ∷ ms) ≡ true → at (path_below root_text (way ++ m ∷ ms)) tree ≡ None
    none_there tree is m ms k = at_below tree is m ms k ∙ ap (λ o. option_map held_node (held_from cells old.touched (path_below root_text way) o (m ∷ ms))) held_is

    pub shows_fresh : x.under ≡ None → (tree : Tree) → AreShown cells old tree → (y : TreeNode) → held_node x ≡ stamped r true y → Shows (marked r path (placed path y tree))
    shows_fresh empty tree is y y_is = subst (λ p. Shows (marked r p (placed p y tree))) path_is (placed_shown r cells leaf way old new named root_is hung tree (λ ns k f. is.shows ns k) y
        (ap (option_map held_node) leaf_is ∙ ap (λ (z : TreeNode). Some z) y_is)
        (λ m ms k.
        let p = and_parts (is_component m) (are_names ms) k in
        ap (λ o. option_map held_node (held_from cells new.touched (path_below root_text way) o (m ∷ ms))) leaf_is
        ∙ ap (λ (u : Option ℕ). option_map held_node (held_from cells new.touched (path_below root_text way) (Some (record { node = x.node; line = x.line; under = u })) (m ∷ ms))) empty
        ∙ ap (λ o. option_map held_node (held_from cells new.touched (join_text (path_below root_text way) m) (or_touched o None) ms)) (below_kept m [] (and_from (is_component m) true p.0 refl) ∙ untouched m p.0)
        ∙ ap (option_map held_node) (none_from cells new.touched (join_text (path_below root_text way) m) ms)
        ∙ sym (none_there tree is m ms k)))
