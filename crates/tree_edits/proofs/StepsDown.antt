-- One step down a way, and the step back.
use Rattle.std.proofs.Common.{◌≡◌, ℕ, Bool, true, false, cond, List, ◌∷◌, Option, None, Some, refl, sym, ap, subst, ◌∙◌}
use Rattle.std.specs.Prelude.{if◌then◌else◌, MatchBool}
use Rattle.std.proofs.lemmas.Bool.{and_parts}
use Rattle.dsv_base.specs.Paths.{is_component, components, join_text}
use Rattle.rev_nodes.specs.declared.cell.Cell.{Cell}
use Rattle.rev_nodes.specs.declared.unfit.Unfit.{Unfit}
use Rattle.rev_nodes.specs.declared.unfit.Unfit.TheVariants.{NoParent}
use Rattle.rev_nodes.specs.Fitting.{is_want}
use Rattle.rev_nodes.specs.Trees.{is_dir_kind}
use Rattle.node_table.specs.Ways.{Name, are_names}
use Rattle.node_table.proofs.PathNames.{IsSplit, split_some}
use Rattle.tree_edits.specs.Edits.{Held, Touched, EditedTree, touched_at, child_of, or_touched, held_from}
use Rattle.tree_edits.specs.AreEdits.{AreEdits}
use Rattle.tree_edits.specs.Reading.{IsUnder, HasUnder, CanRead, CanReadEdits, IsNextName}
use Rattle.tree_edits.specs.Hanging.{marked_held, child_held, with_edit, without_edit, marked_at, hung_in, hung_below, stands_dir, IsMarked, Untouches}
use Rattle.tree_edits.proofs.Lists.{in_order, is_same, touched-here, touched-with, order-with, put_back, taken_back}
use Rattle.tree_edits.proofs.Views.{none_from}

-- ---- reading

-- all edits can be read
pub can_read : (r : ℕ) (cells : List Cell) (edits : EditedTree) → AreEdits r cells edits → CanReadEdits cells edits
can_read r cells edits are = record {
  root = are.within;
  touched = record { sound = are.sound; within = λ path here there. (are.touched.held path here there).within };
}

-- nothing stands where nothing is found at the first name
pub none_below : (cells : List Cell) (touched : Touched) (text path rest name next after : List ℕ) (above : Held) → IsNextName text path rest name next after → None ≡ or_touched (touched_at touched next) (child_of cells name above) → None ≡ held_from cells touched path (Some above) (components rest)
none_below cells touched text path rest name next after above n none =
    sym (ap (held_from cells touched path (Some above)) n.cut
    ∙ ap (λ t. held_from cells touched (join_text path name) (or_touched (touched_at touched t) (child_of cells name above)) (components after)) (sym n.is)
    ∙ ap (λ o. held_from cells touched (join_text path name) o (components after)) (sym none)
    ∙ none_from cells touched (join_text path name) (components after))

pub first_name_is : (rest name after : List ℕ) → components rest ≡ name ∷ components after → are_names (components rest) ≡ true → (is_component name ≡ true) × (are_names (components after) ≡ true)
first_name_is rest name after cut named = and_parts (is_component name) (are_names (components after)) (sym (ap are_names cut) ∙ named)

-- ---- marks

pub marked_order : (r : ℕ) (place : Option Held) (path : List ℕ) (old new : Touched) (before : Option ℕ) → in_order old ≡ true → IsMarked r place path old new before → in_order new ≡ true
marked_order r place path old new before sorted m = ap in_order m.made ∙ order-with path (Some (marked_held r m.here)) old sorted

pub can_touched : (cells : List Cell) (touched : Touched) (path : List ℕ) (place : Option Held) → CanRead cells touched → HasUnder cells place → HasUnder cells (or_touched (touched_at touched path) place)
can_touched cells touched path place can under = by (touched_at touched path) refl
  where
    by : (o : Option (Option Held)) → touched_at touched path ≡ o → HasUnder cells (or_touched o place)
    by None e = under
    by (Some None) e = tt
    by (Some (Some here)) e = can.within path here e

pub marked_can : (cells : List Cell) (r : ℕ) (place : Option Held) (path : List ℕ) (old new : Touched) (before : Option ℕ) → CanRead cells old → HasUnder cells place → IsMarked r place path old new before → CanRead cells new
marked_can cells r place path old new before can under m = record {
  sound = can.sound;
  within = λ q here e. by q here (is_same q path) refl (sym (touched-with q path (Some (marked_held r m.here)) old) ∙ ap (λ t. touched_at t q) (sym m.made) ∙ e);
}
  where
    here_under : IsUnder cells m.here.under
    here_under = subst (HasUnder cells) m.is under

    by : (q : List ℕ) (here : Held) (b : Bool) → is_same q path ≡ b → cond b (Some (Some (marked_held r m.here))) (touched_at old q) ≡ Some (Some here) → IsUnder cells here.under
    by q here true t e = let s : marked_held r m.here ≡ here = cc in subst (λ (h : Held). IsUnder cells h.under) s here_under
    by q here false t e = can.within q here e

-- the step back
pub unmarked : (r : ℕ) (place : Option Held) (path : List ℕ) (old new : Touched) (before : Option ℕ) → in_order old ≡ true → IsMarked r place path old new before → (last : Touched) → Untouches before path new last → last ≡ old
unmarked r place path old new None sorted m last u = u ∙ ap (without_edit path) m.made ∙ taken_back path (Some (marked_held r m.here)) old (m.fresh refl)
unmarked r place path old new (Some created) sorted m last u =
    let t = m.touched created refl in
    let here = ap (λ x. touched_at x path) m.made ∙ touched-here path (Some (marked_held r m.here)) old in
    u (marked_held r m.here) here
    ∙ ap (λ x. with_edit path (Some (marked_held created (marked_held r m.here))) x) m.made
    ∙ ap (λ (c : ℕ). with_edit path (Some (marked_held c m.here)) (with_edit path (Some (marked_held r m.here)) old)) (sym t.1)
    ∙ put_back path (Some m.here) (Some (marked_held r m.here)) old sorted t.0

pub here_now : (r : ℕ) (old new : Touched) (path : List ℕ) (before : Option ℕ) (place : Option Held) (m : IsMarked r place path old new before) → touched_at new path ≡ Some (Some (marked_held r m.here))
here_now r old new path before place m = ap (λ t. touched_at t path) m.made ∙ touched-here path (Some (marked_held r m.here)) old

-- ---- the step down

module _ (r : ℕ) (cells : List Cell) (leaf : Option Held) where
  dir_step : (touched : Touched) (path : List ℕ) (here : Held) (n : Name) (ns : List Name) → is_dir_kind here.node.kind ≡ true → hung_in r cells leaf touched path (Some here) (n ∷ ns) ≡ hung_below r cells leaf (marked_at r path here touched) path (marked_held r here) (n ∷ ns)
  dir_step touched path here n ns dir = ap (λ b. if b then hung_in r cells leaf (marked_at r path here touched) (join_text path n) (child_held cells (marked_at r path here touched) path n here) ns else None) dir

  no_step : (touched : Touched) (path : List ℕ) (place : Option Held) (n : Name) (ns : List Name) → stands_dir place ≡ false → hung_in r cells leaf touched path place (n ∷ ns) ≡ None
  no_step touched path None n ns none = refl
  no_step touched path (Some here) n ns none = ap (λ b. if b then hung_in r cells leaf (marked_at r path here touched) (join_text path n) (child_held cells (marked_at r path here touched) path n here) ns else None) none

  module _ (old : Touched) (text path rest name next after : List ℕ) (n : IsNextName text path rest name next after) (above : Held) where
    at_next : hung_below r cells leaf old path above (components rest) ≡ hung_in r cells leaf old next (or_touched (touched_at old next) (child_of cells name above)) (components after)
    at_next = ap (hung_below r cells leaf old path above) n.cut ∙ ap (λ t. hung_in r cells leaf old t (or_touched (touched_at old t) (child_of cells name above)) (components after)) (sym n.is)

    step_by : (new : Touched) (here : Held) → or_touched (touched_at old next) (child_of cells name above) ≡ Some here → is_dir_kind here.node.kind ≡ true → new ≡ marked_at r next here old → IsSplit after → hung_in r cells leaf old next (or_touched (touched_at old next) (child_of cells name above)) (components after) ≡ hung_below r cells leaf new next (marked_held r here) (components after)
    step_by new here is dir made s =
        ap (λ o. hung_in r cells leaf old next o (components after)) is
        ∙ ap (hung_in r cells leaf old next (Some here)) s.is
        ∙ dir_step old next here s.first s.rest dir
        ∙ ap (λ t. hung_below r cells leaf t next (marked_held r here) (s.first ∷ s.rest)) (sym made)
        ∙ ap (hung_below r cells leaf new next (marked_held r here)) (sym s.is)

    -- on a place that was marked
    pub step_is : (new : Touched) (before : Option ℕ) (place : Option Held) → place ≡ child_of cells name above → (m : IsMarked r (or_touched (touched_at old next) place) next old new before) → hung_below r cells leaf old path above (components rest) ≡ hung_below r cells leaf new next (marked_held r m.here) (components after)
    step_is new before place place_is m = at_next ∙ step_by new m.here (ap (or_touched (touched_at old next)) (sym place_is) ∙ m.is) m.dir m.made (split_some after)

    no_way : (place : Option Held) → place ≡ child_of cells name above → stands_dir (or_touched (touched_at old next) place) ≡ false → IsSplit after → hung_below r cells leaf old path above (components rest) ≡ None
    no_way place place_is none s = at_next ∙ ap (hung_in r cells leaf old next (or_touched (touched_at old next) (child_of cells name above))) s.is ∙ no_step old next (or_touched (touched_at old next) (child_of cells name above)) s.first s.rest (ap (λ o. stands_dir (or_touched (touched_at old next) o)) (sym place_is) ∙ none)

    -- where none could be marked
    pub touch_fails : (new : Touched) (why : Unfit) (place : Option Held) → place ≡ child_of cells name above → (new ≡ old) × MatchBool (is_want why) (Unit {0}) ((why ≡ NoParent) × (stands_dir (or_touched (touched_at old next) place) ≡ false)) → (new ≡ old) × MatchBool (is_want why) (Unit {0}) ((why ≡ NoParent) × (hung_below r cells leaf old path above (components rest) ≡ None))
    touch_fails new why place place_is t = (t.0, by (is_want why) t.1)
      where
        by : (b : Bool) → MatchBool b (Unit {0}) ((why ≡ NoParent) × (stands_dir (or_touched (touched_at old next) place) ≡ false)) → MatchBool b (Unit {0}) ((why ≡ NoParent) × (hung_below r cells leaf old path above (components rest) ≡ None))
        by true h = tt
        by false h = (h.0, no_way place place_is h.1 (split_some after))

    -- where it went on
    module _ (new : Touched) (before : Option ℕ) (place : Option Held) (place_is : place ≡ child_of cells name above) (m : IsMarked r (or_touched (touched_at old next) place) next old new before) where
      now : touched_at new next ≡ Some (Some (marked_held r m.here))
      now = here_now r old new next before (or_touched (touched_at old next) place) m

      pub went_on : (last : Touched) → ((above : Held) → touched_at new next ≡ Some (Some above) → hung_below r cells leaf new next above (components after) ≡ Some last) → hung_below r cells leaf old path above (components rest) ≡ Some last
      went_on last go = step_is new before place place_is m ∙ go (marked_held r m.here) now

      pub came_back : in_order old ≡ true → (mid last : Touched) (why : Unfit) → ((above : Held) → touched_at new next ≡ Some (Some above) → (mid ≡ new) × MatchBool (is_want why) (Unit {0}) ((why ≡ NoParent) × (hung_below r cells leaf new next above (components after) ≡ None))) → Untouches before next mid last
          → (last ≡ old) × MatchBool (is_want why) (Unit {0}) ((why ≡ NoParent) × (hung_below r cells leaf old path above (components rest) ≡ None))
      came_back sorted mid last why go back =
          let g = go (marked_held r m.here) now in
          (unmarked r (or_touched (touched_at old next) place) next old new before sorted m last (subst (λ t. Untouches before next t last) g.0 back), by (is_want why) g.1)
        where
          by : (b : Bool) → MatchBool b (Unit {0}) ((why ≡ NoParent) × (hung_below r cells leaf new next (marked_held r m.here) (components after) ≡ None)) → MatchBool b (Unit {0}) ((why ≡ NoParent) × (hung_below r cells leaf old path above (components rest) ≡ None))
          by true h = tt
          by false h = (h.0, step_is new before place place_is m ∙ h.1)

-- ---- from the root

module _ (r : ℕ) (cells : List Cell) (leaf : Option Held) (old : Touched) (path rest : List ℕ) (place : Option Held) where
  on_step : (new : Touched) (before : Option ℕ) (m : IsMarked r place path old new before) → IsSplit rest → hung_in r cells leaf old path place (components rest) ≡ hung_below r cells leaf new path (marked_held r m.here) (components rest)
  on_step new before m s =
      ap (λ o. hung_in r cells leaf old path o (components rest)) m.is
      ∙ ap (hung_in r cells leaf old path (Some m.here)) s.is
      ∙ dir_step r cells leaf old path m.here s.first s.rest m.dir
      ∙ ap (λ t. hung_below r cells leaf t path (marked_held r m.here) (s.first ∷ s.rest)) (sym m.made)
      ∙ ap (hung_below r cells leaf new path (marked_held r m.here)) (sym s.is)

  no_start : stands_dir place ≡ false → IsSplit rest → hung_in r cells leaf old path place (components rest) ≡ None
  no_start none s = ap (hung_in r cells leaf old path place) s.is ∙ no_step r cells leaf old path place s.first s.rest none

  pub start_fails : (new : Touched) (why : Unfit) → (new ≡ old) × MatchBool (is_want why) (Unit {0}) ((why ≡ NoParent) × (stands_dir place ≡ false)) → (new ≡ old) × MatchBool (is_want why) (Unit {0}) ((why ≡ NoParent) × (hung_in r cells leaf old path place (components rest) ≡ None))
  start_fails new why t = (t.0, by (is_want why) t.1)
    where
      by : (b : Bool) → MatchBool b (Unit {0}) ((why ≡ NoParent) × (stands_dir place ≡ false)) → MatchBool b (Unit {0}) ((why ≡ NoParent) × (hung_in r cells leaf old path place (components rest) ≡ None))
      by true h = tt
      by false h = (h.0, no_start h.1 (split_some rest))

  pub start_went : (new last : Touched) (before : Option ℕ) (m : IsMarked r place path old new before) → ((above : Held) → touched_at new path ≡ Some (Some above) → hung_below r cells leaf new path above (components rest) ≡ Some last) → hung_in r cells leaf old path place (components rest) ≡ Some last
  start_went new last before m go = on_step new before m (split_some rest) ∙ go (marked_held r m.here) (here_now r old new path before place m)

  pub start_back : (new : Touched) (before : Option ℕ) (m : IsMarked r place path old new before) → in_order old ≡ true → (mid last : Touched) (why : Unfit) → ((above : Held) → touched_at new path ≡ Some (Some above) → (mid ≡ new) × MatchBool (is_want why) (Unit {0}) ((why ≡ NoParent) × (hung_below r cells leaf new path above (components rest) ≡ None))) → Untouches before path mid last
      → (last ≡ old) × MatchBool (is_want why) (Unit {0}) ((why ≡ NoParent) × (hung_in r cells leaf old path place (components rest) ≡ None))
  start_back new before m sorted mid last why go back =
      let g = go (marked_held r m.here) (here_now r old new path before place m) in
      (unmarked r place path old new before sorted m last (subst (λ t. Untouches before path t last) g.0 back), by (is_want why) g.1)
    where
      by : (b : Bool) → MatchBool b (Unit {0}) ((why ≡ NoParent) × (hung_below r cells leaf new path (marked_held r m.here) (components rest) ≡ None)) → MatchBool b (Unit {0}) ((why ≡ NoParent) × (hung_in r cells leaf old path place (components rest) ≡ None))
      by true h = tt
      by false h = (h.0, on_step new before m (split_some rest) ∙ h.1)
