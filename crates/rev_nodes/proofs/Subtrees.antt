-- Equal numbers have equal subtrees.
use Rattle.std.proofs.Common.{◌≡◌, ℕ, zero, suc, ◌<◌, ◌≤◌, Bool, true, false, cond, List, [], ◌∷◌, ◌++◌, Option, None, Some, length, get_or, map, nat_eq, refl, sym, ap, ◌∙◌, inl, inr, arith, length-append}
use Rattle.std.specs.Prelude.{if◌then◌else◌, is_some}
use Rattle.std.specs.List.{list_all, All}
use Rattle.std.specs.Option.{option_map}
use Rattle.std.specs.Str.{bytes_eq}
use Rattle.std.specs.FinMap.{find}
use Rattle.std.specs.Ordering.{nat_cmp, eq_by_cmp}
use Rattle.std.specs.Cmp.Lexicographic.{slice_cmp}
use Rattle.std.proofs.lemmas.Bool.{and_parts, cases_lt}
use Rattle.std.proofs.lemmas.List.Elements.{All-weaker}
use Rattle.dsv_base.specs.Paths.{is_path, is_component, root_text, front_of, or_root, parent_text, join_text}
use Rattle.dsv_base.proofs.Joins.{component_slash, component_some, before_last}
use Rattle.rev_nodes.specs.declared.entry.Entry.{Entry}
use Rattle.rev_nodes.specs.Trees.{at, is_dir}
use Rattle.rev_nodes.specs.Forests.{Numbered, ForestRevision, Forest, no_revision, tree_of, places_at, place_at, id_at, node_at}
use Rattle.rev_nodes.specs.Entries.{entries_in, IsSoundPlace, IsSound}
use Rattle.rev_nodes.specs.Formed.{AreFormed}
use Rattle.rev_nodes.specs.Subtrees.{path_below, HaveEqualSubtrees}
use Rattle.rev_nodes.proofs.Below.{same_from, differ}
use Rattle.rev_nodes.proofs.EntryNames.{key, StandsAtPath, find-entry}

-- look-ups without the numbers
pub find-tree_of : (places : List (List ℕ × Numbered)) (path : List ℕ) → at path (tree_of places) ≡ option_map (λ (p : Numbered). p.here) (find (slice_cmp nat_cmp) path places)
find-tree_of [] path = refl
find-tree_of (p ∷ ps) path =
    elim (eq_by_cmp (slice_cmp nat_cmp) path p.0) as (λ b. cond b (Some p.1.here) (at path (tree_of ps)) ≡ option_map (λ (q : Numbered). q.here) (cond b (Some p.1) (find (slice_cmp nat_cmp) path ps))) [ true ↦ refl | false ↦ find-tree_of ps path ]

pub none_past : (revisions : List ForestRevision) (rev : ℕ) → length revisions ≤ rev → (get_or revisions rev no_revision).places ≡ []
none_past [] rev h = refl
none_past (r ∷ rs) zero h = absurd (omega arith)
none_past (r ∷ rs) (suc rev) h = none_past rs rev (omega arith)

-- ---- below nothing stands nothing

front_back : (path : List ℕ) → 1 ≤ length path → or_root (front_of path) ≡ path
front_back [] h = absurd (omega (arith, h))
front_back (b ∷ bs) h = by (bytes_eq (b ∷ bs) root_text) refl
  where
    by : (root : Bool) → bytes_eq (b ∷ bs) root_text ≡ root → or_root (if root then [] else b ∷ bs) ≡ b ∷ bs
    by true e = sym (same_from (b ∷ bs) root_text e)
    by false e = refl

some_name : (name : List ℕ) → nat_eq (length name) 0 ≡ false → name ≡ [] → ⊥
some_name [] h e = cc
some_name (b ∷ bs) h e = cc

no_root : (front name : List ℕ) → (name ≡ [] → ⊥) → front ++ 47 ∷ name ≡ root_text → ⊥
no_root [] [] some e = some refl
no_root [] (b ∷ bs) some e = cc
no_root (f ∷ []) name some e = cc
no_root (f ∷ g ∷ gs) name some e = cc

not_root : (front name : List ℕ) → nat_eq (length name) 0 ≡ false → bytes_eq (front ++ 47 ∷ name) root_text ≡ false
not_root front name some = differ (front ++ 47 ∷ name) root_text (no_root front name (some_name name some))

pub parent_back : (path name : List ℕ) → 1 ≤ length path → is_component name ≡ true → parent_text (join_text path name) ≡ Some path
unfolding parent_text join_text
parent_back path name some named =
    (λ i. if not_root (front_of path) name (component_some name named) i then None else Some (or_root (before_last (front_of path) name (component_slash name named) i)))
    ∙ ap (λ (p : List ℕ). Some p) (front_back path some)

some_joined : (path name : List ℕ) → 1 ≤ length (join_text path name)
unfolding join_text
some_joined path name = let e = length-append (front_of path) (47 ∷ name) in omega (arith, e)

some_path : (path : List ℕ) → is_path path ≡ true → 1 ≤ length path
unfolding is_path
some_path [] h = absurd (cc)
some_path (b ∷ bs) h = omega arith

none_is_none : (o : Option Numbered) → option_map (λ (p : Numbered). p.id) o ≡ None → is_dir (option_map (λ (p : Numbered). p.here) o) ≡ true → ⊥
none_is_none None e d = cc
none_is_none (Some p) e d = cc

some_is_some : (o : Option Numbered) (id : ℕ) → option_map (λ (p : Numbered). p.id) o ≡ Some id → is_some (option_map (λ (p : Numbered). p.here) o) ≡ true
some_is_some None id e = absurd (cc)
some_is_some (Some p) id e = refl

by_place : (o : Option Numbered) → option_map (λ (p : Numbered). p.id) o ≡ None → option_map (λ (p : Numbered). p.here.node) o ≡ None
by_place None e = refl
by_place (Some p) e = absurd (cc)

module _ (forest : Forest) (sound : IsSound forest) (formed : AreFormed forest) where
  -- a number stands in a revision
  stands_in : (rev : ℕ) (path : List ℕ) (id : ℕ) → id_at forest rev path ≡ Some id → rev < length forest.revisions
  stands_in rev path id e = elim (cases_lt rev (length forest.revisions)) [
    | inl h ↦ h
    | inr past ↦ absurd (let none = ap (λ (ps : List (List ℕ × Numbered)). option_map (λ (p : Numbered). p.id) (find (slice_cmp nat_cmp) path ps)) (none_past forest.revisions rev past) in cc (none, e))
  ]

  stands_below : (rev : ℕ) (path name : List ℕ) (id : ℕ) → 1 ≤ length path → is_component name ≡ true → id_at forest rev path ≡ None → id_at forest rev (join_text path name) ≡ Some id → ⊥
  stands_below rev path name id some named none there =
      let tree = formed rev (stands_in rev (join_text path name) id there) in
      let here = ap is_some (find-tree_of (places_at forest rev) (join_text path name)) ∙ some_is_some (place_at forest rev (join_text path name)) id there in
      let dir = tree.parents (join_text path name) path here (parent_back path name some named) in
      none_is_none (place_at forest rev path) none (ap is_dir (sym (find-tree_of (places_at forest rev) path)) ∙ dir)

  closed : (rev : ℕ) (path name : List ℕ) → 1 ≤ length path → is_component name ≡ true → id_at forest rev path ≡ None → id_at forest rev (join_text path name) ≡ None
  closed rev path name some named none = by (id_at forest rev (join_text path name)) refl
    where
      by : (o : Option ℕ) → id_at forest rev (join_text path name) ≡ o → o ≡ None
      by None e = refl
      by (Some id) e = absurd (stands_below rev path name id some named none e)

  -- ---- below equal numbers

  path_there : (rev : ℕ) (path : List ℕ) (id : ℕ) → id_at forest rev path ≡ Some id → is_path path ≡ true
  path_there rev path id e = (formed rev (stands_in rev path id e)).paths path (ap is_some (find-tree_of (places_at forest rev) path) ∙ some_is_some (place_at forest rev path) id e)

  at_paths : (rev : ℕ) → All StandsAtPath (places_at forest rev)
  at_paths rev = All-weaker (IsSoundPlace forest rev) StandsAtPath (λ place sound. sound.path) (places_at forest rev) (sound.places rev)

  step_same : (rev : ℕ) (path : List ℕ) (other : ℕ) (there name : List ℕ) (o : Option ℕ) → 1 ≤ length path → 1 ≤ length there → is_component name ≡ true → id_at forest rev path ≡ o → id_at forest other there ≡ o → id_at forest rev (join_text path name) ≡ id_at forest other (join_text there name)
  unfolding entries_in
  step_same rev path other there name None a b named e f = closed rev path name a named e ∙ sym (closed other there name b named f)
  step_same rev path other there name (Some id) a b named e f =
      sym (find-entry path name (path_there rev path id e) named (places_at forest rev) (at_paths rev))
      ∙ ap (λ (es : List Entry). find (slice_cmp nat_cmp) name (map key es)) (sound.alike rev path other there id e f).entries
      ∙ find-entry there name (path_there other there id f) named (places_at forest other) (at_paths other)

  ids_same : (names : List (List ℕ)) (rev : ℕ) (path : List ℕ) (other : ℕ) (there : List ℕ) → 1 ≤ length path → 1 ≤ length there → list_all is_component names ≡ true → id_at forest rev path ≡ id_at forest other there → id_at forest rev (path_below path names) ≡ id_at forest other (path_below there names)
  ids_same [] rev path other there a b named e = e
  ids_same (name ∷ names) rev path other there a b named e =
      let p = and_parts (is_component name) (list_all is_component names) named in
      ids_same names rev (join_text path name) other (join_text there name) (some_joined path name) (some_joined there name) p.1 (step_same rev path other there name (id_at forest other there) a b p.0 e refl)

  with_id : (rev : ℕ) (path : List ℕ) (other : ℕ) (there : List ℕ) (o : Option ℕ) → id_at forest rev path ≡ o → id_at forest other there ≡ o → node_at forest rev path ≡ node_at forest other there
  with_id rev path other there None e f = by_place (place_at forest rev path) e ∙ sym (by_place (place_at forest other there) f)
  with_id rev path other there (Some id) e f = (sound.alike rev path other there id e f).nodes

  pub equal_subtrees : HaveEqualSubtrees forest
  equal_subtrees rev path other there id e f names named =
      let same = ids_same names rev path other there (some_path path (path_there rev path id e)) (some_path there (path_there other there id f)) named (e ∙ sym f) in
      record {
        ids = same;
        nodes = with_id rev (path_below path names) other (path_below there names) (id_at forest other (path_below there names)) same refl;
      }
