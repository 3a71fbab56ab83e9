-- What the changes of a draft do to the tree of its base.
use Rattle.std.proofs.Common.{◌⊎◌, ◌≡◌, ℕ, ◌+◌, ◌<◌, Bool, true, false, ◌||◌, cond, not, nat_eq, List, [], ◌∷◌, ◌++◌, Option, None, Some, Result, Ok, length, refl, sym, ap, ◌∙◌, inl, inr, arith}
use Rattle.std.specs.Prelude.{if◌then◌else◌, is_some}
use Rattle.std.specs.Option.{option_map_or}
use Rattle.std.specs.Str.{bytes_eq}
use Rattle.std.specs.Ordering.{nat_cmp, eq_by_cmp}
use Rattle.std.specs.Cmp.Lexicographic.{slice_cmp}
use Rattle.std.proofs.lemmas.Bool.{or_left, or_right}
use Rattle.std.proofs.lemmas.Bool.Decides.{nat_tests}
use Rattle.std.proofs.lemmas.List.{get_or_append_left}
use Rattle.std.proofs.lemmas.List.Folds.{list_any-append}
use Rattle.dsv_base.specs.Paths.{is_path, is_under, root_text}
use Rattle.dsv_base.specs.declared.prop.Prop.{Prop}
use Rattle.rev_nodes.specs.declared.change.Change.{Change}
use Rattle.rev_nodes.specs.declared.change.Change.TheVariants.{Put, SetProp, DelProp, Mkdir, Delete, Copy}
use Rattle.rev_nodes.specs.declared.unfit.Unfit.{Unfit}
use Rattle.rev_nodes.specs.declared.unfit.Unfit.TheVariants.{NoNode}
use Rattle.rev_nodes.specs.Trees.{TreeNode, Tree, at, tree_at, is_dir, new_dir}
use Rattle.rev_nodes.specs.Changes.{moved, copied_node, copied, are_paths, or_too_long, unfit_new, unfit_copy, unfit, mark, marked, with_text, placed, all_placed, with_prop, without_prop, with_props, without, apply, unless, apply_from}
use Rattle.rev_nodes.specs.ChangedPaths.{path_of}
use Rattle.rev_nodes.specs.Fitting.{in_order, settled}
use Rattle.rev_nodes.specs.Formed.{IsFormed}
use Rattle.rev_nodes.specs.Drafts.{coming, draft_tree, is_copied_to, touches, is_touched, is_made_in, TellsTouched}
use Rattle.rev_nodes.proofs.Below.{or_false, same_from, differ, front_long, under_itself, under_more, behind, moved_source}
use Rattle.rev_nodes.proofs.Marks.{any_revision}
use Rattle.rev_nodes.proofs.Forming.{none_is_no_dir, at-placed, tied, IsFree, free_from, at-without, IsCopied, IsEither, each, absent, Goes, goes, some_is, within}
use Rattle.rev_nodes.proofs.NodesSound.{went_on}

-- ---- what stands at a path after marks

-- what stood there before, which was marked where the path is that of the change or above it
record WasMarked (r : ℕ) (path : List ℕ) (tree : Tree) (p : List ℕ) (now : TreeNode) : Type 0 where
  before : TreeNode
  there : at p tree ≡ Some before
  marked_so : is_under path p ≡ true → now ≡ settled r before
  kept : is_under path p ≡ false → now ≡ before

was_marked : (r : ℕ) (path : List ℕ) (tree : Tree) (p : List ℕ) (now : TreeNode) → at p (marked r path tree) ≡ Some now → WasMarked r path tree p now
was_marked r path [] p now is = absurd (cc)
was_marked r path (e ∷ es) p now is = either (eq_by_cmp (slice_cmp nat_cmp) p e.0) refl is (was_marked r path es p now)
  where
    either : (b : Bool) → eq_by_cmp (slice_cmp nat_cmp) p e.0 ≡ b → cond b (Some (mark r path e).1) (at p (marked r path es)) ≡ Some now → (at p (marked r path es) ≡ Some now → WasMarked r path es p now) → WasMarked r path (e ∷ es) p now
    either true t is go =
        let same : (mark r path e).1 ≡ now = some_is (mark r path e).1 now is in
        let here : is_under path p ≡ is_under path e.0 = ap (is_under path) (tied p e.0 t) in
        record {
          before = e.1;
          there = ap (λ b. cond b (Some e.1) (at p es)) t;
          marked_so = λ u. sym same ∙ ap (λ b. if b then settled r e.1 else e.1) (sym here ∙ u);
          kept = λ u. sym same ∙ ap (λ b. if b then settled r e.1 else e.1) (sym here ∙ u);
        }
    either false t is go =
        let w = go is in
        record { before = w.before; there = ap (λ b. cond b (Some e.1) (at p es)) t ∙ w.there; marked_so = w.marked_so; kept = w.kept }

-- ---- what is touched

equal_number : (n : ℕ) → nat_eq n n ≡ true
equal_number n = grind (arith, nat_tests)

changed_in : (r : ℕ) (found : TreeNode) → is_made_in r (settled r found) ≡ true
changed_in r found = or_left (nat_eq r r) (nat_eq found.line.since r) (equal_number r)

began_in : (r : ℕ) (found : TreeNode) → found.line.since ≡ r → is_made_in r found ≡ true
began_in r found e = or_right (nat_eq found.node.created r) (nat_eq found.line.since r) (ap (λ n. nat_eq n r) e ∙ equal_number r)

touched_last : (path : List ℕ) (changes : List Change) (change : Change) (b : Bool) → touches path change ≡ b → is_touched path (changes ++ change ∷ []) ≡ (is_touched path changes || b)
touched_last path changes change b e = list_any-append (touches path) changes (change ∷ []) ∙ ap (λ t. is_touched path changes || t) (or_false (touches path change) ∙ e)

-- what stood at a path before its marks: the change left it as it was and doesn't touch it, or touches it and made it
abbrev IsKeptOrMade : ℕ → Change → Tree → List ℕ → TreeNode → Type 0
IsKeptOrMade r change tree p found = ((touches p change ≡ false) × (at p tree ≡ Some found)) ⊎ ((touches p change ≡ true) × (is_made_in r found ≡ true))

touched_so : (r : ℕ) (changes : List Change) (change : Change) (path : List ℕ) (tree middle : Tree) → path_of change ≡ path → ((p : List ℕ) (found : TreeNode) → at p middle ≡ Some found → is_under path p ≡ false → IsKeptOrMade r change tree p found) → TellsTouched r changes tree → TellsTouched r (changes ++ change ∷ []) (marked r path middle)
touched_so r changes change path tree middle named others tells p now is = by (is_under path p) refl
  where
    was : WasMarked r path middle p now
    was = was_marked r path middle p now is

    either : is_under path p ≡ false → IsKeptOrMade r change tree p was.before → is_touched p (changes ++ change ∷ []) ≡ is_made_in r now
    either u (inl k) = touched_last p changes change false k.0 ∙ or_false (is_touched p changes) ∙ tells p was.before k.1 ∙ sym (ap (is_made_in r) (was.kept u))
    either u (inr m) = touched_last p changes change true m.0 ∙ or_right (is_touched p changes) true refl ∙ sym (ap (is_made_in r) (was.kept u) ∙ m.1)

    by : (b : Bool) → is_under path p ≡ b → is_touched p (changes ++ change ∷ []) ≡ is_made_in r now
    by true u =
        touched_last p changes change true (or_left (is_under (path_of change) p) (is_copied_to p change) (ap (λ q. is_under q p) named ∙ u))
        ∙ or_right (is_touched p changes) true refl
        ∙ sym (ap (is_made_in r) (was.marked_so u) ∙ changed_in r was.before)
    by false u = either u (others p was.before was.there u)

-- a node that is put at a path leaves the others
other_placed : (path : List ℕ) (node : TreeNode) (tree : Tree) (p : List ℕ) (found : TreeNode) → at p (placed path node tree) ≡ Some found → is_under path p ≡ false → at p tree ≡ Some found
other_placed path node tree p found is apart = either (eq_by_cmp (slice_cmp nat_cmp) p path) refl (sym (at-placed p path node tree) ∙ is)
  where
    either : (b : Bool) → eq_by_cmp (slice_cmp nat_cmp) p path ≡ b → cond b (Some node) (at p tree) ≡ Some found → at p tree ≡ Some found
    either true t e = absurd (let u = ap (is_under path) (tied p path t) ∙ under_itself path in cc (u, apart))
    either false t e = e

other_edited : (edit : List Prop → List Prop) (path : List ℕ) (tree : Tree) (o : Option TreeNode) (p : List ℕ) (found : TreeNode) → at p (option_map_or (λ here. placed path (with_props edit here) tree) o tree) ≡ Some found → is_under path p ≡ false → at p tree ≡ Some found
other_edited edit path tree None p found is apart = is
other_edited edit path tree (Some here) p found is apart = other_placed path (with_props edit here) tree p found is apart

other_left : (path : List ℕ) (tree : Tree) (p : List ℕ) (found : TreeNode) → at p (without path tree) ≡ Some found → at p tree ≡ Some found
other_left path tree p found is = either (not (is_under p path)) (sym (at-without p path tree) ∙ is)
  where
    either : (b : Bool) → cond b (at p tree) None ≡ Some found → at p tree ≡ Some found
    either true e = e
    either false e = absurd (cc)

-- why a copy fits
copy_parts : (there : Bool) (new : Option Unfit) (paths : Bool) → (if there then or_too_long new paths else Some NoNode) ≡ None → (there ≡ true) × (new ≡ None) × (paths ≡ true)
copy_parts true None true e = (refl, refl, refl)
copy_parts true None false e = absurd (cc)
copy_parts true (Some why) paths e = absurd (cc)
copy_parts false new paths e = absurd (cc)

-- what a copy leaves as it was doesn't stand under its destination, and what it adds does
module _ (r : ℕ) (source : List ℕ) (rev : ℕ) (path : List ℕ) (from tree : Tree) (formed_from : IsFormed from) (sorted : in_order from ≡ true) (formed : IsFormed tree) (there : is_some (at source from) ≡ true) (free : unfit_new path tree ≡ None) (fits : are_paths (copied source rev path r from) ≡ true) where
  is_free : IsFree path tree
  is_free = free_from path tree free

  added : (k : List ℕ) → IsEither source rev path r from tree k (at k (all_placed (copied source rev path r from) tree))
  added k = each source rev path r from tree sorted fits k

  path_one : is_path path ≡ true
  path_one = either (added path)
    where
      either : IsEither source rev path r from tree path (at path (all_placed (copied source rev path r from) tree)) → is_path path ≡ true
      either (inl c) = c.fits
      either (inr b) = absurd (b.none source there (under_itself source) (moved_source source path))

  not_root : bytes_eq path root_text ≡ false
  not_root = differ path root_text (λ root. none_is_no_dir (at path tree) is_free.free (ap (λ q. is_dir (at q tree)) root ∙ formed.root))

  -- nothing stood at the destination or under it
  none_there : (k : List ℕ) → is_some (at k tree) ≡ true → is_under k path ≡ false
  none_there k some = by (is_under k path) refl
    where
      at_path : (b : Bool) → bytes_eq k path ≡ b → is_under k path ≡ true → ⊥
      at_path true e u = let here = ap (λ q. is_some (at q tree)) (sym (same_from k path e)) ∙ some in let none = is_free.free in cc (here, none)
      at_path false e u =
          let far = behind k path (formed.paths k some) u e in
          let is : k ≡ path ++ 47 ∷ far.rest = far.is ∙ ap (λ front. front ++ 47 ∷ far.rest) (front_long path not_root) in
          absent path tree path_one not_root is_free.free formed far.rest (ap (λ q. is_some (at q tree)) (sym is) ∙ some)

      by : (b : Bool) → is_under k path ≡ b → b ≡ false
      by true u = absurd (at_path (bytes_eq k path) refl u)
      by false u = refl

  under_path : (k : List ℕ) (o : Option TreeNode) → IsCopied source rev path r from k o → is_under k path ≡ true
  under_path k o c = by (goes source path c.origin (formed_from.paths c.origin (ap is_some c.there)) c.under)
    where
      by : Goes source path c.origin → is_under k path ≡ true
      by (inl same) = ap (λ q. is_under q path) (sym c.to ∙ ap (moved source path) same ∙ moved_source source path) ∙ under_itself path
      by (inr m) = ap (λ q. is_under q path) (sym c.to ∙ m.to) ∙ under_more path m.rest

  others_copied : (p : List ℕ) (found : TreeNode) → at p (all_placed (copied source rev path r from) tree) ≡ Some found → is_under path p ≡ false → IsKeptOrMade r (Copy source rev path) tree p found
  others_copied p found is apart = by (added p)
    where
      by : IsEither source rev path r from tree p (at p (all_placed (copied source rev path r from) tree)) → IsKeptOrMade r (Copy source rev path) tree p found
      by (inl c) =
          let same : found ≡ copied_node rev r c.origin c.found = some_is found (copied_node rev r c.origin c.found) (sym is ∙ c.is) in
          inr (or_right (is_under path p) (is_under p path) (under_path p _ c), began_in r found (ap (λ (t : TreeNode). t.line.since) same))
      by (inr b) =
          let here : at p tree ≡ Some found = sym b.is ∙ is in
          inl ((λ i. apart i || none_there p (ap is_some here) i), here)

-- a change that fits touches exactly what is of the revision then and wasn't touched before
module _ (r : ℕ) (trees : List Tree) (sorted : (rev : ℕ) → in_order (tree_at trees rev) ≡ true) (formed_all : (rev : ℕ) → rev < length trees → IsFormed (tree_at trees rev)) (tree : Tree) (formed : IsFormed tree) (changes : List Change) (tells : TellsTouched r changes tree) where
  copy_touches : (source : List ℕ) (rev : ℕ) (path : List ℕ) → (if is_some (at source (tree_at trees rev)) then unfit_copy path (copied source rev path 0 (tree_at trees rev)) tree else Some NoNode) ≡ None → TellsTouched r (changes ++ Copy source rev path ∷ []) (marked r path (all_placed (copied source rev path r (tree_at trees rev)) tree))
  copy_touches source rev path fits =
      let p = copy_parts (is_some (at source (tree_at trees rev))) (unfit_new path tree) (are_paths (copied source rev path 0 (tree_at trees rev))) fits in
      touched_so r changes (Copy source rev path) path tree (all_placed (copied source rev path r (tree_at trees rev)) tree) refl
      (others_copied r source rev path (tree_at trees rev) tree (formed_all rev (within trees rev source p.0)) (sorted rev) formed p.0 p.1 (any_revision source rev path r 0 (tree_at trees rev) ∙ p.2))
      tells

  pub change_touches : (change : Change) → unfit change trees tree ≡ None → TellsTouched r (changes ++ change ∷ []) (apply change trees tree r)
  unfolding unfit apply
  change_touches (Put path text) fits =
      let node = with_text r text (at path tree) in
      touched_so r changes (Put path text) path tree (placed path node tree) refl (λ p found is apart. inl (ap (λ b. b || false) apart, other_placed path node tree p found is apart)) tells
  change_touches (SetProp path name value) fits =
      let edit = with_prop (record { name = name; value = value }) in
      touched_so r changes (SetProp path name value) path tree _ refl (λ p found is apart. inl (ap (λ b. b || false) apart, other_edited edit path tree (at path tree) p found is apart)) tells
  change_touches (DelProp path name) fits =
      touched_so r changes (DelProp path name) path tree _ refl (λ p found is apart. inl (ap (λ b. b || false) apart, other_edited (without_prop name) path tree (at path tree) p found is apart)) tells
  change_touches (Mkdir path) fits =
      touched_so r changes (Mkdir path) path tree (placed path (new_dir r) tree) refl (λ p found is apart. inl (ap (λ b. b || false) apart, other_placed path (new_dir r) tree p found is apart)) tells
  change_touches (Delete path) fits =
      touched_so r changes (Delete path) path tree (without path tree) refl (λ p found is apart. inl (ap (λ b. b || false) apart, other_left path tree p found is)) tells
  change_touches (Copy source rev path) fits = copy_touches source rev path fits

-- ---- one change more

-- what is done last
pub one_more : (changes : List Change) (index r : ℕ) (trees : List Tree) (tree new : Tree) (change : Change) → apply_from index changes trees tree r ≡ Ok new → unfit change trees new ≡ None → apply_from index (changes ++ change ∷ []) trees tree r ≡ Ok (apply change trees new r)
unfolding apply_from
one_more [] index r trees tree new change is fits =
    ap (λ (t : Tree). unless (unfit change trees t) index (Ok (apply change trees t r))) (ok_is tree new is)
    ∙ ap (λ (o : Option Unfit). unless o index (Ok (apply change trees new r))) fits
  where
    ok_is : (a b : Tree) → (let x : Result Tree (ℕ × Unfit) = Ok a in x) ≡ Ok b → a ≡ b
    ok_is a b e = cc
one_more (c ∷ cs) index r trees tree new change is fits =
    let q = went_on (unfit c trees tree) index (apply_from (index + 1) cs trees (apply c trees tree r) r) new is in
    ap (λ (o : Option Unfit). unless o index (apply_from (index + 1) (cs ++ change ∷ []) trees (apply c trees tree r) r)) q.0
    ∙ one_more cs (index + 1) r trees (apply c trees tree r) new change q.1 fits

-- ---- more trees

module _ (trees more : List Tree) where
  -- what a copy that fits is taken from
  from_kept : (source : List ℕ) (rev : ℕ) (path : List ℕ) (tree : Tree) → unfit (Copy source rev path) trees tree ≡ None → tree_at (trees ++ more) rev ≡ tree_at trees rev
  unfolding unfit
  from_kept source rev path tree fits =
      let p = copy_parts (is_some (at source (tree_at trees rev))) (unfit_new path tree) (are_paths (copied source rev path 0 (tree_at trees rev))) fits in
      get_or_append_left trees more [] rev (within trees rev source p.0)

  fits_later : (change : Change) (tree : Tree) → unfit change trees tree ≡ None → unfit change (trees ++ more) tree ≡ None
  unfolding unfit
  fits_later (Put path text) tree fits = fits
  fits_later (SetProp path name value) tree fits = fits
  fits_later (DelProp path name) tree fits = fits
  fits_later (Mkdir path) tree fits = fits
  fits_later (Delete path) tree fits = fits
  fits_later (Copy source rev path) tree fits = ap (λ (t : Tree). if is_some (at source t) then unfit_copy path (copied source rev path 0 t) tree else Some NoNode) (from_kept source rev path tree fits) ∙ fits

  made_later : (change : Change) (tree : Tree) (r : ℕ) → unfit change trees tree ≡ None → apply change (trees ++ more) tree r ≡ apply change trees tree r
  unfolding apply
  made_later (Put path text) tree r fits = refl
  made_later (SetProp path name value) tree r fits = refl
  made_later (DelProp path name) tree r fits = refl
  made_later (Mkdir path) tree r fits = refl
  made_later (Delete path) tree r fits = refl
  made_later (Copy source rev path) tree r fits = ap (λ (t : Tree). marked r path (all_placed (copied source rev path r t) tree)) (from_kept source rev path tree fits)

  all_later : (changes : List Change) (index r : ℕ) (tree new : Tree) → apply_from index changes trees tree r ≡ Ok new → apply_from index changes (trees ++ more) tree r ≡ Ok new
  unfolding apply_from
  all_later [] index r tree new is = is
  all_later (c ∷ cs) index r tree new is =
      let q = went_on (unfit c trees tree) index (apply_from (index + 1) cs trees (apply c trees tree r) r) new is in
      ap (λ (o : Option Unfit). unless o index (apply_from (index + 1) cs (trees ++ more) (apply c (trees ++ more) tree r) r)) (fits_later c tree q.0)
      ∙ ap (λ (t : Tree). apply_from (index + 1) cs (trees ++ more) t r) (made_later c tree r q.0)
      ∙ all_later cs (index + 1) r (apply c trees tree r) new q.1

  -- a draft's tree is the same among more trees
  pub draft_later : (base : ℕ) (changes : List Change) (tree : Tree) → base < length trees → draft_tree trees base changes ≡ Ok tree → draft_tree (trees ++ more) base changes ≡ Ok tree
  draft_later base changes tree within is =
      ap (λ (t : Tree). apply_from 0 changes (trees ++ more) t coming) (get_or_append_left trees more [] base within)
      ∙ all_later changes 0 coming (tree_at trees base) tree is
