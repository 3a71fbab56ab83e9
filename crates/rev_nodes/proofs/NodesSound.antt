-- Changes of a revision keep the nodes of a tree sound, and copies are taken from earlier revisions.
use Rattle.std.proofs.Common.{◌≡◌, ℕ, ◌+◌, ◌<◌, ◌≤◌, Bool, true, false, cond, ◌&&◌, not, List, [], ◌∷◌, Option, None, Some, Result, Ok, length, refl, ap, subst, arith}
use Rattle.std.specs.Prelude.{if◌then◌else◌, is_some}
use Rattle.std.specs.List.{list_all, All}
use Rattle.std.specs.Option.{option_map_or}
use Rattle.std.specs.Str.{bytes_eq}
use Rattle.std.specs.Ordering.{nat_cmp, eq_by_cmp}
use Rattle.std.specs.declared.cmp.Ordering.{Ordering}
use Rattle.std.specs.declared.cmp.Ordering.TheVariants.{Less, Equal, Greater}
use Rattle.std.specs.Cmp.Lexicographic.{slice_cmp}
use Rattle.std.specs.FinMap.Entries.{by_order}
use Rattle.std.proofs.lemmas.Bool.{and_parts}
use Rattle.std.proofs.lemmas.Bool.Decides.{nat_tests}
use Rattle.std.proofs.lemmas.List.Elements.{All-nil, All-cons, All-head, All-tail, All-weaker}
use Rattle.dsv_base.specs.declared.prop.Prop.{Prop}
use Rattle.dsv_base.specs.Paths.{is_path, is_under}
use Rattle.rev_nodes.specs.declared.change.Change.{Change}
use Rattle.rev_nodes.specs.declared.change.Change.TheVariants.{Put, SetProp, DelProp, Mkdir, Delete, Copy}
use Rattle.rev_nodes.specs.declared.unfit.Unfit.{Unfit}
use Rattle.rev_nodes.specs.declared.unfit.Unfit.TheVariants.{NoNode}
use Rattle.rev_nodes.specs.PropertyNames.{is_property_name}
use Rattle.rev_nodes.specs.Trees.{TreeNode, Tree, at, tree_at, new_dir}
use Rattle.rev_nodes.specs.Changes.{mark, marked, placed, all_placed, copied, copied_node, moved, with_text, with_prop, without_prop, with_props, prop_by, without, unfit, unfit_copy, apply, apply_from, unless}
use Rattle.rev_nodes.specs.Commits.{is_sound_change, comes_from_below}
use Rattle.rev_nodes.specs.SoundNodes.{are_named, IsSoundNode, HasSoundNode}
use Rattle.rev_nodes.specs.Formed.{IsFormed}
use Rattle.rev_nodes.proofs.Forming.{within, tied_self}

pub later_node : (r s : ℕ) (found : TreeNode) → r ≤ s → IsSoundNode r found → IsSoundNode s found
later_node r s found h sound = record {
  created = (let a = sound.created in omega (arith, h, a));
  since = (let a = sound.since in omega (arith, h, a));
  source = sound.source;
  path = sound.path;
  names = sound.names;
}

pub later_nodes : (r s : ℕ) (tree : Tree) → r ≤ s → All (HasSoundNode r) tree → All (HasSoundNode s) tree
later_nodes r s [] h all = All-nil (HasSoundNode s)
later_nodes r s (e ∷ es) h all = All-cons (HasSoundNode s) e es (later_node r s e.1 h (All-head (HasSoundNode r) e es all)) (later_nodes r s es h (All-tail (HasSoundNode r) e es all))

-- ---- properties

named_by : (order : Ordering) (prop other : Prop) (others with_others : List Prop) → is_property_name prop.name ≡ true → is_property_name other.name ≡ true → are_named others ≡ true → are_named with_others ≡ true → are_named (prop_by order prop other others with_others) ≡ true
named_by Less prop other others with_others p o os w = λ i. p i && (o i && os i)
named_by Equal prop other others with_others p o os w = λ i. p i && os i
named_by Greater prop other others with_others p o os w = λ i. o i && w i

named_with : (prop : Prop) (props : List Prop) → is_property_name prop.name ≡ true → are_named props ≡ true → are_named (with_prop prop props) ≡ true
named_with prop [] p h = λ i. p i && true
named_with prop (other ∷ others) p h =
    let q = and_parts (is_property_name other.name) (are_named others) h in
    named_by (slice_cmp nat_cmp prop.name other.name) prop other others (with_prop prop others) p q.0 q.1 (named_with prop others p q.1)

named_left : (name : List ℕ) (props : List Prop) → are_named props ≡ true → are_named (without_prop name props) ≡ true
named_left name [] h = refl
named_left name (prop ∷ props) h = by (not (bytes_eq prop.name name)) (named_left name props (and_parts (is_property_name prop.name) (are_named props) h).1)
  where
    by : (b : Bool) → are_named (without_prop name props) ≡ true → are_named (if b then prop ∷ without_prop name props else without_prop name props) ≡ true
    by true more = λ i. (and_parts (is_property_name prop.name) (are_named props) h).0 i && more i
    by false more = more

-- ---- paths

abbrev pub StandsAtPath : List ℕ × TreeNode → Type 0
StandsAtPath place = is_path place.0 ≡ true

found_behind : (e : List ℕ × TreeNode) (es : Tree) (p : List ℕ) → is_some (at p es) ≡ true → is_some (at p (e ∷ es)) ≡ true
found_behind e es p h = by (eq_by_cmp (slice_cmp nat_cmp) p e.0)
  where
    by : (b : Bool) → is_some (cond b (Some e.1) (at p es)) ≡ true
    by true = refl
    by false = h

-- something is found at each key
keys_found : (tree : Tree) → All (λ (place : List ℕ × TreeNode). is_some (at place.0 tree) ≡ true) tree
keys_found [] = All-nil (λ (place : List ℕ × TreeNode). is_some (at place.0 []) ≡ true)
keys_found (e ∷ es) = All-cons (λ (place : List ℕ × TreeNode). is_some (at place.0 (e ∷ es)) ≡ true) e es
    (ap (λ b. is_some (cond b (Some e.1) (at e.0 es))) (tied_self e.0))
    (All-weaker (λ (place : List ℕ × TreeNode). is_some (at place.0 es) ≡ true) (λ (place : List ℕ × TreeNode). is_some (at place.0 (e ∷ es)) ≡ true) (λ place h. found_behind e es place.0 h) es (keys_found es))

-- the keys of a tree that is formed are paths
pub at_paths : (tree : Tree) → IsFormed tree → All StandsAtPath tree
at_paths tree formed = All-weaker (λ (place : List ℕ × TreeNode). is_some (at place.0 tree) ≡ true) StandsAtPath (λ place h. formed.paths place.0 h) tree (keys_found tree)

-- ---- changes in order

-- where all changes fit, so does the first
pub went_on : {X : Type 0} (why : Option Unfit) (index : ℕ) (then_ : Result X (ℕ × Unfit)) (x : X) → unless why index then_ ≡ Ok x → (why ≡ None) × (then_ ≡ Ok x)
went_on None index then_ x e = (refl, e)
went_on (Some why) index then_ x e = absurd (cc)

-- ---- steps

module _ (r : ℕ) where
  abbrev Sound : List ℕ × TreeNode → Type 0
  Sound = HasSoundNode r

  pub sound-marked : (path : List ℕ) (tree : Tree) → All Sound tree → All Sound (marked r path tree)
  sound-marked path [] all = All-nil Sound
  sound-marked path (e ∷ es) all = All-cons Sound (mark r path e) (marked r path es) (by (is_under path e.0) (All-head Sound e es all)) (sound-marked path es (All-tail Sound e es all))
    where
      by : (b : Bool) → IsSoundNode r e.1 → IsSoundNode r (if b then record e.1 { node = record e.1.node { created = r } } else e.1)
      by true sound = record { created = omega arith; since = sound.since; source = sound.source; path = sound.path; names = sound.names }
      by false sound = sound

  pub sound-placed : (path : List ℕ) (node : TreeNode) (tree : Tree) → IsSoundNode r node → All Sound tree → All Sound (placed path node tree)
  sound-placed path node [] sound all = All-cons Sound (path, node) [] sound (All-nil Sound)
  sound-placed path node (e ∷ es) sound all = by (slice_cmp nat_cmp path e.0) (sound-placed path node es sound (All-tail Sound e es all))
    where
      by : (o : Ordering) → All Sound (placed path node es) → All Sound (by_order o ((path, node) ∷ e ∷ es) ((e.0, node) ∷ es) (e ∷ placed path node es))
      by Less more = All-cons Sound (path, node) (e ∷ es) sound all
      by Equal more = All-cons Sound (e.0, node) es sound (All-tail Sound e es all)
      by Greater more = All-cons Sound e (placed path node es) (All-head Sound e es all) more

  pub sound-without : (path : List ℕ) (tree : Tree) → All Sound tree → All Sound (without path tree)
  sound-without path [] all = All-nil Sound
  sound-without path (e ∷ es) all = by (not (is_under e.0 path)) (sound-without path es (All-tail Sound e es all))
    where
      by : (b : Bool) → All Sound (without path es) → All Sound (if b then e ∷ without path es else without path es)
      by true more = All-cons Sound e (without path es) (All-head Sound e es all) more
      by false more = more

  pub sound-copied : (source : List ℕ) (rev : ℕ) (path : List ℕ) (tree : Tree) → rev < r → All StandsAtPath tree → All (HasSoundNode rev) tree → All Sound (copied source rev path r tree)
  sound-copied source rev path [] below paths all = All-nil Sound
  sound-copied source rev path (e ∷ es) below paths all = by (is_under e.0 source) (sound-copied source rev path es below (All-tail StandsAtPath e es paths) (All-tail (HasSoundNode rev) e es all))
    where
      by : (b : Bool) → All Sound (copied source rev path r es) → All Sound (if b then (moved source path e.0, copied_node rev r e.0 e.1) ∷ copied source rev path r es else copied source rev path r es)
      by true more = let old = All-head (HasSoundNode rev) e es all in let a = old.created in All-cons Sound (moved source path e.0, copied_node rev r e.0 e.1) (copied source rev path r es) (record { created = omega (arith, a, below); since = omega arith; source = below; path = All-head StandsAtPath e es paths; names = old.names }) more
      by false more = more

  pub sound-all_placed : (places tree : Tree) → All Sound places → All Sound tree → All Sound (all_placed places tree)
  sound-all_placed [] tree new all = all
  sound-all_placed (e ∷ es) tree new all = sound-all_placed es (placed e.0 e.1 tree) (All-tail Sound e es new) (sound-placed e.0 e.1 tree (All-head Sound e es new) all)

  -- a node that is found is sound
  pub sound-found : (path : List ℕ) (tree : Tree) (found : TreeNode) → All Sound tree → at path tree ≡ Some found → IsSoundNode r found
  sound-found path [] found all e = absurd (cc)
  sound-found path (p ∷ ps) found all e = by (eq_by_cmp (slice_cmp nat_cmp) path p.0) (λ h. sound-found path ps found (All-tail Sound p ps all) h) e
    where
      is : p.1 ≡ found → IsSoundNode r found
      is same = subst (IsSoundNode r) same (All-head Sound p ps all)

      one : (a b : TreeNode) → Some a ≡ Some b → a ≡ b
      one a b h = cc

      by : (b : Bool) → (at path ps ≡ Some found → IsSoundNode r found) → cond b (Some p.1) (at path ps) ≡ Some found → IsSoundNode r found
      by true go same = is (one p.1 found same)
      by false go same = go same

  sound_text : (text : List ℕ) (o : Option TreeNode) (path : List ℕ) (tree : Tree) → at path tree ≡ o → All Sound tree → IsSoundNode r (with_text r text o)
  sound_text text None path tree e all = record { created = omega arith; since = omega arith; source = tt; path = refl; names = refl }
  sound_text text (Some found) path tree e all = let old = sound-found path tree found all e in record { created = old.created; since = old.since; source = old.source; path = old.path; names = old.names }

  sound_edit : (edit : List Prop → List Prop) → ((props : List Prop) → are_named props ≡ true → are_named (edit props) ≡ true) → (o : Option TreeNode) (path : List ℕ) (tree : Tree) → at path tree ≡ o → All Sound tree → All Sound (option_map_or (λ found. placed path (with_props edit found) tree) o tree)
  sound_edit edit keeps None path tree e all = all
  sound_edit edit keeps (Some found) path tree e all =
      let old = sound-found path tree found all e in
      sound-placed path (with_props edit found) tree (record { created = old.created; since = old.since; source = old.source; path = old.path; names = keeps found.node.props old.names }) all

  module _ (trees : List Tree) (many : length trees ≡ r) (sources : (rev : ℕ) → All (HasSoundNode rev) (tree_at trees rev)) where
    -- the source of a copy that fits is of an earlier revision
    source_below : (source : List ℕ) (rev : ℕ) (path : List ℕ) (tree : Tree) (there : Bool) → is_some (at source (tree_at trees rev)) ≡ there → (if there then unfit_copy path (copied source rev path 0 (tree_at trees rev)) tree else Some NoNode) ≡ None → rev < r
    source_below source rev path tree true there fits = let less = within trees rev source there in omega (arith, less, many)
    source_below source rev path tree false there fits = absurd (cc)

    pub below_fits : (change : Change) (tree : Tree) → unfit change trees tree ≡ None → comes_from_below r change ≡ true
    unfolding unfit
    below_fits (Put path text) tree fits = refl
    below_fits (SetProp path name value) tree fits = refl
    below_fits (DelProp path name) tree fits = refl
    below_fits (Mkdir path) tree fits = refl
    below_fits (Delete path) tree fits = refl
    below_fits (Copy source rev path) tree fits =
        let less : rev < r = source_below source rev path tree (is_some (at source (tree_at trees rev))) refl fits in
        grind (arith, nat_tests)

    pub sound_change : ((rev : ℕ) → rev < length trees → IsFormed (tree_at trees rev)) → (change : Change) (tree : Tree) → is_sound_change change ≡ true → unfit change trees tree ≡ None → All Sound tree → All Sound (apply change trees tree r)
    unfolding unfit apply
    sound_change formed (Put path text) tree named fits all = sound-marked path _ (sound-placed path _ tree (sound_text text (at path tree) path tree refl all) all)
    sound_change formed (SetProp path name value) tree named fits all = sound-marked path _ (sound_edit (with_prop (record { name = name; value = value })) (λ props h. named_with (record { name = name; value = value }) props named h) (at path tree) path tree refl all)
    sound_change formed (DelProp path name) tree named fits all = sound-marked path _ (sound_edit (without_prop name) (named_left name) (at path tree) path tree refl all)
    sound_change formed (Mkdir path) tree named fits all = sound-marked path _ (sound-placed path (new_dir r) tree (record { created = omega arith; since = omega arith; source = tt; path = refl; names = refl }) all)
    sound_change formed (Delete path) tree named fits all = sound-marked path _ (sound-without path tree all)
    sound_change formed (Copy source rev path) tree named fits all =
        let below = source_below source rev path tree (is_some (at source (tree_at trees rev))) refl fits in
        let paths = at_paths (tree_at trees rev) (formed rev (omega (arith, below, many))) in
        sound-marked path _ (sound-all_placed (copied source rev path r (tree_at trees rev)) tree (sound-copied source rev path (tree_at trees rev) below paths (sources rev)) all)

    -- ---- changes in order

    pub sound_changes : ((rev : ℕ) → rev < length trees → IsFormed (tree_at trees rev)) → (changes : List Change) (index : ℕ) (tree new : Tree) → list_all is_sound_change changes ≡ true → apply_from index changes trees tree r ≡ Ok new → All Sound tree → All Sound new
    unfolding apply_from
    sound_changes formed [] index tree new named e all = subst (All Sound) (ok_is tree new e) all
      where
        ok_is : (a b : Tree) → (let x : Result Tree (ℕ × Unfit) = Ok a in x) ≡ Ok b → a ≡ b
        ok_is a b e = cc
    sound_changes formed (change ∷ changes) index tree new named e all =
        let p = and_parts (is_sound_change change) (list_all is_sound_change changes) named in
        let q = went_on (unfit change trees tree) index (apply_from (index + 1) changes trees (apply change trees tree r) r) new e in
        sound_changes formed changes (index + 1) (apply change trees tree r) new p.1 q.1 (sound_change formed change tree p.0 q.0 all)

    pub sources_below : (changes : List Change) (index : ℕ) (tree new : Tree) → apply_from index changes trees tree r ≡ Ok new → list_all (comes_from_below r) changes ≡ true
    unfolding apply_from
    sources_below [] index tree new e = refl
    sources_below (change ∷ changes) index tree new e =
        let q = went_on (unfit change trees tree) index (apply_from (index + 1) changes trees (apply change trees tree r) r) new e in
        λ i. below_fits change tree q.0 i && sources_below changes (index + 1) (apply change trees tree r) new q.1 i
