-- What changes keep of a tree's form.
use Rattle.std.proofs.Common.{◌⊎◌, ◌≡◌, ℕ, zero, suc, ◌<◌, ◌≤◌, Bool, true, false, cond, not, List, [], ◌∷◌, ◌++◌, Option, None, Some, length, refl, sym, ap, ◌∙◌, inl, inr, arith}
use Rattle.std.specs.Prelude.{if◌then◌else◌, is_some, filter}
use Rattle.std.specs.List.{list_any}
use Rattle.std.specs.Option.{option_map, option_map_or}
use Rattle.std.specs.Str.{bytes_eq}
use Rattle.std.specs.Ordering.{nat_cmp, eq_by_cmp, is_eq, is_lt, ordering_reverse}
use Rattle.std.specs.Cmp.{tied_itself}
use Rattle.std.specs.Cmp.Lexicographic.{slice_cmp, nat_list_cmp_total}
use Rattle.std.specs.declared.cmp.Ordering.{Ordering}
use Rattle.std.specs.declared.cmp.Ordering.TheVariants.{Less, Equal, Greater}
use Rattle.std.specs.FinMap.Entries.{below_all, find-put, find-where_key}
use Rattle.std.proofs.lemmas.Bool.{and_parts, and_from, cases_lt}
use Rattle.std.proofs.lemmas.Map.Lookups.{exact_bytes}
use Rattle.dsv_base.specs.declared.prop.Prop.{Prop}
use Rattle.dsv_base.specs.Paths.{is_path, is_slash, is_under, root_text, before_last_slash, parent_text, front_of}
use Rattle.rev_nodes.specs.declared.change.Change.{Change}
use Rattle.rev_nodes.specs.declared.change.Change.TheVariants.{Put, SetProp, DelProp, Mkdir, Delete, Copy}
use Rattle.rev_nodes.specs.declared.kind.Kind.{Kind}
use Rattle.rev_nodes.specs.declared.unfit.Unfit.{Unfit}
use Rattle.rev_nodes.specs.declared.unfit.Unfit.TheVariants.{NoNode, IsRoot, Exists, NoParent}
use Rattle.rev_nodes.specs.Trees.{TreeNode, Tree, at, tree_at, is_dir, is_file, is_dir_kind, new_dir}
use Rattle.rev_nodes.specs.Changes.{has_parent, unfit_new, moved, past, copied_node, copied, are_paths, unfit_copy, or_too_long, unfit, mark, marked, with_text, placed, all_placed, with_props, without, prop_by, with_prop, without_prop, apply}
use Rattle.rev_nodes.specs.ChangedPaths.{path_of}
use Rattle.rev_nodes.specs.Fitting.{in_order}
use Rattle.rev_nodes.specs.PropertyNames.{comes_before, names_rise}
use Rattle.rev_nodes.specs.Formed.{has_ordered_props, IsFormed}
use Rattle.rev_nodes.proofs.Below.{same_from, equal_itself, differ, long, no_empty, cut_shorter, up, up_long, under_itself, under_parent, under_front, behind, root_not_under, below_long, behind_same, not_behind, apart_front, moved_behind, moved_source}
use Rattle.rev_nodes.proofs.Marks.{any_revision}

-- ---- kinds

abbrev pub kind_of : TreeNode → Kind
kind_of found = found.node.kind

abbrev pub kind_at : List ℕ → Tree → Option Kind
kind_at path tree = option_map kind_of (at path tree)

-- they say whether something stands there, and whether a directory does
pub some_by_kind : (o : Option TreeNode) → is_some o ≡ is_some (option_map kind_of o)
some_by_kind None = refl
some_by_kind (Some found) = refl

pub dir_by_kind : (o : Option TreeNode) → is_dir o ≡ option_map_or is_dir_kind (option_map kind_of o) false
dir_by_kind None = refl
dir_by_kind (Some found) = refl

-- a directory is something
pub some_dir : (o : Option TreeNode) → is_dir o ≡ true → is_some o ≡ true
some_dir None h = absurd (cc)
some_dir (Some found) h = refl

pub none_is_no_dir : {X : Type 0} (o : Option TreeNode) → is_some o ≡ false → is_dir o ≡ true → X
none_is_no_dir None n d = absurd (cc)
none_is_no_dir (Some found) n d = absurd (cc)

module _ (tree new : Tree) (same : (path : List ℕ) → kind_at path new ≡ kind_at path tree) (ordered : IsFormed tree → (path : List ℕ) → has_ordered_props (at path new) ≡ true) where
  some_same : (path : List ℕ) → is_some (at path new) ≡ is_some (at path tree)
  some_same path = some_by_kind (at path new) ∙ ap is_some (same path) ∙ sym (some_by_kind (at path tree))

  dir_same : (path : List ℕ) → is_dir (at path new) ≡ is_dir (at path tree)
  dir_same path = dir_by_kind (at path new) ∙ ap (λ o. option_map_or is_dir_kind o false) (same path) ∙ sym (dir_by_kind (at path tree))

  -- a tree with the kinds of one that is formed is so too
  formed_same : IsFormed tree → IsFormed new
  formed_same formed = record {
    root = dir_same root_text ∙ formed.root;
    paths = λ path some. formed.paths path (sym (some_same path) ∙ some);
    parents = λ path parent some is. dir_same parent ∙ formed.parents path parent (sym (some_same path) ∙ some) is;
    props = ordered formed;
  }

pub kind-marked : (r : ℕ) (path : List ℕ) (tree : Tree) (p : List ℕ) → kind_at p (marked r path tree) ≡ kind_at p tree
kind-marked r path [] p = refl
kind-marked r path (e ∷ es) p =
    elim (eq_by_cmp (slice_cmp nat_cmp) p e.0) as (λ b. option_map kind_of (cond b (Some (mark r path e).1) (at p (marked r path es))) ≡ option_map kind_of (cond b (Some e.1) (at p es))) [
      | true ↦ elim (is_under path e.0) as (λ u. Some (kind_of (if u then record e.1 { node = record e.1.node { created = r } } else e.1)) ≡ Some (kind_of e.1)) [ true ↦ refl | false ↦ refl ]
      | false ↦ kind-marked r path es p
    ]

pub props-marked : (r : ℕ) (path : List ℕ) (tree : Tree) (p : List ℕ) → has_ordered_props (at p (marked r path tree)) ≡ has_ordered_props (at p tree)
props-marked r path [] p = refl
props-marked r path (e ∷ es) p =
    elim (eq_by_cmp (slice_cmp nat_cmp) p e.0) as (λ b. has_ordered_props (cond b (Some (mark r path e).1) (at p (marked r path es))) ≡ has_ordered_props (cond b (Some e.1) (at p es))) [
      | true ↦ elim (is_under path e.0) as (λ u. has_ordered_props (Some (if u then record e.1 { node = record e.1.node { created = r } } else e.1)) ≡ has_ordered_props (Some e.1)) [ true ↦ refl | false ↦ refl ]
      | false ↦ props-marked r path es p
    ]

-- marks keep it
pub formed-marked : (r : ℕ) (path : List ℕ) (tree : Tree) → IsFormed tree → IsFormed (marked r path tree)
formed-marked r path tree = formed_same tree (marked r path tree) (kind-marked r path tree) (λ formed p. props-marked r path tree p ∙ formed.props p)

-- ---- a node at a path

pub at-placed : (p path : List ℕ) (node : TreeNode) (tree : Tree) → at p (placed path node tree) ≡ cond (eq_by_cmp (slice_cmp nat_cmp) p path) (Some node) (at p tree)
at-placed p path node tree = find-put (slice_cmp nat_cmp) nat_list_cmp_total p path node tree

pub equal_from : (r : Ordering) → is_eq r ≡ true → r ≡ Equal
equal_from Less e = absurd (cc)
equal_from Equal e = refl
equal_from Greater e = absurd (cc)

-- texts that tie are one
pub tied : (p path : List ℕ) → eq_by_cmp (slice_cmp nat_cmp) p path ≡ true → p ≡ path
tied p path t = exact_bytes p path (equal_from (slice_cmp nat_cmp p path) t)

pub tied_self : (p : List ℕ) → eq_by_cmp (slice_cmp nat_cmp) p p ≡ true
tied_self p = ap is_eq (tied_itself nat_list_cmp_total p)

pub props-placed : (path : List ℕ) (node : TreeNode) (tree : Tree) → names_rise node.node.props ≡ true → IsFormed tree → (p : List ℕ) → has_ordered_props (at p (placed path node tree)) ≡ true
props-placed path node tree rise formed p = ap has_ordered_props (at-placed p path node tree) ∙ either (eq_by_cmp (slice_cmp nat_cmp) p path)
  where
    either : (b : Bool) → has_ordered_props (cond b (Some node) (at p tree)) ≡ true
    either true = rise
    either false = formed.props p

-- over one of the same kind
pub formed_over : (path : List ℕ) (node found : TreeNode) (tree : Tree) → at path tree ≡ Some found → kind_of node ≡ kind_of found → names_rise node.node.props ≡ true → IsFormed tree → IsFormed (placed path node tree)
formed_over path node found tree here same rise = formed_same tree (placed path node tree) (λ p. ap (option_map kind_of) (at-placed p path node tree) ∙ either p (eq_by_cmp (slice_cmp nat_cmp) p path) refl) (props-placed path node tree rise)
  where
    either : (p : List ℕ) (b : Bool) → eq_by_cmp (slice_cmp nat_cmp) p path ≡ b → option_map kind_of (cond b (Some node) (at p tree)) ≡ option_map kind_of (at p tree)
    either p true t = ap (λ (k : Kind). Some k) same ∙ ap (option_map kind_of) (sym here) ∙ ap (λ q. option_map kind_of (at q tree)) (sym (tied p path t))
    either p false t = refl

pub parent_is_dir : (path parent : List ℕ) (tree : Tree) → has_parent path tree ≡ true → parent_text path ≡ Some parent → is_dir (at parent tree) ≡ true
parent_is_dir path parent tree h is = ap (λ (o : Option (List ℕ)). option_map_or (λ q. is_dir (at q tree)) o false) (sym is) ∙ h

-- where nothing stands, in a directory
pub formed_more : (path : List ℕ) (node : TreeNode) (tree : Tree) → names_rise node.node.props ≡ true → is_some (at path tree) ≡ false → has_parent path tree ≡ true → is_path path ≡ true → IsFormed tree → IsFormed (placed path node tree)
formed_more path node tree rise free has one formed = record {
  root = kept root_text formed.root;
  paths = λ p some. path_there p (eq_by_cmp (slice_cmp nat_cmp) p path) refl (sym (ap is_some (at-placed p path node tree)) ∙ some);
  parents = λ p q some is. kept q (in_dir p q (eq_by_cmp (slice_cmp nat_cmp) p path) refl (sym (ap is_some (at-placed p path node tree)) ∙ some) is);
  props = props-placed path node tree rise formed;
}
  where
    kept_by : (q : List ℕ) (b : Bool) → eq_by_cmp (slice_cmp nat_cmp) q path ≡ b → is_dir (at q tree) ≡ true → is_dir (cond b (Some node) (at q tree)) ≡ true
    kept_by q true t dir = none_is_no_dir (at path tree) free (ap (λ x. is_dir (at x tree)) (sym (tied q path t)) ∙ dir)
    kept_by q false t dir = dir

    kept : (q : List ℕ) → is_dir (at q tree) ≡ true → is_dir (at q (placed path node tree)) ≡ true
    kept q dir = ap is_dir (at-placed q path node tree) ∙ kept_by q (eq_by_cmp (slice_cmp nat_cmp) q path) refl dir

    path_there : (p : List ℕ) (b : Bool) → eq_by_cmp (slice_cmp nat_cmp) p path ≡ b → is_some (cond b (Some node) (at p tree)) ≡ true → is_path p ≡ true
    path_there p true t some = ap is_path (tied p path t) ∙ one
    path_there p false t some = formed.paths p some

    in_dir : (p q : List ℕ) (b : Bool) → eq_by_cmp (slice_cmp nat_cmp) p path ≡ b → is_some (cond b (Some node) (at p tree)) ≡ true → parent_text p ≡ Some q → is_dir (at q tree) ≡ true
    in_dir p q true t some is = parent_is_dir path q tree has (ap parent_text (sym (tied p path t)) ∙ is)
    in_dir p q false t some is = formed.parents p q some is

-- why a new node fits
pub record IsFree (path : List ℕ) (tree : Tree) : Type 0 where
  pub free : is_some (at path tree) ≡ false
  pub has : has_parent path tree ≡ true

pub free_from : (path : List ℕ) (tree : Tree) → unfit_new path tree ≡ None → IsFree path tree
free_from path tree h = either (is_some (at path tree)) (has_parent path tree) refl refl h
  where
    either : (there has : Bool) → is_some (at path tree) ≡ there → has_parent path tree ≡ has → (if there then Some Exists else if has then None else Some NoParent) ≡ None → IsFree path tree
    either true has t p h = absurd (cc)
    either false true t p h = record { free = t; has = p }
    either false false t p h = absurd (cc)

-- ---- what is left by a delete

pub at-without : (p path : List ℕ) (tree : Tree) → at p (without path tree) ≡ cond (not (is_under p path)) (at p tree) None
at-without p path tree = find-where_key (slice_cmp nat_cmp) (λ x. not (is_under x path)) p (λ x t. ap (λ y. not (is_under y path)) (sym (exact_bytes p x t))) tree

-- what is left: it stood there, and not under the path
pub record IsLeft (path : List ℕ) (tree : Tree) (p : List ℕ) : Type 0 where
  there : is_some (at p tree) ≡ true
  there_is : is_path p ≡ true
  apart : is_under p path ≡ false

pub formed-without : (path : List ℕ) (tree : Tree) → is_path path ≡ true → bytes_eq path root_text ≡ false → IsFormed tree → IsFormed (without path tree)
formed-without path tree one other formed = record {
  root = ap is_dir (at-without root_text path tree) ∙ ap (λ b. is_dir (cond (not b) (at root_text tree) None)) (root_not_under path (long path one other)) ∙ formed.root;
  paths = λ p some. (left p some).there_is;
  parents = λ p q some is. stays p q (left p some) is (is_under q path) refl;
  props = λ p. ap has_ordered_props (at-without p path tree) ∙ ordered p (is_under p path);
}
  where
    ordered : (p : List ℕ) (b : Bool) → has_ordered_props (cond (not b) (at p tree) None) ≡ true
    ordered p true = refl
    ordered p false = formed.props p

    left_by : (p : List ℕ) (b : Bool) → is_under p path ≡ b → is_some (cond (not b) (at p tree) None) ≡ true → IsLeft path tree p
    left_by p true u some = absurd (cc)
    left_by p false u some = record { there = some; there_is = formed.paths p some; apart = u }

    left : (p : List ℕ) → is_some (at p (without path tree)) ≡ true → IsLeft path tree p
    left p some = left_by p (is_under p path) refl (sym (ap is_some (at-without p path tree)) ∙ some)

    stays : (p q : List ℕ) → IsLeft path tree p → parent_text p ≡ Some q → (b : Bool) → is_under q path ≡ b → is_dir (at q (without path tree)) ≡ true
    stays p q l is true u = absurd (let q_is = formed.paths q (some_dir (at q tree) (formed.parents p q l.there is)) in let h = under_parent p q path l.there_is one other is q_is u in let a = l.apart in cc (h, a))
    stays p q l is false u = ap is_dir (at-without q path tree) ∙ ap (λ b. is_dir (cond (not b) (at q tree) None)) u ∙ formed.parents p q l.there is

-- ---- what a copy adds

pub none_below : (x : List ℕ) (tree : Tree) → below_all (slice_cmp nat_cmp) x tree ≡ true → at x tree ≡ None
none_below x [] h = refl
none_below x (e ∷ es) h =
    let parts = and_parts (is_lt (slice_cmp nat_cmp x e.0)) (below_all (slice_cmp nat_cmp) x es) h in
    ap (λ r. cond (is_eq r) (Some e.1) (at x es)) (less_from (slice_cmp nat_cmp x e.0) parts.0) ∙ none_below x es parts.1
  where
    less_from : (r : Ordering) → is_lt r ≡ true → r ≡ Less
    less_from Less h = refl
    less_from Equal h = absurd (cc)
    less_from Greater h = absurd (cc)

-- what stands among the later places stands in all, where these are in order
pub later : (e : List ℕ × TreeNode) (es : Tree) (p : List ℕ) (found : TreeNode) → below_all (slice_cmp nat_cmp) e.0 es ≡ true → at p es ≡ Some found → at p (e ∷ es) ≡ Some found
later e es p found below here = either (eq_by_cmp (slice_cmp nat_cmp) p e.0) refl
  where
    either : (b : Bool) → eq_by_cmp (slice_cmp nat_cmp) p e.0 ≡ b → cond b (Some e.1) (at p es) ≡ Some found
    either true t = absurd (let none = ap (λ q. at q es) (tied p e.0 t) ∙ none_below e.0 es below in cc (none, here))
    either false t = here

module _ (source : List ℕ) (rev : ℕ) (path : List ℕ) (r : ℕ) where
  -- a node of the source's tree is copied to this place
  pub record IsCopied (from : Tree) (k : List ℕ) (now : Option TreeNode) : Type 0 where
    pub origin : List ℕ
    pub found : TreeNode
    pub there : at origin from ≡ Some found
    pub under : is_under origin source ≡ true
    pub to : moved source path origin ≡ k
    pub fits : is_path k ≡ true
    pub is : now ≡ Some (copied_node rev r origin found)

  -- nothing is copied to this place
  pub record IsAsBefore (from tree : Tree) (k : List ℕ) (now : Option TreeNode) : Type 0 where
    pub is : now ≡ at k tree
    pub none : (p : List ℕ) → is_some (at p from) ≡ true → is_under p source ≡ true → moved source path p ≡ k → ⊥

  abbrev pub IsEither : Tree → Tree → List ℕ → Option TreeNode → Type 0
  IsEither from tree k now = IsCopied from k now ⊎ IsAsBefore from tree k now

  abbrev there : List ℕ × TreeNode → List ℕ × TreeNode
  there e = (moved source path e.0, copied_node rev r e.0 e.1)

  module _ (e : List ℕ × TreeNode) (es : Tree) (below : below_all (slice_cmp nat_cmp) e.0 es ≡ true) (k : List ℕ) where
    more_copied : (now : Option TreeNode) → IsCopied es k now → IsCopied (e ∷ es) k now
    more_copied now c = record { origin = c.origin; found = c.found; there = later e es c.origin c.found below c.there; under = c.under; to = c.to; fits = c.fits; is = c.is }

    -- the first place isn't under the source
    passed : (tree : Tree) (now : Option TreeNode) → is_under e.0 source ≡ false → IsEither es tree k now → IsEither (e ∷ es) tree k now
    passed tree now apart (inl c) = inl (more_copied now c)
    passed tree now apart (inr b) = inr (record { is = b.is; none = λ p some under to. none_by p (eq_by_cmp (slice_cmp nat_cmp) p e.0) refl some under to })
      where
        none_by : (p : List ℕ) (b1 : Bool) → eq_by_cmp (slice_cmp nat_cmp) p e.0 ≡ b1 → is_some (cond b1 (Some e.1) (at p es)) ≡ true → is_under p source ≡ true → moved source path p ≡ k → ⊥
        none_by p true t some under to = absurd (let u = ap (λ q. is_under q source) (sym (tied p e.0 t)) ∙ under in cc (u, apart))
        none_by p false t some under to = b.none p some under to

    -- it is, and stands there before the others
    placed_first : (tree : Tree) (now : Option TreeNode) → is_under e.0 source ≡ true → is_path (moved source path e.0) ≡ true → IsEither es (placed (moved source path e.0) (copied_node rev r e.0 e.1) tree) k now → IsEither (e ∷ es) tree k now
    placed_first tree now under fits (inl c) = inl (more_copied now c)
    placed_first tree now under fits (inr b) = here_or (eq_by_cmp (slice_cmp nat_cmp) k (moved source path e.0)) refl (b.is ∙ at-placed k (moved source path e.0) (copied_node rev r e.0 e.1) tree)
      where
        here_or : (b1 : Bool) → eq_by_cmp (slice_cmp nat_cmp) k (moved source path e.0) ≡ b1 → now ≡ cond b1 (Some (copied_node rev r e.0 e.1)) (at k tree) → IsEither (e ∷ es) tree k now
        here_or true t is = inl (record {
          origin = e.0;
          found = e.1;
          there = ap (λ b2. cond b2 (Some e.1) (at e.0 es)) (tied_self e.0);
          under = under;
          to = sym (tied k (moved source path e.0) t);
          fits = ap is_path (tied k (moved source path e.0) t) ∙ fits;
          is = is;
        })
        here_or false t is = inr (record { is = is; none = λ p some u to. none_by p (eq_by_cmp (slice_cmp nat_cmp) p e.0) refl t some u to })
          where
            none_by : (p : List ℕ) (b1 : Bool) → eq_by_cmp (slice_cmp nat_cmp) p e.0 ≡ b1 → eq_by_cmp (slice_cmp nat_cmp) k (moved source path e.0) ≡ false → is_some (cond b1 (Some e.1) (at p es)) ≡ true → is_under p source ≡ true → moved source path p ≡ k → ⊥
            none_by p true s t some u to =
                let same : moved source path e.0 ≡ k = ap (moved source path) (sym (tied p e.0 s)) ∙ to in
                let hit : eq_by_cmp (slice_cmp nat_cmp) k (moved source path e.0) ≡ true = ap (eq_by_cmp (slice_cmp nat_cmp) k) same ∙ tied_self k in
                absurd (cc (hit, t))
            none_by p false s t some u to = b.none p some u to

  -- each place of what a copy makes is one or the other
  pub each : (from tree : Tree) → in_order from ≡ true → are_paths (copied source rev path r from) ≡ true → (k : List ℕ) → IsEither from tree k (at k (all_placed (copied source rev path r from) tree))
  each [] tree sorted fits k = inr (record { is = refl; none = λ p some under to. absurd (cc some) })
  each (e ∷ es) tree sorted fits k = by_under (is_under e.0 source) refl fits (λ t f. each es t (and_parts (below_all (slice_cmp nat_cmp) e.0 es) (in_order es) sorted).1 f k)
    where
      below : below_all (slice_cmp nat_cmp) e.0 es ≡ true
      below = (and_parts (below_all (slice_cmp nat_cmp) e.0 es) (in_order es) sorted).0

      by_under : (b : Bool) → is_under e.0 source ≡ b → are_paths (if b then there e ∷ copied source rev path r es else copied source rev path r es) ≡ true → ((t : Tree) → are_paths (copied source rev path r es) ≡ true → IsEither es t k (at k (all_placed (copied source rev path r es) t))) → IsEither (e ∷ es) tree k (at k (all_placed (if b then there e ∷ copied source rev path r es else copied source rev path r es) tree))
      by_under true u f go =
          let parts = and_parts (is_path (moved source path e.0)) (are_paths (copied source rev path r es)) f in
          placed_first e es below k tree _ u parts.0 (go (placed (moved source path e.0) (copied_node rev r e.0 e.1) tree) parts.1)
      by_under false u f go = passed e es below k tree _ u (go tree f)

-- what stands in nothing isn't there
module _ (path : List ℕ) (tree : Tree) (one : is_path path ≡ true) (other : bytes_eq path root_text ≡ false) (free : is_some (at path tree) ≡ false) (formed : IsFormed tree) where
  absent_up_to : (n : ℕ) (rest : List ℕ) → length rest < n → is_some (at (path ++ 47 ∷ rest) tree) ≡ true → ⊥
  absent_up_to zero rest size some = absurd (omega arith)
  absent_up_to (suc n) rest size some = either (list_any is_slash rest) refl (λ less there. absent_up_to n (before_last_slash rest) less there) (formed.parents (path ++ 47 ∷ rest) _ some (up_long path rest one other))
    where
      either : (more : Bool) → list_any is_slash rest ≡ more → (length (before_last_slash rest) < n → is_some (at (path ++ 47 ∷ before_last_slash rest) tree) ≡ true → ⊥) → is_dir (at (if more then path ++ 47 ∷ before_last_slash rest else path) tree) ≡ true → ⊥
      either true e go dir = let less = cut_shorter rest e in go (omega arith) (some_dir (at (path ++ 47 ∷ before_last_slash rest) tree) dir)
      either false e go dir = none_is_no_dir (at path tree) free dir

  pub absent : (rest : List ℕ) → is_some (at (path ++ 47 ∷ rest) tree) ≡ true → ⊥
  absent rest some = absent_up_to (suc (length rest)) rest (omega arith) some

-- where a copy puts what is under its source
pub record IsMoved (source path p : List ℕ) : Type 0 where
  pub apart : bytes_eq p source ≡ false
  pub rest : List ℕ
  pub is : p ≡ front_of source ++ 47 ∷ rest
  pub to : moved source path p ≡ path ++ 47 ∷ rest

abbrev pub Goes : List ℕ → List ℕ → List ℕ → Type 0
Goes source path p = (p ≡ source) ⊎ IsMoved source path p

pub goes : (source path p : List ℕ) → is_path p ≡ true → is_under p source ≡ true → Goes source path p
goes source path p one under = either (bytes_eq p source) refl
  where
    either : (b : Bool) → bytes_eq p source ≡ b → Goes source path p
    either true e = inl (same_from p source e)
    either false e =
        let far = behind p source one under e in
        inr (record { apart = e; rest = far.rest; is = far.is; to = ap (moved source path) far.is ∙ moved_behind source path far.rest (ap (λ q. bytes_eq q source) (sym far.is) ∙ e) })

pub moved_once : (source path p q k : List ℕ) → Goes source path p → Goes source path q → moved source path p ≡ k → moved source path q ≡ k → p ≡ q
moved_once source path p q k (inl a) (inl b) one two = a ∙ sym b
moved_once source path p q k (inl a) (inr n) one two = not_behind path n.rest (sym (moved_source source path) ∙ ap (moved source path) (sym a) ∙ one ∙ sym two ∙ n.to)
moved_once source path p q k (inr m) (inl b) one two = not_behind path m.rest (sym (moved_source source path) ∙ ap (moved source path) (sym b) ∙ two ∙ sym one ∙ m.to)
moved_once source path p q k (inr m) (inr n) one two = m.is ∙ ap (λ rest. front_of source ++ 47 ∷ rest) (behind_same path m.rest n.rest (sym m.to ∙ one ∙ sym two ∙ n.to)) ∙ sym n.is

-- the parent of a moved path is the moved parent
pub record HasMovedParent (source path p q : List ℕ) : Type 0 where
  parent : List ℕ
  is : parent_text p ≡ Some parent
  under : is_under parent source ≡ true
  to : moved source path parent ≡ q

pub some_is : {X : Type 0} (x y : X) → Some x ≡ Some y → x ≡ y
some_is x y e = cc

pub moved_parent : (source path p q : List ℕ) → is_path source ≡ true → is_path path ≡ true → bytes_eq path root_text ≡ false → is_path p ≡ true → IsMoved source path p → parent_text (moved source path p) ≡ Some q → HasMovedParent source path p q
moved_parent source path p q source_one path_one other one m is =
    either (list_any is_slash m.rest) refl
    (ap parent_text m.is ∙ up source m.rest source_one not_root)
    (some_is _ q (sym (ap parent_text m.to ∙ up_long path m.rest path_one other) ∙ is))
  where
    root_or : (b : Bool) → bytes_eq source root_text ≡ b → p ≡ root_text → ⊥
    root_or true e root = absurd (let s : bytes_eq p source ≡ true = ap (λ t. bytes_eq t source) (root ∙ sym (same_from source root_text e)) ∙ equal_itself source in let a = m.apart in cc (s, a))
    root_or false e root =
        let under : is_under p source ≡ true = ap (λ t. is_under t source) m.is ∙ under_front source m.rest in
        absurd (let long_one = below_long p source (long source source_one e) under in let s : bytes_eq p root_text ≡ true = ap (λ t. bytes_eq t root_text) root in cc (s, long_one))

    not_root : bytes_eq (front_of source ++ 47 ∷ m.rest) root_text ≡ false
    not_root = ap (λ t. bytes_eq t root_text) (sym m.is) ∙ differ p root_text (root_or (bytes_eq source root_text) refl)

    either : (more : Bool) → list_any is_slash m.rest ≡ more → parent_text p ≡ Some (if more then front_of source ++ 47 ∷ before_last_slash m.rest else source) → (if more then path ++ 47 ∷ before_last_slash m.rest else path) ≡ q → HasMovedParent source path p q
    either true e up_is to =
        let apart = apart_front source (before_last_slash m.rest) (λ root none. no_empty m.rest (ap is_path (sym (m.is ∙ ap (λ b. (if b then [] else source) ++ 47 ∷ m.rest) root)) ∙ one) e none) in
        record { parent = front_of source ++ 47 ∷ before_last_slash m.rest; is = up_is; under = under_front source (before_last_slash m.rest); to = moved_behind source path (before_last_slash m.rest) apart ∙ to }
    either false e up_is to = record { parent = source; is = up_is; under = under_itself source; to = moved_source source path ∙ to }

module _ (source : List ℕ) (rev : ℕ) (path : List ℕ) (r : ℕ) (from tree : Tree) (formed_from : IsFormed from) (formed : IsFormed tree) (sorted : in_order from ≡ true) (fits : are_paths (copied source rev path r from) ≡ true)
    (source_there : is_some (at source from) ≡ true) (one : is_path path ≡ true) (is_free : IsFree path tree) where
  new : Tree
  new = all_placed (copied source rev path r from) tree

  now : (k : List ℕ) → IsEither source rev path r from tree k (at k new)
  unfolding new
  now k = each source rev path r from tree sorted fits k

  source_one : is_path source ≡ true
  source_one = formed_from.paths source source_there

  other : bytes_eq path root_text ≡ false
  other = differ path root_text (λ root. none_is_no_dir (at path tree) is_free.free (ap (λ q. is_dir (at q tree)) root ∙ formed.root))

  origin_is_path : (k : List ℕ) (o : Option TreeNode) (c : IsCopied source rev path r from k o) → is_path c.origin ≡ true
  origin_is_path k o c = formed_from.paths c.origin (ap is_some c.there)

  -- what stood there is no copy
  not_copied : (k : List ℕ) (o : Option TreeNode) → is_some (at k tree) ≡ true → IsCopied source rev path r from k o → ⊥
  not_copied k o some c = either (goes source path c.origin (origin_is_path k o c) c.under)
    where
      either : Goes source path c.origin → ⊥
      either (inl same) =
          let here : path ≡ k = sym (moved_source source path) ∙ ap (moved source path) (sym same) ∙ c.to in
          absurd (let f = is_free.free in let t = ap (λ q. is_some (at q tree)) here ∙ some in cc (f, t))
      either (inr m) = absent path tree one other is_free.free formed m.rest (ap (λ q. is_some (at q tree)) (sym m.to ∙ c.to) ∙ some)

  dir_stays : (q : List ℕ) → is_dir (at q tree) ≡ true → is_dir (at q new) ≡ true
  dir_stays q dir = either (now q)
    where
      either : IsEither source rev path r from tree q (at q new) → is_dir (at q new) ≡ true
      either (inl c) = absurd (not_copied q (at q new) (some_dir (at q tree) dir) c)
      either (inr b) = ap is_dir b.is ∙ dir

  -- a directory is copied with what stands in it
  dir_copied : (k q : List ℕ) (o : Option TreeNode) (c : IsCopied source rev path r from k o) → HasMovedParent source path c.origin q → is_dir (at q new) ≡ true
  dir_copied k q o c up = either (now q)
    where
      dir : is_dir (at up.parent from) ≡ true
      dir = formed_from.parents c.origin up.parent (ap is_some c.there) up.is

      parent_one : is_path up.parent ≡ true
      parent_one = formed_from.paths up.parent (some_dir (at up.parent from) dir)

      either : IsEither source rev path r from tree q (at q new) → is_dir (at q new) ≡ true
      either (inl d) =
          let same : d.origin ≡ up.parent = moved_once source path d.origin up.parent q (goes source path d.origin (origin_is_path q (at q new) d) d.under) (goes source path up.parent parent_one up.under) d.to up.to in
          ap is_dir d.is ∙ sym (ap is_dir d.there) ∙ ap (λ t. is_dir (at t from)) same ∙ dir
      either (inr b) = absurd (b.none up.parent (some_dir (at up.parent from) dir) up.under up.to)

  in_dir : (k q : List ℕ) → IsEither source rev path r from tree k (at k new) → is_some (at k new) ≡ true → parent_text k ≡ Some q → is_dir (at q new) ≡ true
  in_dir k q (inl c) some is = either (goes source path c.origin (origin_is_path k (at k new) c) c.under)
    where
      either : Goes source path c.origin → is_dir (at q new) ≡ true
      either (inl same) =
          let here : path ≡ k = sym (moved_source source path) ∙ ap (moved source path) (sym same) ∙ c.to in
          dir_stays q (parent_is_dir path q tree is_free.has (ap parent_text here ∙ is))
      either (inr m) = dir_copied k q (at k new) c (moved_parent source path c.origin q source_one one other (origin_is_path k (at k new) c) m (ap parent_text c.to ∙ is))
  in_dir k q (inr b) some is = dir_stays q (formed.parents k q (ap is_some (sym b.is) ∙ some) is)

  path_there : (k : List ℕ) → IsEither source rev path r from tree k (at k new) → is_some (at k new) ≡ true → is_path k ≡ true
  path_there k (inl c) some = c.fits
  path_there k (inr b) some = formed.paths k (ap is_some (sym b.is) ∙ some)

  ordered : (k : List ℕ) → IsEither source rev path r from tree k (at k new) → has_ordered_props (at k new) ≡ true
  ordered k (inl c) = ap has_ordered_props c.is ∙ ap has_ordered_props (sym c.there) ∙ formed_from.props c.origin
  ordered k (inr b) = ap has_ordered_props b.is ∙ formed.props k

  formed-copied : IsFormed (all_placed (copied source rev path r from) tree)
  unfolding new
  formed-copied = record {
    root = dir_stays root_text formed.root;
    paths = λ k some. path_there k (now k) some;
    parents = λ k q some is. in_dir k q (now k) some is;
    props = λ k. ordered k (now k);
  }

-- ---- properties

pub less_than : (r : Ordering) → is_lt r ≡ true → r ≡ Less
less_than Less h = refl
less_than Equal h = absurd (cc)
less_than Greater h = absurd (cc)

-- a property before the first is before the next
pub passed_by : (x prop : Prop) (props : List Prop) → slice_cmp nat_cmp x.name prop.name ≡ Less → comes_before prop props ≡ true → comes_before x props ≡ true
passed_by x prop [] less before = refl
passed_by x prop (next ∷ props) less before = ap is_lt (nat_list_cmp_total.trans x.name prop.name next.name less (less_than (slice_cmp nat_cmp prop.name next.name) before))

module _ (keeps : Prop → Bool) where
  before_left : (x : Prop) (props : List Prop) → comes_before x props ≡ true → names_rise props ≡ true → comes_before x (filter keeps props) ≡ true
  before_left x [] before rise = refl
  before_left x (prop ∷ props) before rise =
      let parts = and_parts (comes_before prop props) (names_rise props) rise in
      either (keeps prop) (before_left x props (passed_by x prop props (less_than (slice_cmp nat_cmp x.name prop.name) before) parts.0) parts.1)
    where
      either : (b : Bool) → comes_before x (filter keeps props) ≡ true → comes_before x (cond b (prop ∷ filter keeps props) (filter keeps props)) ≡ true
      either true rest = before
      either false rest = rest

  rise_left : (props : List Prop) → names_rise props ≡ true → names_rise (filter keeps props) ≡ true
  rise_left [] rise = refl
  rise_left (prop ∷ props) rise =
      let parts = and_parts (comes_before prop props) (names_rise props) rise in
      either (keeps prop) (before_left prop props parts.0 parts.1) (rise_left props parts.1)
    where
      either : (b : Bool) → comes_before prop (filter keeps props) ≡ true → names_rise (filter keeps props) ≡ true → names_rise (cond b (prop ∷ filter keeps props) (filter keeps props)) ≡ true
      either true before rest = and_from _ _ before rest
      either false before rest = rest

pub before_with : (x prop : Prop) (props : List Prop) → slice_cmp nat_cmp x.name prop.name ≡ Less → comes_before x props ≡ true → comes_before x (with_prop prop props) ≡ true
before_with x prop [] less before = ap is_lt less
before_with x prop (other ∷ others) less before =
    elim (slice_cmp nat_cmp prop.name other.name) as (λ o. comes_before x (prop_by o prop other others (with_prop prop others)) ≡ true) [
      | Less ↦ ap is_lt less
      | Equal ↦ ap is_lt less
      | Greater ↦ before
    ]

pub rise_with : (prop : Prop) (props : List Prop) → names_rise props ≡ true → names_rise (with_prop prop props) ≡ true
rise_with prop [] rise = refl
rise_with prop (other ∷ others) rise =
    let parts = and_parts (comes_before other others) (names_rise others) rise in
    elim (slice_cmp nat_cmp prop.name other.name) as (λ o. slice_cmp nat_cmp prop.name other.name ≡ o → names_rise (prop_by o prop other others (with_prop prop others)) ≡ true) [
      | Less ↦ λ e. and_from _ _ (ap is_lt e) rise
      | Equal ↦ λ e. and_from _ _ (same_before (exact_bytes prop.name other.name e) others parts.0) parts.1
      | Greater ↦ λ e. and_from _ _ (before_with other prop others (nat_list_cmp_total.antisymm other.name prop.name ∙ ap ordering_reverse e) parts.0) (rise_with prop others parts.1)
    ] refl
  where
    same_before : prop.name ≡ other.name → (props : List Prop) → comes_before other props ≡ true → comes_before prop props ≡ true
    same_before same [] before = refl
    same_before same (next ∷ props) before = ap (λ name. is_lt (slice_cmp nat_cmp name next.name)) same ∙ before

-- ---- a change

pub past_end : (trees : List Tree) (rev : ℕ) → length trees ≤ rev → tree_at trees rev ≡ []
past_end [] rev h = refl
past_end (t ∷ ts) zero h = absurd (omega arith)
past_end (t ∷ ts) (suc rev) h = past_end ts rev (omega arith)

-- the tree in which something stands is one of these
pub within : (trees : List Tree) (rev : ℕ) (path : List ℕ) → is_some (at path (tree_at trees rev)) ≡ true → rev < length trees
within trees rev path some = elim (cases_lt rev (length trees)) [ inl h ↦ h | inr past ↦ absurd (let e = ap (λ (t : Tree). is_some (at path t)) (past_end trees rev past) in cc (e, some)) ]

module _ (trees : List Tree) (tree : Tree) (r : ℕ) (formed : IsFormed tree) (sorted : (rev : ℕ) → in_order (tree_at trees rev) ≡ true) (all : (rev : ℕ) → rev < length trees → IsFormed (tree_at trees rev)) where
  formed_new : (path : List ℕ) (node : TreeNode) → names_rise node.node.props ≡ true → is_path path ≡ true → unfit_new path tree ≡ None → IsFormed (marked r path (placed path node tree))
  formed_new path node rise one fits = let f = free_from path tree fits in formed-marked r path _ (formed_more path node tree rise f.free f.has one formed)

  formed_put : (path text : List ℕ) (o : Option TreeNode) → at path tree ≡ o → is_path path ≡ true → (if is_file o then None else unfit_new path tree) ≡ None → IsFormed (marked r path (placed path (with_text r text o) tree))
  formed_put path text None here one fits = formed_new path _ refl one fits
  formed_put path text (Some found) here one fits = either (is_file (Some found)) fits
    where
      either : (b : Bool) → (if b then None else unfit_new path tree) ≡ None → IsFormed (marked r path (placed path (with_text r text (Some found)) tree))
      either true f = formed-marked r path _ (formed_over path (with_text r text (Some found)) found tree here refl (sym (ap has_ordered_props here) ∙ formed.props path) formed)
      either false f = absurd (let g = (free_from path tree f).free in let s = ap is_some here in cc (g, s))

  formed_edit : (edit : List Prop → List Prop) → ((props : List Prop) → names_rise props ≡ true → names_rise (edit props) ≡ true) → (path : List ℕ) (o : Option TreeNode) → at path tree ≡ o → IsFormed (marked r path (option_map_or (λ found. placed path (with_props edit found) tree) o tree))
  formed_edit edit rise path None here = formed-marked r path tree formed
  formed_edit edit rise path (Some found) here = formed-marked r path _ (formed_over path (with_props edit found) found tree here refl (rise found.node.props (sym (ap has_ordered_props here) ∙ formed.props path)) formed)

  formed_delete : (path : List ℕ) (there root : Bool) → bytes_eq path root_text ≡ root → is_path path ≡ true → (if there then (if root then Some IsRoot else None) else Some NoNode) ≡ None → IsFormed (marked r path (without path tree))
  formed_delete path true true e one fits = absurd (cc)
  formed_delete path true false e one fits = formed-marked r path _ (formed-without path tree one e formed)
  formed_delete path false root e one fits = absurd (cc)

  formed_copy : (source : List ℕ) (rev : ℕ) (path : List ℕ) → is_path path ≡ true → (if is_some (at source (tree_at trees rev)) then unfit_copy path (copied source rev path 0 (tree_at trees rev)) tree else Some NoNode) ≡ None → IsFormed (marked r path (all_placed (copied source rev path r (tree_at trees rev)) tree))
  formed_copy source rev path one fits = by_source (is_some (at source (tree_at trees rev))) refl fits
    where
      from : Tree
      from = tree_at trees rev

      by_paths : (why : Option Unfit) → unfit_new path tree ≡ why → (b : Bool) → are_paths (copied source rev path 0 (tree_at trees rev)) ≡ b → is_some (at source (tree_at trees rev)) ≡ true → or_too_long why b ≡ None → IsFormed (marked r path (all_placed (copied source rev path r (tree_at trees rev)) tree))
      by_paths (Some why) free b e there f = absurd (cc)
      by_paths None free true e there f = formed-marked r path _ (formed-copied source rev path r (tree_at trees rev) tree (all rev (within trees rev source there)) formed (sorted rev) (any_revision source rev path r 0 (tree_at trees rev) ∙ e) there one (free_from path tree free))
      by_paths None free false e there f = absurd (cc)

      by_source : (b : Bool) → is_some (at source (tree_at trees rev)) ≡ b → (if b then unfit_copy path (copied source rev path 0 (tree_at trees rev)) tree else Some NoNode) ≡ None → IsFormed (marked r path (all_placed (copied source rev path r (tree_at trees rev)) tree))
      by_source true there f = by_paths (unfit_new path tree) refl (are_paths (copied source rev path 0 (tree_at trees rev))) refl there f
      by_source false there f = absurd (cc)

  -- a change that fits keeps a tree formed
  pub formed_change : (change : Change) → is_path (path_of change) ≡ true → unfit change trees tree ≡ None → IsFormed (apply change trees tree r)
  unfolding unfit apply
  formed_change (Put path text) one fits = formed_put path text (at path tree) refl one fits
  formed_change (SetProp path name value) one fits = formed_edit (with_prop (record { name = name; value = value })) (rise_with (record { name = name; value = value })) path (at path tree) refl
  formed_change (DelProp path name) one fits = formed_edit (without_prop name) (rise_left (λ prop. not (bytes_eq prop.name name))) path (at path tree) refl
  formed_change (Mkdir path) one fits = formed_new path (new_dir r) refl one fits
  formed_change (Delete path) one fits = formed_delete path (is_some (at path tree)) (bytes_eq path root_text) refl one fits
  formed_change (Copy source rev path) one fits = formed_copy source rev path one fits
