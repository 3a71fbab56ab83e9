-- Which paths a copy makes, by the ways below what is copied.
use Rattle.std.proofs.Common.{◌≡◌, ℕ, suc, ◌+◌, ◌-◌, ◌≤◌, Bool, true, false, cond, List, [], ◌∷◌, ◌++◌, Option, None, Some, length, nat_eq, nat_le, refl, sym, ap, subst, ◌∙◌, arith, length-append}
use Rattle.std.specs.Prelude.{is_some, if◌then◌else◌}
use Rattle.std.specs.Option.{option_map}
use Rattle.std.specs.List.{list_all}
use Rattle.std.specs.Str.{bytes_eq}
use Rattle.std.specs.Ordering.{nat_cmp, eq_by_cmp}
use Rattle.std.specs.Cmp.Lexicographic.{slice_cmp}
use Rattle.std.specs.FinMap.Entries.{below_all}
use Rattle.std.proofs.lemmas.Bool.{and_parts, and_from, and_left, and_right, le-leb, leb-true, or_right, false_from_ne_true}
use Rattle.dsv_base.specs.Paths.{is_path, is_component, is_under, root_text}
use Rattle.rev_nodes.specs.Trees.{TreeNode, Tree, at}
use Rattle.rev_nodes.specs.Changes.{moved, copied_node, copied, are_paths}
use Rattle.rev_nodes.specs.Formed.{IsFormed}
use Rattle.rev_nodes.specs.Fitting.{in_order}
use Rattle.rev_nodes.proofs.Forming.{later, tied, tied_self}
use Rattle.rev_nodes.specs.declared.cell.Cell.{Cell}
use Rattle.rev_nodes.specs.Subtrees.{path_below}
use Rattle.node_table.specs.Ways.{Name, are_names, names_in}
use Rattle.node_table.specs.Tables.{child_in, reach, Spot, walk, spot_node, seen, IsSoundTable}
use Rattle.node_table.specs.Shown.{ShowsAll}
use Rattle.node_table.specs.Limits.{fits, AllFit, HasLong}
use Rattle.node_table.proofs.Ways.{path_at-append, names-append, way_under, under-names}
use Rattle.node_table.proofs.PathNames.{names_of_path}
use Rattle.node_table.proofs.Fronts.{joined, path-joined, joined-components, names-back}
use Rattle.node_table.proofs.Growing.{reach_none, walk-reach}
use Rattle.tree_edits.proofs.Moved.{source_seen, moved_names}
use Rattle.node_table.proofs.Found.{HasSpot, spot_of}

-- the bytes of names with a slash before each
abbrev pub size : List Name → ℕ
size [] = 0
size (n ∷ ns) = suc (length n) + size ns

fits_from : (levels bytes : ℕ) (ns : List Name) → length ns ≤ levels → size ns ≤ bytes → fits levels bytes ns ≡ true
fits_from levels bytes [] a b = refl
fits_from levels bytes (n ∷ ns) a b = and_from _ _ (le-leb 1 levels (omega (arith, a))) (and_from _ _ (le-leb (suc (length n)) bytes (omega (arith, b))) (fits_from (levels - 1) (bytes - suc (length n)) ns (omega (arith, a)) (omega (arith, b))))

fits_to : (levels bytes : ℕ) (ns : List Name) → fits levels bytes ns ≡ true → (length ns ≤ levels) × (size ns ≤ bytes)
fits_to levels bytes [] h = (omega arith, omega arith)
fits_to levels bytes (n ∷ ns) h =
    let p = and_parts (nat_le 1 levels) _ h in
    let q = and_parts (nat_le (suc (length n)) bytes) _ p.1 in
    let a = leb-true 1 levels p.0 in
    let b = leb-true (suc (length n)) bytes q.0 in
    let more = fits_to (levels - 1) (bytes - suc (length n)) ns q.1 in
    let c = more.0 in
    let d = more.1 in
    (omega (arith, a, c), omega (arith, b, d))

pub size-append : (xs ys : List Name) → size (xs ++ ys) ≡ size xs + size ys
size-append [] ys = omega arith
size-append (x ∷ xs) ys = let e = size-append xs ys in omega (arith, e)

joined-size : (n : Name) (ns : List Name) → suc (length (joined (n ∷ ns))) ≡ size (n ∷ ns)
joined-size n [] = omega arith
joined-size n (m ∷ ms) = let e = joined-size m ms in let l = length-append n (47 ∷ joined (m ∷ ms)) in omega (arith, e, l)

pub path-size : (n : Name) (ns : List Name) → are_names (n ∷ ns) ≡ true → length (path_below root_text (n ∷ ns)) ≡ size (n ∷ ns)
path-size n ns h = ap length (path-joined root_text n ns h) ∙ joined-size n ns

pub is_path_from : (n : Name) (ns : List Name) → are_names (n ∷ ns) ≡ true → length (n ∷ ns) ≤ 64 → size (n ∷ ns) ≤ 1024 → is_path (path_below root_text (n ∷ ns)) ≡ true
unfolding is_path
is_path_from n ns h few short =
    let j = joined-size n ns in
    let parts = joined-components n ns h in
    ap is_path (path-joined root_text n ns h)
    ∙ or_right (nat_eq (length (joined (n ∷ ns))) 0) _ (and_from _ _ (le-leb (length (joined (n ∷ ns))) 1023 (omega (arith, j, short)))
    (and_from _ _ (ap (λ c. nat_le (length c) 64) parts ∙ le-leb (length (n ∷ ns)) 64 few) (ap (list_all is_component) parts ∙ h)))

-- paths at the ends of ways
pub path_fit : (q : Name) (qs ms : List Name) → are_names (q ∷ qs) ≡ true → are_names ms ≡ true → is_path (path_below root_text (q ∷ qs)) ≡ true → fits (64 - length (q ∷ qs)) (1024 - length (path_below root_text (q ∷ qs))) ms ≡ true → is_path (path_below root_text ((q ∷ qs) ++ ms)) ≡ true
path_fit q qs ms named k one f =
    let n = names_of_path (path_below root_text (q ∷ qs)) one in
    let few : length (q ∷ qs) ≤ 64 = subst (λ ws. length ws ≤ 64) (names-back (q ∷ qs) named) n.few in
    let long = path-size q qs named in
    let short = n.short in
    let t = fits_to _ _ ms f in
    let a = t.0 in
    let b = t.1 in
    let l = length-append (q ∷ qs) ms in
    let s = size-append (q ∷ qs) ms in
    is_path_from q (qs ++ ms) (names-append (q ∷ qs) ms named k) (omega (arith, few, a, l)) (omega (arith, long, short, b, s))

pub path_long : (q : Name) (qs ms : List Name) → are_names (q ∷ qs) ≡ true → are_names ms ≡ true → is_path (path_below root_text (q ∷ qs)) ≡ true → fits (64 - length (q ∷ qs)) (1024 - length (path_below root_text (q ∷ qs))) ms ≡ false → is_path (path_below root_text ((q ∷ qs) ++ ms)) ≡ false
path_long q qs ms named k one f = false_from_ne_true _ (λ whole.
    let both = names-append (q ∷ qs) ms named k in
    let n = names_of_path (path_below root_text ((q ∷ qs) ++ ms)) whole in
    let few : length ((q ∷ qs) ++ ms) ≤ 64 = subst (λ ws. length ws ≤ 64) (names-back ((q ∷ qs) ++ ms) both) n.few in
    let short = n.short in
    let long = path-size q qs named in
    let longer = path-size q (qs ++ ms) both in
    let l = length-append (q ∷ qs) ms in
    let s = size-append (q ∷ qs) ms in
    let t = fits_from (64 - length (q ∷ qs)) (1024 - length (path_below root_text (q ∷ qs))) ms (omega (arith, few, l)) (omega (arith, short, long, longer, s)) in
    let g : true ≡ false = sym t ∙ f in cc g)

-- ---- lists of places

abbrev AllOwn : Tree → Tree → Type 0
AllOwn from [] = Unit {0}
AllOwn from (e ∷ es) = (at e.0 from ≡ Some e.1) × AllOwn from es

own_later : (e : List ℕ × TreeNode) (all es : Tree) → below_all (slice_cmp nat_cmp) e.0 all ≡ true → AllOwn all es → AllOwn (e ∷ all) es
own_later e all [] below h = tt
own_later e all (p ∷ es) below h = (later e all p.0 p.1 below h.0, own_later e all es below h.1)

own_all : (es : Tree) → in_order es ≡ true → AllOwn es es
own_all [] h = tt
own_all (e ∷ es) h =
    let p = and_parts (below_all (slice_cmp nat_cmp) e.0 es) (in_order es) h in
    (ap (λ b. cond b (Some e.1) (at e.0 es)) (tied_self e.0), own_later e es es p.0 (own_all es p.1))

module _ (source : List ℕ) (rev : ℕ) (path : List ℕ) (r : ℕ) where
  all_paths : (from es : Tree) → AllOwn from es → ((p : List ℕ) → is_some (at p from) ≡ true → is_under p source ≡ true → is_path (moved source path p) ≡ true) → are_paths (copied source rev path r es) ≡ true
  all_paths from [] own each = refl
  all_paths from (e ∷ es) own each = by (is_under e.0 source) refl (all_paths from es own.1 each)
    where
      by : (b : Bool) → is_under e.0 source ≡ b → are_paths (copied source rev path r es) ≡ true → are_paths (if b then (moved source path e.0, copied_node rev r e.0 e.1) ∷ copied source rev path r es else copied source rev path r es) ≡ true
      by true u go = and_from _ _ (each e.0 (ap is_some own.0) u) go
      by false u go = go

  one_long : (es : Tree) (p : List ℕ) → is_some (at p es) ≡ true → is_under p source ≡ true → is_path (moved source path p) ≡ false → are_paths (copied source rev path r es) ≡ false
  one_long [] p some under long = absurd (cc some)
  one_long (e ∷ es) p some under long = by (eq_by_cmp (slice_cmp nat_cmp) p e.0) refl some (λ s. one_long es p s under long)
    where
      place : List ℕ × TreeNode
      place = (moved source path e.0, copied_node rev r e.0 e.1)

      behind : (b : Bool) → are_paths (copied source rev path r es) ≡ false → are_paths (if b then place ∷ copied source rev path r es else copied source rev path r es) ≡ false
      behind true f = and_right (is_path place.0) _ f
      behind false f = f

      here : e.0 ≡ p → are_paths (if is_under e.0 source then place ∷ copied source rev path r es else copied source rev path r es) ≡ false
      here same = ap (λ b. are_paths (if b then place ∷ copied source rev path r es else copied source rev path r es)) (ap (λ q. is_under q source) same ∙ under) ∙ and_left (is_path place.0) _ (ap (λ q. is_path (moved source path q)) same ∙ long)

      by : (b : Bool) → eq_by_cmp (slice_cmp nat_cmp) p e.0 ≡ b → is_some (cond b (Some e.1) (at p es)) ≡ true → (is_some (at p es) ≡ true → are_paths (copied source rev path r es) ≡ false) → are_paths (if is_under e.0 source then place ∷ copied source rev path r es else copied source rev path r es) ≡ false
      by true t s go = here (sym (tied p e.0 t))
      by false t s go = behind (is_under e.0 source) (go s)

-- ---- the limit of a copy

reached_names : (cells : List Cell) → IsSoundTable cells → (ns : List Name) (id j : ℕ) → reach cells (Some id) ns ≡ Some j → are_names ns ≡ true
reached_names cells sound [] id j e = refl
reached_names cells sound (n ∷ ns) id j e = by (child_in cells n id) refl e (λ i. reached_names cells sound ns i j)
  where
    by : (o : Option ℕ) → child_in cells n id ≡ o → reach cells o ns ≡ Some j → ((i : ℕ) → reach cells (Some i) ns ≡ Some j → are_names ns ≡ true) → are_names (n ∷ ns) ≡ true
    by None f g go = absurd (let w = sym (reach_none cells ns) ∙ g in cc w)
    by (Some i) f g go = and_from _ _ ((sound id).children n i f).name (go i g)

module _ (cells : List Cell) (sound : IsSoundTable cells) (from_root id : ℕ) (source : List ℕ) (source_one : is_path source ≡ true) (there : reach cells (Some from_root) (names_in source) ≡ Some id) (from : Tree) (shown : ShowsAll cells from_root from) (sorted : in_order from ≡ true) (formed : IsFormed from)
    (rev r : ℕ) (q : Name) (qs : List Name) (named : are_names (q ∷ qs) ≡ true) (one : is_path (path_below root_text (q ∷ qs)) ≡ true) (other : bytes_eq (path_below root_text (q ∷ qs)) root_text ≡ false) where
  place : HasSpot cells from_root (names_in source) id
  place = spot_of cells from_root (names_in source) id there

  seen_from : (ms : List Name) → are_names ms ≡ true → at (path_below source ms) from ≡ seen cells (Some place.spot) ms
  unfolding place
  seen_from = source_seen cells from_root id source source_one there from shown

  reach_is : (ms : List Name) → option_map (λ (s : Spot). s.id) (walk cells (Some place.spot) ms) ≡ reach cells (Some id) ms
  reach_is ms = walk-reach cells ms (Some place.spot) ∙ ap (λ (k : ℕ). reach cells (Some k) ms) place.id_is

  some_reached : (o : Option Spot) → is_some (option_map (spot_node cells) o) ≡ true → (j : ℕ) × (option_map (λ (s : Spot). s.id) o ≡ Some j)
  some_reached None h = absurd (cc h)
  some_reached (Some s) h = (s.id, refl)

  reached_some : (o : Option Spot) (j : ℕ) → option_map (λ (s : Spot). s.id) o ≡ Some j → is_some (option_map (spot_node cells) o) ≡ true
  reached_some None j h = absurd (cc h)
  reached_some (Some s) j h = refl

  moved_is : (ms : List Name) → are_names ms ≡ true → moved source (path_below root_text (q ∷ qs)) (path_below source ms) ≡ path_below root_text ((q ∷ qs) ++ ms)
  moved_is ms k = moved_names source (path_below root_text (q ∷ qs)) ms k other ∙ sym (path_at-append root_text (q ∷ qs) ms)

  pub paths_fit : AllFit cells (64 - length (q ∷ qs)) (1024 - length (path_below root_text (q ∷ qs))) id → are_paths (copied source rev (path_below root_text (q ∷ qs)) r from) ≡ true
  paths_fit all = all_paths source rev (path_below root_text (q ∷ qs)) r from from (own_all from sorted) (λ p some under.
      let w = way_under source source_one p (formed.paths p some) under in
      let found = some_reached (walk cells (Some place.spot) w.way) (ap is_some (sym (seen_from w.way w.names) ∙ ap (λ t. at t from) (sym w.is)) ∙ some) in
      ap is_path (ap (moved source (path_below root_text (q ∷ qs))) w.is ∙ moved_is w.way w.names)
      ∙ path_fit q qs w.way named w.names one (all w.way found.0 (sym (reach_is w.way) ∙ found.1)))

  pub path_too_long : HasLong cells (64 - length (q ∷ qs)) (1024 - length (path_below root_text (q ∷ qs))) id → are_paths (copied source rev (path_below root_text (q ∷ qs)) r from) ≡ false
  path_too_long h =
      let k = reached_names cells sound h.names id h.end_ h.leads in
      one_long source rev (path_below root_text (q ∷ qs)) r from (path_below source h.names)
      (ap is_some (seen_from h.names k) ∙ reached_some (walk cells (Some place.spot) h.names) h.end_ (reach_is h.names ∙ h.leads))
      (under-names source h.names k)
      (ap is_path (moved_is h.names k) ∙ path_long q qs h.names named k one h.long)
