-- What edits show after one place was put over others.
use Rattle.std.proofs.Common.{◌≡◌, ℕ, ◌<◌, ◌≤◌, Bool, true, false, cond, List, [], ◌∷◌, ◌++◌, Option, None, Some, length, drop, refl, sym, ap, subst, ◌∙◌, arith, append_assoc, append-nil, length-append}
use Rattle.std.specs.Prelude.{is_some, if◌then◌else◌}
use Rattle.std.specs.Option.{option_map}
use Rattle.std.specs.Str.{bytes_eq}
use Rattle.std.proofs.lemmas.Bool.{and_parts, and_from, false_from_ne_true}
use Rattle.dsv_base.specs.Paths.{is_component, root_text, join_text}
use Rattle.rev_nodes.specs.declared.cell.Cell.{Cell}
use Rattle.rev_nodes.specs.Trees.{TreeNode, Tree, at, is_dir_kind}
use Rattle.rev_nodes.specs.Changes.{marked, placed}
use Rattle.rev_nodes.proofs.Below.{same_from, equal_itself}
use Rattle.rev_nodes.proofs.Forming.{at-placed, tied, tied_self}
use Rattle.rev_nodes.specs.Subtrees.{path_below}
use Rattle.node_table.specs.Ways.{Name, are_names, is_front}
use Rattle.node_table.specs.Tables.{cell_at}
use Rattle.node_table.specs.Rebuilt.{stamped}
use Rattle.node_table.proofs.Ways.{path_at-more, path_at-append, names-append}
use Rattle.node_table.proofs.Fronts.{one-way, under-front, front-append}
use Rattle.node_table.proofs.Marking.{is_at, at-marked}
use Rattle.tree_edits.specs.Edits.{Held, Touched, EditedTree, touched_at, held_in, child_of, or_touched, held_from, held_root, held_node, shown}
use Rattle.tree_edits.specs.Hanging.{marked_held, child_held, with_edit, marked_at, hung_in, hung_at}
use Rattle.tree_edits.proofs.Lists.{is_same, not_same, touched-here, touched-other}
use Rattle.tree_edits.proofs.Texts.{names_more, longer-join, shorter_apart, longer_apart}
use Rattle.tree_edits.proofs.Over.{rebuilt, rebuilt_over, rebuilt_same}

some_is : {X : Type 0} (x y : X) → Some x ≡ Some y → x ≡ y
some_is x y e = cc

pub or_default : (o : Option (Option Held)) (a b : Option Held) → is_some o ≡ true → or_touched o a ≡ or_touched o b
or_default None a b h = absurd (cc h)
or_default (Some edit) a b h = refl

-- ---- paths that aren't on a way

abbrev pub Off : List ℕ → List ℕ → List Name → Type 0
Off q path [] = is_same q path ≡ false
Off q path (n ∷ ns) = (is_same q path ≡ false) × Off q (join_text path n) ns

pub off_longer : (q path : List ℕ) (ns : List Name) → are_names ns ≡ true → length q < length path → Off q path ns
off_longer q path [] k less = shorter_apart q path less
off_longer q path (n ∷ ns) k less =
    let p = and_parts (is_component n) (are_names ns) k in
    let l = longer-join path n p.0 in
    (shorter_apart q path less, off_longer q (join_text path n) ns p.1 (omega (arith, less, l)))

pub off_names : (ns ds ms : List Name) → are_names ns ≡ true → are_names ds ≡ true → are_names ms ≡ true → ((fs : List Name) → is_front fs ns ≡ true → ms ≡ ds ++ fs → ⊥) → (path : List ℕ) → path ≡ path_below root_text ds → Off (path_below root_text ms) path ns
off_names [] ds ms k d m other path e = not_same (path_below root_text ms) path (λ s. other [] refl (one-way ms ds m d (s ∙ e) ∙ sym (append-nil ds)))
off_names (n ∷ ns) ds ms k d m other path e =
    let p = and_parts (is_component n) (are_names ns) k in (
      not_same (path_below root_text ms) path (λ s. other [] refl (one-way ms ds m d (s ∙ e) ∙ sym (append-nil ds))),
      off_names ns (ds ++ n ∷ []) ms p.1 (names_more ds n d p.0) m (λ fs f is. other (n ∷ fs) (and_from (bytes_eq n n) (is_front fs ns) (equal_itself n) f) (is ∙ append_assoc ds (n ∷ []) fs)) (join_text path n) (ap (λ t. join_text t n) e ∙ sym (path_at-more root_text ds n)),
    )

pub longer_at : (ns : List Name) (path : List ℕ) → are_names ns ≡ true → length path ≤ length (path_below path ns)
longer_at [] path k = omega arith
longer_at (n ∷ ns) path k =
    let p = and_parts (is_component n) (are_names ns) k in
    let l = longer-join path n p.0 in
    let more = longer_at ns (join_text path n) p.1 in
    omega (arith, l, more)

pub append_same : (ms xs ys : List Name) → ms ++ xs ≡ ms ++ ys → xs ≡ ys
append_same [] xs ys e = e
append_same (m ∷ ms) xs ys e = append_same ms xs ys (ap (drop 1) e)

-- ---- what is held, by names

module _ (cells : List Cell) where
  pub none_from : (touched : Touched) (path : List ℕ) (ns : List Name) → held_from cells touched path None ns ≡ None
  none_from touched path [] = refl
  none_from touched path (n ∷ ns) = refl

  pub held-append : (touched : Touched) (ms : List Name) (path : List ℕ) (here : Option Held) (ns : List Name) → held_from cells touched path here (ms ++ ns) ≡ held_from cells touched (path_below path ms) (held_from cells touched path here ms) ns
  held-append touched [] path here ns = refl
  held-append touched (m ∷ ms) path None ns = sym (none_from touched (path_below path (m ∷ ms)) ns)
  held-append touched (m ∷ ms) path (Some here) ns = held-append touched ms (join_text path m) (child_held cells touched path m here) ns

  -- touched paths below a place alone count
  pub same_below : (ns : List Name) (new old : Touched) (path : List ℕ) (here : Option Held) → ((m : Name) (ms : List Name) → are_names (m ∷ ms) ≡ true → touched_at new (path_below path (m ∷ ms)) ≡ touched_at old (path_below path (m ∷ ms))) → are_names ns ≡ true → held_from cells new path here ns ≡ held_from cells old path here ns
  same_below [] new old path here each k = refl
  same_below (n ∷ ns) new old path None each k = refl
  same_below (n ∷ ns) new old path (Some here) each k =
      let p = and_parts (is_component n) (are_names ns) k in
      ap (λ o. held_from cells new (join_text path n) (or_touched o (child_of cells n here)) ns) (each n [] (and_from (is_component n) true p.0 refl))
      ∙ same_below ns new old (join_text path n) (child_held cells old path n here) (λ m ms z. each n (m ∷ ms) (and_from (is_component n) (are_names (m ∷ ms)) p.0 z)) p.1

  -- a place that was put at a path above counts for nothing
  pub above_same : (key : List ℕ) (edit : Option Held) (touched : Touched) (path : List ℕ) (here : Option Held) (ns : List Name) → are_names ns ≡ true → length key ≤ length path → held_from cells (with_edit key edit touched) path here ns ≡ held_from cells touched path here ns
  above_same key edit touched path here ns k less = same_below ns (with_edit key edit touched) touched path here (λ m ms z.
      let p = and_parts (is_component m) (are_names ms) z in
      let l = longer-join path m p.0 in
      let far = longer_at ms (join_text path m) p.1 in
      touched-other (path_below path (m ∷ ms)) key edit touched (longer_apart (path_below path (m ∷ ms)) key (omega (arith, less, l, far)))) k

-- ---- one place put over others

module _ (r : ℕ) (cells : List Cell) (leaf : Option Held) where
  pub record IsStepped (touched : Touched) (path : List ℕ) (here : Held) (n : Name) (ns : List Name) (new : Touched) : Type 0 where
    pub dir : is_dir_kind here.node.kind ≡ true
    pub next : hung_in r cells leaf (marked_at r path here touched) (join_text path n) (child_held cells (marked_at r path here touched) path n here) ns ≡ Some new

  pub stepped : (touched : Touched) (path : List ℕ) (here : Held) (n : Name) (ns : List Name) (new : Touched) → hung_in r cells leaf touched path (Some here) (n ∷ ns) ≡ Some new → IsStepped touched path here n ns new
  stepped touched path here n ns new e = by (is_dir_kind here.node.kind) refl e
    where
      by : (b : Bool) → is_dir_kind here.node.kind ≡ b → (if b then hung_in r cells leaf (marked_at r path here touched) (join_text path n) (child_held cells (marked_at r path here touched) path n here) ns else None) ≡ Some new → IsStepped touched path here n ns new
      by true d e = record { dir = d; next = e }
      by false d e = absurd (cc e)

  pub off_kept : (ns : List Name) (touched : Touched) (path : List ℕ) (here : Option Held) (new : Touched) (q : List ℕ) → hung_in r cells leaf touched path here ns ≡ Some new → Off q path ns → touched_at new q ≡ touched_at touched q
  off_kept [] touched path here new q e off = ap (λ t. touched_at t q) (sym (some_is (with_edit path leaf touched) new e)) ∙ touched-other q path leaf touched off
  off_kept (n ∷ ns) touched path None new q e off = absurd (cc e)
  off_kept (n ∷ ns) touched path (Some here) new q e off =
      let s = stepped touched path here n ns new e in
      off_kept ns (marked_at r path here touched) (join_text path n) (child_held cells (marked_at r path here touched) path n here) new q s.next off.1 ∙ touched-other q path (Some (marked_held r here)) touched off.0

  pub end_touched : (touched : Touched) (path : List ℕ) (new : Touched) → Some (with_edit path leaf touched) ≡ Some new → touched_at new path ≡ Some leaf
  end_touched touched path new e = ap (λ t. touched_at t path) (sym (some_is (with_edit path leaf touched) new e)) ∙ touched-here path leaf touched

  pub mid_touched : (n : Name) (ns : List Name) (touched : Touched) (path : List ℕ) (here : Held) (new : Touched) → are_names (n ∷ ns) ≡ true → hung_in r cells leaf touched path (Some here) (n ∷ ns) ≡ Some new → touched_at new path ≡ Some (Some (marked_held r here))
  mid_touched n ns touched path here new k e =
      let p = and_parts (is_component n) (are_names ns) k in
      let s = stepped touched path here n ns new e in
      off_kept ns (marked_at r path here touched) (join_text path n) (child_held cells (marked_at r path here touched) path n here) new path s.next (off_longer path (join_text path n) ns p.1 (longer-join path n p.0))
      ∙ touched-here path (Some (marked_held r here)) touched

  pub start_touched : (ns : List Name) (touched : Touched) (path : List ℕ) (here : Option Held) (new : Touched) → are_names ns ≡ true → hung_in r cells leaf touched path here ns ≡ Some new → is_some (touched_at new path) ≡ true
  start_touched [] touched path here new k e = ap is_some (end_touched touched path new e)
  start_touched (n ∷ ns) touched path None new k e = absurd (cc e)
  start_touched (n ∷ ns) touched path (Some here) new k e = ap is_some (mid_touched n ns touched path here new k e)

  -- what is shown from a path where the leaf stands
  abbrev pub hung_view : Touched → List ℕ → List Name → Option TreeNode
  hung_view new path ks = option_map held_node (held_from cells new path leaf ks)

  -- what is shown from a place
  abbrev pub view_from : Touched → List ℕ → Option Held → List Name → Option TreeNode
  view_from touched path here ks = option_map held_node (held_from cells touched path here ks)

  apart_front : (n q : Name) (is qs fs : List Name) → bytes_eq n q ≡ false → is_front fs (q ∷ qs) ≡ true → n ∷ is ≡ fs → ⊥
  apart_front n q is qs fs apart f e =
      let p = and_parts (bytes_eq q n) (is_front is qs) (ap (λ xs. is_front xs (q ∷ qs)) e ∙ f) in
      let s : bytes_eq n q ≡ true = ap (bytes_eq n) (same_from q n p.0) ∙ equal_itself n in
      let c : true ≡ false = sym s ∙ apart in cc c

  pub rebuilt_in : (ns ds : List Name) (touched : Touched) (path : List ℕ) (here : Option Held) (new : Touched) → are_names ns ≡ true → are_names ds ≡ true → path ≡ path_below root_text ds → hung_in r cells leaf touched path here ns ≡ Some new
      → (ms : List Name) → are_names ms ≡ true → view_from new path (or_touched (touched_at new path) here) ms ≡ rebuilt r ns (hung_view new (path_below path ns)) (view_from touched path here) ms
  rebuilt_in [] ds touched path here new k d is e ms m = ap (λ o. view_from new path (or_touched o here) ms) (end_touched touched path new e)
  rebuilt_in (q ∷ qs) ds touched path None new k d is e ms m = absurd (cc e)
  rebuilt_in (q ∷ qs) ds touched path (Some here) new k d is e ms m =
      ap (λ o. view_from new path (or_touched o (Some here)) ms) (mid_touched q qs touched path here new k e)
      ∙ by ms m (λ ks z. rebuilt_in qs (ds ++ q ∷ []) (marked_at r path here touched) (join_text path q) (child_held cells (marked_at r path here touched) path q here) new p.1 (names_more ds q d p.0) (ap (λ t. join_text t q) is ∙ sym (path_at-more root_text ds q)) s.next ks z)
    where
      p : (is_component q ≡ true) × (are_names qs ≡ true)
      p = and_parts (is_component q) (are_names qs) k

      s : IsStepped touched path here q qs new
      s = stepped touched path here q qs new e

      marks : Touched
      marks = marked_at r path here touched

      -- what was seen isn't changed by the mark
      unmarked : (ks : List Name) → are_names ks ≡ true → view_from (marked_at r path here touched) (join_text path q) (child_held cells (marked_at r path here touched) path q here) ks ≡ view_from touched path (Some here) (q ∷ ks)
      unmarked ks z =
          let l = longer-join path q p.0 in
          ap (λ o. view_from (marked_at r path here touched) (join_text path q) (or_touched o (child_of cells q here)) ks) (touched-other (join_text path q) path (Some (marked_held r here)) touched (longer_apart (join_text path q) path l))
          ∙ ap (option_map held_node) (above_same cells path (Some (marked_held r here)) touched (join_text path q) (child_held cells touched path q here) ks z (omega (arith, l)))

      aside : (n : Name) (ks : List Name) → are_names (n ∷ ks) ≡ true → bytes_eq n q ≡ false → touched_at new (path_below path (n ∷ ks)) ≡ touched_at touched (path_below path (n ∷ ks))
      aside n ks z apart =
          let at_root : path_below path (n ∷ ks) ≡ path_below root_text (ds ++ n ∷ ks) = ap (λ t. path_below t (n ∷ ks)) is ∙ sym (path_at-append root_text ds (n ∷ ks)) in
          off_kept (q ∷ qs) touched path (Some here) new (path_below path (n ∷ ks)) e
          (subst (λ t. Off t path (q ∷ qs)) (sym at_root) (off_names (q ∷ qs) ds (ds ++ n ∷ ks) k d (names-append ds (n ∷ ks) d z) (λ fs f same. apart_front n q ks qs fs apart f (append_same ds (n ∷ ks) fs same)) path is))

      by : (ms : List Name) → are_names ms ≡ true
          → ((ks : List Name) → are_names ks ≡ true → view_from new (join_text path q) (or_touched (touched_at new (join_text path q)) (child_held cells (marked_at r path here touched) path q here)) ks ≡ rebuilt r qs (hung_view new (path_below (join_text path q) qs)) (view_from (marked_at r path here touched) (join_text path q) (child_held cells (marked_at r path here touched) path q here)) ks)
          → view_from new path (Some (marked_held r here)) ms ≡ rebuilt r (q ∷ qs) (hung_view new (path_below path (q ∷ qs))) (view_from touched path (Some here)) ms
      by [] m go = refl
      by (n ∷ ks) m go = pick (bytes_eq n q) refl
        where
          kp : (is_component n ≡ true) × (are_names ks ≡ true)
          kp = and_parts (is_component n) (are_names ks) m

          pick : (b : Bool) → bytes_eq n q ≡ b → view_from new path (Some (marked_held r here)) (n ∷ ks) ≡ (if b then rebuilt r qs (hung_view new (path_below path (q ∷ qs))) (λ is. view_from touched path (Some here) (q ∷ is)) ks else view_from touched path (Some here) (n ∷ ks))
          pick true same =
              ap (λ (x : Name). view_from new path (Some (marked_held r here)) (x ∷ ks)) (same_from n q same)
              ∙ ap (λ o. view_from new (join_text path q) o ks) (or_default (touched_at new (join_text path q)) (child_of cells q here) (child_held cells (marked_at r path here touched) path q here) (start_touched qs (marked_at r path here touched) (join_text path q) (child_held cells (marked_at r path here touched) path q here) new p.1 s.next))
              ∙ go ks kp.1
              ∙ rebuilt_same r qs (hung_view new (path_below (join_text path q) qs)) (view_from (marked_at r path here touched) (join_text path q) (child_held cells (marked_at r path here touched) path q here)) (λ is. view_from touched path (Some here) (q ∷ is)) p.1 unmarked ks kp.1
          pick false apart =
              ap (λ o. view_from new (join_text path n) (or_touched o (child_of cells n here)) ks) (aside n [] (and_from (is_component n) true kp.0 refl) apart)
              ∙ ap (option_map held_node) (same_below cells ks new touched (join_text path n) (child_held cells touched path n here) (λ i is z. aside n (i ∷ is) (and_from (is_component n) (are_names (i ∷ is)) kp.0 z) apart) kp.1)

  pub rebuilt_edits : (ns : List Name) (old new : EditedTree) → are_names ns ≡ true → new.root ≡ old.root → hung_at r cells leaf old ns ≡ Some new.touched → (ms : List Name) → are_names ms ≡ true → shown cells new ms ≡ rebuilt r ns (hung_view new.touched (path_below root_text ns)) (shown cells old) ms
  rebuilt_edits ns old new k root_is e ms m =
      ap (λ o. view_from new.touched root_text o ms)
      (or_default (touched_at new.touched root_text) (Some (held_in cells (cell_at cells new.root).line new.root)) (held_root cells old) (start_touched ns old.touched root_text (held_root cells old) new.touched k e))
      ∙ rebuilt_in ns [] old.touched root_text (held_root cells old) new.touched k refl refl e ms m

  module _ (way : List Name) (old new : EditedTree) (named : are_names way ≡ true) (root_is : new.root ≡ old.root) (hung : hung_at r cells leaf old way ≡ Some new.touched) (tree : Tree) (shows : (ns : List Name) → are_names ns ≡ true → is_front way ns ≡ false → at (path_below root_text ns) tree ≡ shown cells old ns) where
    abbrev pub ShowsNew : Tree → Type 0
    ShowsNew other = (ns : List Name) → are_names ns ≡ true → at (path_below root_text ns) other ≡ shown cells new ns

    pub over_shown : (over : Tree) → option_map held_node leaf ≡ option_map (stamped r true) (at (path_below root_text way) over)
        → ((m : Name) (ms : List Name) → are_names (m ∷ ms) ≡ true → hung_view new.touched (path_below root_text way) (m ∷ ms) ≡ at (path_below root_text (way ++ m ∷ ms)) over)
        → ((ns : List Name) → are_names ns ≡ true → is_front way ns ≡ false → at (path_below root_text ns) over ≡ at (path_below root_text ns) tree)
        → ShowsNew (marked r (path_below root_text way) over)
    over_shown over here below aside ns k =
        at-marked r (path_below root_text way) over (path_below root_text ns)
        ∙ ap (λ b. option_map (stamped r b) (at (path_below root_text ns) over)) (under-front ns way k named)
        ∙ sym (rebuilt_over r way (shown cells old) (λ ms. at (path_below root_text ms) over) (hung_view new.touched (path_below root_text way)) named here below (λ ms z f. aside ms z f ∙ shows ms z f) ns k)
        ∙ sym (rebuilt_edits way old new named root_is hung ns k)

    not_here : (ns : List Name) → are_names ns ≡ true → (ns ≡ way → ⊥) → is_at (path_below root_text ns) (path_below root_text way) ≡ false
    not_here ns k other = false_from_ne_true _ (λ t. other (one-way ns way k named (tied (path_below root_text ns) (path_below root_text way) t)))

    longer_way : (m : Name) (ms : List Name) → way ++ m ∷ ms ≡ way → ⊥
    longer_way m ms e = let l = ap length e in let n = length-append way (m ∷ ms) in omega (arith, l, n)

    pub placed_shown : (x : TreeNode) → option_map held_node leaf ≡ Some (stamped r true x)
        → ((m : Name) (ms : List Name) → are_names (m ∷ ms) ≡ true → hung_view new.touched (path_below root_text way) (m ∷ ms) ≡ at (path_below root_text (way ++ m ∷ ms)) tree)
        → ShowsNew (marked r (path_below root_text way) (placed (path_below root_text way) x tree))
    placed_shown x here below =
        over_shown (placed (path_below root_text way) x tree)
        (here ∙ ap (λ o. option_map (stamped r true) o) (sym (at-placed (path_below root_text way) (path_below root_text way) x tree ∙ ap (λ b. cond b (Some x) (at (path_below root_text way) tree)) (tied_self (path_below root_text way)))))
        (λ m ms k. below m ms k ∙ sym (at-placed (path_below root_text (way ++ m ∷ ms)) (path_below root_text way) x tree ∙ ap (λ b. cond b (Some x) (at (path_below root_text (way ++ m ∷ ms)) tree)) (not_here (way ++ m ∷ ms) (names-append way (m ∷ ms) named k) (longer_way m ms))))
        (λ ns k f. at-placed (path_below root_text ns) (path_below root_text way) x tree ∙ ap (λ b. cond b (Some x) (at (path_below root_text ns) tree)) (not_here ns k (λ e. let t : is_front way ns ≡ true = ap (is_front way) (e ∙ sym (append-nil way)) ∙ front-append way [] in let g : true ≡ false = sym t ∙ f in cc g)))
