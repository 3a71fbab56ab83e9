-- A place is taken away, with all below it.
use Rattle.std.proofs.Common.{◌≡◌, ℕ, ◌≤◌, Bool, true, false, cond, not, List, [], ◌∷◌, ◌++◌, Option, None, Some, length, refl, sym, ap, ◌∙◌, arith, append_assoc}
use Rattle.std.specs.Prelude.{if◌then◌else◌}
use Rattle.std.specs.Str.{bytes_eq}
use Rattle.std.proofs.lemmas.Bool.{and_parts, and_from}
use Rattle.dsv_base.specs.Paths.{is_path, is_component, root_text, join_text}
use Rattle.rev_nodes.specs.declared.cell.Cell.{Cell}
use Rattle.rev_nodes.proofs.Below.{equal_itself}
use Rattle.rev_nodes.proofs.Forming.{tied}
use Rattle.rev_nodes.specs.Subtrees.{path_below}
use Rattle.node_table.specs.Ways.{Name, are_names, is_front}
use Rattle.node_table.proofs.Ways.{path_at-more, path_at-append}
use Rattle.tree_edits.specs.Edits.{Held, Touched, touched_at, child_of, or_touched, held_from}
use Rattle.tree_edits.specs.Hanging.{marked_held, child_held, with_edit, marked_at, is_below, cleared, hung_in}
use Rattle.tree_edits.proofs.Lists.{in_order, is_same, touched-with, order-with, order-cleared, same_lists}
use Rattle.tree_edits.proofs.Texts.{names_more, front_is_path}
use Rattle.tree_edits.proofs.Views.{stepped, longer_at}
use Rattle.tree_edits.proofs.Clearing.{touched-cleared, still_there, longer_below}

-- ---- clearing and putting

pub put_cleared : (path key : List ℕ) (edit : Option Held) (touched : Touched) → in_order touched ≡ true → is_below key path ≡ false → cleared path (with_edit key edit touched) ≡ with_edit key edit (cleared path touched)
put_cleared path key edit touched sorted apart =
    same_lists (with_edit key edit (cleared path touched)) (cleared path (with_edit key edit touched)) (order-with key edit (cleared path touched) (order-cleared path touched sorted)) (order-cleared path (with_edit key edit touched) (order-with key edit touched sorted)) (λ q.
    touched-cleared path (with_edit key edit touched) q
    ∙ ap (λ o. cond (not (is_below q path)) o None) (touched-with q key edit touched)
    ∙ by q (is_same q key) refl
    ∙ ap (cond (is_same q key) (Some edit)) (sym (touched-cleared path touched q))
    ∙ sym (touched-with q key edit (cleared path touched)))
  where
    by : (q : List ℕ) (b : Bool) → is_same q key ≡ b → cond (not (is_below q path)) (cond b (Some edit) (touched_at touched q)) None ≡ cond b (Some edit) (cond (not (is_below q path)) (touched_at touched q) None)
    by q true e = ap (λ t. cond (not (is_below t path)) (Some edit) None) (tied q key e) ∙ ap (λ b. cond (not b) (Some edit) None) apart
    by q false e = refl

-- ---- on a way to the path

module _ (r : ℕ) (cells : List Cell) (leaf : Option Held) (path : List ℕ) (one : is_path path ≡ true) (other : bytes_eq path root_text ≡ false) where
  pub short_apart : (q : List ℕ) → is_path q ≡ true → length q ≤ length path → is_below q path ≡ false
  short_apart q q_one less = by (is_below q path) refl
    where
      by : (b : Bool) → is_below q path ≡ b → b ≡ false
      by true e = absurd (let l = longer_below path one other q q_one e in omega (arith, l, less))
      by false e = refl

  pub hung_cleared : (ns ds : List Name) (touched : Touched) (at_ : List ℕ) (here : Option Held) (new : Touched) → are_names ns ≡ true → are_names ds ≡ true → at_ ≡ path_below root_text ds → path_below at_ ns ≡ path → in_order touched ≡ true → hung_in r cells leaf touched at_ here ns ≡ Some new → hung_in r cells leaf (cleared path touched) at_ here ns ≡ Some (cleared path new)
  hung_cleared [] ds touched at_ here new k d is end_ sorted e =
      let s : with_edit at_ leaf touched ≡ new = cc in
      ap (λ t. Some t) (sym (put_cleared path at_ leaf touched sorted (short_apart at_ (ap is_path end_ ∙ one) (let l = ap length end_ in omega (arith, l)))) ∙ ap (cleared path) s)
  hung_cleared (n ∷ ns) ds touched at_ None new k d is end_ sorted e = absurd (cc e)
  hung_cleared (n ∷ ns) ds touched at_ (Some h) new k d is end_ sorted e =
      let p = and_parts (is_component n) (are_names ns) k in
      let s = stepped r cells leaf touched at_ h n ns new e in
      let whole : path ≡ path_below root_text (ds ++ n ∷ ns) = sym end_ ∙ ap (λ t. path_below t (n ∷ ns)) is ∙ sym (path_at-append root_text ds (n ∷ ns)) in
      let at_one : is_path at_ ≡ true = ap is_path is ∙ front_is_path ds (n ∷ ns) d k (ap is_path (sym whole) ∙ one) in
      let at_next : join_text at_ n ≡ path_below root_text (ds ++ n ∷ []) = ap (λ t. join_text t n) is ∙ sym (path_at-more root_text ds n) in
      let next_one : is_path (join_text at_ n) ≡ true = ap is_path at_next ∙ front_is_path (ds ++ n ∷ []) ns (names_more ds n d p.0) p.1 (ap (λ xs. is_path (path_below root_text xs)) (append_assoc ds (n ∷ []) ns) ∙ ap is_path (sym whole) ∙ one) in
      let l = ap length end_ in
      let far = longer_at (n ∷ ns) at_ k in
      let far2 = longer_at ns (join_text at_ n) p.1 in
      let mark : marked_at r at_ h (cleared path touched) ≡ cleared path (marked_at r at_ h touched) = sym (put_cleared path at_ (Some (marked_held r h)) touched sorted (short_apart at_ at_one (omega (arith, l, far)))) in
      let child : touched_at (cleared path (marked_at r at_ h touched)) (join_text at_ n) ≡ touched_at (marked_at r at_ h touched) (join_text at_ n) = still_there path (marked_at r at_ h touched) (join_text at_ n) (short_apart (join_text at_ n) next_one (omega (arith, l, far2))) in
      ap (λ b. if b then hung_in r cells leaf (marked_at r at_ h (cleared path touched)) (join_text at_ n) (child_held cells (marked_at r at_ h (cleared path touched)) at_ n h) ns else None) s.dir
      ∙ ap (λ t. hung_in r cells leaf t (join_text at_ n) (child_held cells t at_ n h) ns) mark
      ∙ ap (λ o. hung_in r cells leaf (cleared path (marked_at r at_ h touched)) (join_text at_ n) (or_touched o (child_of cells n h)) ns) child
      ∙ hung_cleared ns (ds ++ n ∷ []) (marked_at r at_ h touched) (join_text at_ n) (child_held cells (marked_at r at_ h touched) at_ n h) new p.1 (names_more ds n d p.0) at_next end_ (order-with at_ (Some (marked_held r h)) touched sorted) s.next

-- ---- aside of the path nothing is changed

module _ (cells : List Cell) where
  pub same_on : (ns : List Name) (new old : Touched) (path : List ℕ) (here : Option Held) → ((m : Name) (ms : List Name) → are_names (m ∷ ms) ≡ true → is_front (m ∷ ms) ns ≡ true → touched_at new (path_below path (m ∷ ms)) ≡ touched_at old (path_below path (m ∷ ms))) → are_names ns ≡ true → held_from cells new path here ns ≡ held_from cells old path here ns
  same_on [] new old path here each k = refl
  same_on (n ∷ ns) new old path None each k = refl
  same_on (n ∷ ns) new old path (Some here) each k =
      let p = and_parts (is_component n) (are_names ns) k in
      ap (λ o. held_from cells new (join_text path n) (or_touched o (child_of cells n here)) ns) (each n [] (and_from (is_component n) true p.0 refl) (and_from (bytes_eq n n) true (equal_itself n) refl))
      ∙ same_on ns new old (join_text path n) (child_held cells old path n here) (λ m ms z f. each n (m ∷ ms) (and_from (is_component n) (are_names (m ∷ ms)) p.0 z) (and_from (bytes_eq n n) (is_front (m ∷ ms) ns) (equal_itself n) f)) p.1
