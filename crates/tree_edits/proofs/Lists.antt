-- Touched paths as a list in byte order: what is found after a path is put there or taken away.
use Rattle.std.proofs.Common.{Ordering, Less, Equal, Greater, ◌≡◌, ℕ, ◌+◌, ◌≤◌, Bool, true, false, cond, not, T, List, [], ◌∷◌, Option, None, Some, length, refl, sym, ap, subst, ◌∙◌, arith}
use Rattle.std.specs.Prelude.{is_some, filter}
use Rattle.std.specs.BTreeMap.{insert_entry}
use Rattle.std.specs.Map.{lookup, set_value, remove_entry}
use Rattle.std.specs.Ordering.{match_ordering, nat_cmp, is_eq, is_lt, eq_by_cmp}
use Rattle.std.specs.Cmp.Lexicographic.{slice_cmp, nat_list_cmp_total}
use Rattle.std.specs.FinMap.{is_sorted}
use Rattle.std.specs.FinMap.Entries.{by_order, below_all, is_sorted-put, is_sorted-where_key, find-put, length-put, same_entries}
use Rattle.std.proofs.lemmas.Bool.{and_parts}
use Rattle.std.proofs.lemmas.Map.Lookups.{exact_bytes}
use Rattle.rev_nodes.proofs.Forming.{tied, tied_self}
use Rattle.tree_edits.specs.Edits.{Held, Touched, touched_at}
use Rattle.tree_edits.specs.Hanging.{with_edit, without_edit, is_below, cleared, marked_held, marked_at}
use Rattle.tree_edits.specs.Stored.{touched_of}

abbrev pub order : List ℕ → List ℕ → Ordering
order = slice_cmp nat_cmp

-- the same path
abbrev pub is_same : List ℕ → List ℕ → Bool
is_same p path = eq_by_cmp (slice_cmp nat_cmp) p path

abbrev pub in_order : Touched → Bool
in_order touched = is_sorted (slice_cmp nat_cmp) touched

-- ---- what is found

pub touched-with : (p path : List ℕ) (edit : Option Held) (touched : Touched) → touched_at (with_edit path edit touched) p ≡ cond (is_same p path) (Some edit) (touched_at touched p)
touched-with p path edit touched = find-put (slice_cmp nat_cmp) nat_list_cmp_total p path edit touched

pub touched-here : (path : List ℕ) (edit : Option Held) (touched : Touched) → touched_at (with_edit path edit touched) path ≡ Some edit
touched-here path edit touched = touched-with path path edit touched ∙ ap (λ b. cond b (Some edit) (touched_at touched path)) (tied_self path)

pub not_same : (p path : List ℕ) → (p ≡ path → ⊥) → is_same p path ≡ false
not_same p path other = by (is_same p path) refl
  where
    by : (b : Bool) → is_same p path ≡ b → b ≡ false
    by true e = absurd (other (tied p path e))
    by false e = refl

pub touched-other : (p path : List ℕ) (edit : Option Held) (touched : Touched) → is_same p path ≡ false → touched_at (with_edit path edit touched) p ≡ touched_at touched p
touched-other p path edit touched e = touched-with p path edit touched ∙ ap (λ b. cond b (Some edit) (touched_at touched p)) e

truth : (b : Bool) → b ≡ true → T b
truth b e = subst T (sym e) tt

from_truth : (b : Bool) → T b → b ≡ true
from_truth true h = refl
from_truth false h = absurd h

pub order-with : (path : List ℕ) (edit : Option Held) (touched : Touched) → in_order touched ≡ true → in_order (with_edit path edit touched) ≡ true
order-with path edit touched sorted = from_truth _ (is_sorted-put (slice_cmp nat_cmp) nat_list_cmp_total path edit touched (truth _ sorted))

pub order-cleared : (path : List ℕ) (touched : Touched) → in_order touched ≡ true → in_order (cleared path touched) ≡ true
order-cleared path touched sorted = from_truth _ (is_sorted-where_key (slice_cmp nat_cmp) _ touched (truth _ sorted))

pub same_lists : (old new : Touched) → in_order old ≡ true → in_order new ≡ true → ((q : List ℕ) → touched_at new q ≡ touched_at old q) → new ≡ old
same_lists old new a b each = same_entries (slice_cmp nat_cmp) nat_list_cmp_total exact_bytes new old (truth _ b) (truth _ a) each

pub length-with : (path : List ℕ) (edit : Option Held) (touched : Touched) → in_order touched ≡ true → length (with_edit path edit touched) ≤ length touched + 1
length-with path edit touched sorted = by (is_some (touched_at touched path)) (length-put (slice_cmp nat_cmp) nat_list_cmp_total path edit touched (truth _ sorted))
  where
    by : (b : Bool) → length (with_edit path edit touched) ≡ cond b (length touched) (length touched + 1) → length (with_edit path edit touched) ≤ length touched + 1
    by true e = omega (arith, e)
    by false e = omega (arith, e)

-- ---- a change that is taken back

-- a path that was touched before has its old place again
pub put_back : (path : List ℕ) (edit other : Option Held) (touched : Touched) → in_order touched ≡ true → touched_at touched path ≡ Some edit → with_edit path edit (with_edit path other touched) ≡ touched
put_back path edit other touched sorted is = same_lists touched (with_edit path edit (with_edit path other touched)) sorted (order-with path edit _ (order-with path other touched sorted)) (λ q.
    touched-with q path edit (with_edit path other touched) ∙ ap (cond (is_same q path) (Some edit)) (touched-with q path other touched) ∙ by q (is_same q path) refl)
  where
    by : (q : List ℕ) (b : Bool) → is_same q path ≡ b → cond b (Some edit) (cond b (Some other) (touched_at touched q)) ≡ touched_at touched q
    by q true e = sym is ∙ ap (touched_at touched) (sym (tied q path e))
    by q false e = refl

-- or it isn't touched any more
pub taken_back : (path : List ℕ) (edit : Option Held) (touched : Touched) → touched_at touched path ≡ None → without_edit path (with_edit path edit touched) ≡ touched
taken_back path edit [] none = ap (λ b. cond b [] ((path, edit) ∷ [])) (tied_self path)
taken_back path edit (e ∷ es) none = by (slice_cmp nat_cmp path e.0) refl none (λ n. taken_back path edit es n)
  where
    by : (o : Ordering) → slice_cmp nat_cmp path e.0 ≡ o → cond (is_eq o) (Some e.1) (touched_at es path) ≡ None → (touched_at es path ≡ None → without_edit path (with_edit path edit es) ≡ es)
        → without_edit path (by_order o ((path, edit) ∷ e ∷ es) ((e.0, edit) ∷ es) (e ∷ with_edit path edit es)) ≡ e ∷ es
    by Less t n go = ap (λ b. cond b (e ∷ es) ((path, edit) ∷ without_edit path (e ∷ es))) (tied_self path)
    by Equal t n go = absurd (cc n)
    by Greater t n go = ap (λ o. cond (is_eq o) (with_edit path edit es) (e ∷ without_edit path (with_edit path edit es))) t ∙ ap (λ xs. e ∷ xs) (go n)

-- ---- a map whose keys are read as texts

module _ {K : Type 0} (text : K → List ℕ) where
  pub found_in : (q : List ℕ) (es : List (K × Option Held)) → lookup (λ k. is_eq (slice_cmp nat_cmp q (text k))) es ≡ touched_at (touched_of text es) q
  found_in q [] = refl
  found_in q (e ∷ es) = ap (cond (is_eq (slice_cmp nat_cmp q (text e.0))) (Some e.1)) (found_in q es)

  pub inserted : (key : K) (edit : Option Held) (es : List (K × Option Held)) → touched_of text (insert_entry (λ x y. slice_cmp nat_cmp (text x) (text y)) es key edit) ≡ with_edit (text key) edit (touched_of text es)
  inserted key edit [] = refl
  inserted key edit (e ∷ es) = by (slice_cmp nat_cmp (text key) (text e.0)) (inserted key edit es)
    where
      by : (o : Ordering) → touched_of text (insert_entry (λ x y. slice_cmp nat_cmp (text x) (text y)) es key edit) ≡ with_edit (text key) edit (touched_of text es)
          → touched_of text (match_ordering o ((key, edit) ∷ e ∷ es) ((e.0, edit) ∷ es) (e ∷ insert_entry (λ x y. slice_cmp nat_cmp (text x) (text y)) es key edit)) ≡ by_order o ((text key, edit) ∷ touched_of text (e ∷ es)) ((text e.0, edit) ∷ touched_of text es) ((text e.0, e.1) ∷ with_edit (text key) edit (touched_of text es))
      by Less go = refl
      by Equal go = refl
      by Greater go = ap (λ xs. (text e.0, e.1) ∷ xs) go

  pub removed : (q : List ℕ) (es : List (K × Option Held)) → touched_of text (remove_entry (λ k. is_eq (slice_cmp nat_cmp q (text k))) es) ≡ without_edit q (touched_of text es)
  removed q [] = refl
  removed q (e ∷ es) = by (is_eq (slice_cmp nat_cmp q (text e.0))) (removed q es)
    where
      by : (b : Bool) → touched_of text (remove_entry (λ k. is_eq (slice_cmp nat_cmp q (text k))) es) ≡ without_edit q (touched_of text es)
          → touched_of text (cond b es (e ∷ remove_entry (λ k. is_eq (slice_cmp nat_cmp q (text k))) es)) ≡ cond b (touched_of text es) ((text e.0, e.1) ∷ without_edit q (touched_of text es))
      by true go = refl
      by false go = ap (λ xs. (text e.0, e.1) ∷ xs) go

  below_less : (q x : List ℕ) (touched : Touched) → slice_cmp nat_cmp q x ≡ Less → below_all (slice_cmp nat_cmp) x touched ≡ true → touched_at touched q ≡ None
  below_less q x [] less below = refl
  below_less q x (e ∷ es) less below =
      let p = and_parts _ (below_all (slice_cmp nat_cmp) x es) below in
      ap (λ o. cond (is_eq o) (Some e.1) (touched_at es q)) (nat_list_cmp_total.trans q x e.0 less (is_less (slice_cmp nat_cmp x e.0) p.0)) ∙ below_less q x es less p.1
    where
      is_less : (o : Ordering) → is_lt o ≡ true → o ≡ Less
      is_less Less h = refl
      is_less Equal h = absurd (cc)
      is_less Greater h = absurd (cc)

  -- another place at a path that is touched
  pub set_at : (q : List ℕ) (edit : Option Held) (es : List (K × Option Held)) → in_order (touched_of text es) ≡ true → is_some (touched_at (touched_of text es) q) ≡ true → touched_of text (set_value (λ k. is_eq (slice_cmp nat_cmp q (text k))) es edit) ≡ with_edit q edit (touched_of text es)
  set_at q edit [] sorted there = absurd (cc there)
  set_at q edit (e ∷ es) sorted there = by (slice_cmp nat_cmp q (text e.0)) refl there (λ h. set_at q edit es (and_parts (below_all (slice_cmp nat_cmp) (text e.0) (touched_of text es)) _ sorted).1 h)
    where
      below : below_all (slice_cmp nat_cmp) (text e.0) (touched_of text es) ≡ true
      below = (and_parts (below_all (slice_cmp nat_cmp) (text e.0) (touched_of text es)) _ sorted).0

      by : (o : Ordering) → slice_cmp nat_cmp q (text e.0) ≡ o → is_some (cond (is_eq o) (Some e.1) (touched_at (touched_of text es) q)) ≡ true
          → (is_some (touched_at (touched_of text es) q) ≡ true → touched_of text (set_value (λ k. is_eq (slice_cmp nat_cmp q (text k))) es edit) ≡ with_edit q edit (touched_of text es))
          → touched_of text (cond (is_eq o) ((e.0, edit) ∷ es) (e ∷ set_value (λ k. is_eq (slice_cmp nat_cmp q (text k))) es edit)) ≡ by_order o ((q, edit) ∷ touched_of text (e ∷ es)) ((text e.0, edit) ∷ touched_of text es) ((text e.0, e.1) ∷ with_edit q edit (touched_of text es))
      by Less t h go = absurd (let n = ap is_some (below_less q (text e.0) (touched_of text es) t below) in cc (h, n))
      by Equal t h go = refl
      by Greater t h go = ap (λ xs. (text e.0, e.1) ∷ xs) (go h)

  pub filtered : (path : List ℕ) (es : List (K × Option Held)) → touched_of text (filter (λ (e : K × Option Held). not (is_below (text e.0) path)) es) ≡ cleared path (touched_of text es)
  filtered path [] = refl
  filtered path (e ∷ es) = by (not (is_below (text e.0) path)) (filtered path es)
    where
      by : (b : Bool) → touched_of text (filter (λ (x : K × Option Held). not (is_below (text x.0) path)) es) ≡ cleared path (touched_of text es) → touched_of text (cond b (e ∷ filter (λ (x : K × Option Held). not (is_below (text x.0) path)) es) (filter (λ (x : K × Option Held). not (is_below (text x.0) path)) es)) ≡ cond b ((text e.0, e.1) ∷ cleared path (touched_of text es)) (cleared path (touched_of text es))
      by true go = ap (λ xs. (text e.0, e.1) ∷ xs) go
      by false go = go

  -- ---- for the code

  module _ (q : List ℕ) (old new : List (K × Option Held)) (touched : Touched) (is : touched_of text old ≡ touched) where
    pub got : (o : Option (Option Held)) → o ≡ lookup (λ k. is_eq (slice_cmp nat_cmp q (text k))) old → o ≡ touched_at touched q
    got o e = e ∙ found_in q old ∙ ap (λ t. touched_at t q) is

    pub removed_is : new ≡ remove_entry (λ k. is_eq (slice_cmp nat_cmp q (text k))) old → touched_of text new ≡ without_edit q touched
    removed_is e = ap (touched_of text) e ∙ removed q old ∙ ap (without_edit q) is

    pub set_is : (edit : Option Held) → in_order touched ≡ true → is_some (touched_at touched q) ≡ true → new ≡ set_value (λ k. is_eq (slice_cmp nat_cmp q (text k))) old edit → touched_of text new ≡ with_edit q edit touched
    set_is edit sorted there e = ap (touched_of text) e ∙ set_at q edit old (ap in_order is ∙ sorted) (ap (λ t. is_some (touched_at t q)) is ∙ there) ∙ ap (with_edit q edit) is

    pub added_is : (key : K) (edit : Option Held) → text key ≡ q → new ≡ insert_entry (λ x y. slice_cmp nat_cmp (text x) (text y)) old key edit → touched_of text new ≡ with_edit q edit touched
    added_is key edit key_is e = ap (touched_of text) e ∙ inserted key edit old ∙ ap (λ p. with_edit p edit (touched_of text old)) key_is ∙ ap (with_edit q edit) is

    pub stamp_is : (r : ℕ) (found here : Held) → in_order touched ≡ true → touched_at touched q ≡ Some (Some here) → touched_at touched q ≡ Some (Some found) → new ≡ set_value (λ k. is_eq (slice_cmp nat_cmp q (text k))) old (Some (marked_held r found)) → touched_of text new ≡ marked_at r q here touched
    stamp_is r found here sorted there found_is e =
        let both : Some (Some here) ≡ Some (Some found) = sym there ∙ found_is in
        let same : found ≡ here = cc in
        set_is (Some (marked_held r found)) sorted (ap is_some there) e ∙ ap (λ h. marked_at r q h touched) same

    pub cleared_is : (path : List ℕ) → new ≡ filter (λ (e : K × Option Held). not (is_below (text e.0) path)) old → touched_of text new ≡ cleared path touched
    cleared_is path e = ap (touched_of text) e ∙ filtered path old ∙ ap (cleared path) is
