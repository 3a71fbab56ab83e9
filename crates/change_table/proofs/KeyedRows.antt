-- What is found in a map whose keys are read as texts, and what a change makes of it.
use Rattle.std.proofs.Common.{Ordering, Less, Equal, Greater, ◌≡◌, ℕ, Bool, true, false, cond, List, [], ◌∷◌, Option, None, Some, Result, Ok, Err, OnOk, refl, sym, ap, ◌∙◌}
use Rattle.std.specs.Option.{option_map}
use Rattle.std.specs.Str.{bytes_eq}
use Rattle.std.specs.List.{AllByRecursion}
use Rattle.std.specs.List.Sorted.{IsStrictlySortedBy}
use Rattle.std.specs.BTreeMap.{insert_entry}
use Rattle.std.specs.Map.{keys_of, lookup, set_value}
use Rattle.std.specs.Ordering.{match_ordering, nat_cmp, is_eq}
use Rattle.std.specs.Cmp.Lexicographic.{slice_cmp, nat_list_cmp_total}
use Rattle.std.specs.FinMap.{find, put}
use Rattle.std.specs.FinMap.Entries.{by_order}
use Rattle.std.proofs.lemmas.Bool.{and_parts, and_from}
use Rattle.std.proofs.lemmas.Map.Lookups.{exact_bytes}
use Rattle.rev_nodes.specs.declared.change.Change.{Change}
use Rattle.rev_nodes.specs.ChangedPaths.{path_of}
use Rattle.rev_nodes.proofs.Below.{same_from, equal_itself}
use Rattle.change_table.specs.declared.row.Row.{Row}
use Rattle.change_table.specs.ChangeTables.{LastChanges, ChangeTable, no_last, noted, last_or, last_at, noted_in}
use Rattle.change_table.specs.Rows.{last_in, table_in, are_at_paths, rows_in, AreRowsOf}

module _ {K : Type 0} (text : K → List ℕ) where
  abbrev order : K → K → Ordering
  order x y = slice_cmp nat_cmp (text x) (text y)

  abbrev is_here : List ℕ → K → Bool
  is_here q k = is_eq (slice_cmp nat_cmp q (text k))

  -- ---- what is found

  found_in : (q : List ℕ) (es : List (K × Row)) → option_map last_in (lookup (is_here q) es) ≡ find (slice_cmp nat_cmp) q (table_in text es)
  found_in q [] = refl
  found_in q (e ∷ es) = by (is_here q e.0) (found_in q es)
    where
      by : (b : Bool) → option_map last_in (lookup (is_here q) es) ≡ find (slice_cmp nat_cmp) q (table_in text es)
          → option_map last_in (cond b (Some e.1) (lookup (is_here q) es)) ≡ cond b (Some (last_in e.1)) (find (slice_cmp nat_cmp) q (table_in text es))
      by true go = refl
      by false go = go

  -- what a look-up in a map tells of the table
  pub row_found : (q : List ℕ) (es : List (K × Row)) (table : ChangeTable) → table_in text es ≡ table → (row : Option Row) → row ≡ lookup (is_here q) es → option_map last_in row ≡ find (slice_cmp nat_cmp) q table
  row_found q es table is row e = ap (option_map last_in) e ∙ found_in q es ∙ ap (find (slice_cmp nat_cmp) q) is

  -- a text below all keys is none of them
  none_below : (q : List ℕ) (k : K) (es : List (K × Row)) → slice_cmp nat_cmp q (text k) ≡ Less → AllByRecursion (λ y. order k y ≡ Less) (keys_of es) → lookup (is_here q) es ≡ None
  none_below q k [] less all = refl
  none_below q k (e ∷ es) less all =
      ap (λ o. cond (is_eq o) (Some e.1) (lookup (is_here q) es)) (nat_list_cmp_total.trans q (text k) (text e.0) less all.0)
      ∙ none_below q k es less all.1

  -- ---- another row at a path

  row_set : (q : List ℕ) (row old : Row) (es : List (K × Row)) → IsStrictlySortedBy order (keys_of es) → lookup (is_here q) es ≡ Some old → table_in text (set_value (is_here q) es row) ≡ put (slice_cmp nat_cmp) q (last_in row) (table_in text es)
  unfolding IsStrictlySortedBy
  row_set q row old [] sorted some = absurd (cc some)
  row_set q row old (e ∷ es) sorted some = by (slice_cmp nat_cmp q (text e.0)) refl some (λ h. row_set q row old es sorted.1 h)
    where
      by : (o : Ordering) → slice_cmp nat_cmp q (text e.0) ≡ o → cond (is_eq o) (Some e.1) (lookup (is_here q) es) ≡ Some old
          → (lookup (is_here q) es ≡ Some old → table_in text (set_value (is_here q) es row) ≡ put (slice_cmp nat_cmp) q (last_in row) (table_in text es))
          → table_in text (cond (is_eq o) ((e.0, row) ∷ es) (e ∷ set_value (is_here q) es row)) ≡ by_order o ((q, last_in row) ∷ table_in text (e ∷ es)) ((text e.0, last_in row) ∷ table_in text es) ((text e.0, last_in e.1) ∷ put (slice_cmp nat_cmp) q (last_in row) (table_in text es))
      by Less t h go = absurd (let none = none_below q e.0 es t sorted.0 in cc (none, h))
      by Equal t h go = refl
      by Greater t h go = ap (λ xs. (text e.0, last_in e.1) ∷ xs) (go h)

  named_set : (q : List ℕ) (row old : Row) (es : List (K × Row)) → row.path ≡ old.path → lookup (is_here q) es ≡ Some old → are_at_paths text es ≡ true → are_at_paths text (set_value (is_here q) es row) ≡ true
  named_set q row old [] same some named = refl
  named_set q row old (e ∷ es) same some named =
      let p = and_parts (bytes_eq e.1.path (text e.0)) (are_at_paths text es) named in
      by (is_here q e.0) some p.0 p.1 (λ h. named_set q row old es same h p.1)
    where
      by : (b : Bool) → cond b (Some e.1) (lookup (is_here q) es) ≡ Some old → bytes_eq e.1.path (text e.0) ≡ true → are_at_paths text es ≡ true
          → (lookup (is_here q) es ≡ Some old → are_at_paths text (set_value (is_here q) es row) ≡ true)
          → are_at_paths text (cond b ((e.0, row) ∷ es) (e ∷ set_value (is_here q) es row)) ≡ true
      by true h one all go =
          let here : e.1 ≡ old = cc in
          and_from _ _ (ap (λ p. bytes_eq p (text e.0)) (same ∙ sym (ap (λ (r : Row). r.path) here)) ∙ one) all
      by false h one all go = and_from _ _ one (go h)

  -- ---- a row more

  row_inserted : (key : K) (row : Row) (es : List (K × Row)) → table_in text (insert_entry order es key row) ≡ put (slice_cmp nat_cmp) (text key) (last_in row) (table_in text es)
  row_inserted key row [] = refl
  row_inserted key row (e ∷ es) = by (order key e.0) (row_inserted key row es)
    where
      by : (o : Ordering) → table_in text (insert_entry order es key row) ≡ put (slice_cmp nat_cmp) (text key) (last_in row) (table_in text es)
          → table_in text (match_ordering o ((key, row) ∷ e ∷ es) ((e.0, row) ∷ es) (e ∷ insert_entry order es key row)) ≡ by_order o ((text key, last_in row) ∷ table_in text (e ∷ es)) ((text e.0, last_in row) ∷ table_in text es) ((text e.0, last_in e.1) ∷ put (slice_cmp nat_cmp) (text key) (last_in row) (table_in text es))
      by Less go = refl
      by Equal go = refl
      by Greater go = ap (λ xs. (text e.0, last_in e.1) ∷ xs) go

  named_inserted : (key : K) (row : Row) (es : List (K × Row)) → row.path ≡ text key → are_at_paths text es ≡ true → are_at_paths text (insert_entry order es key row) ≡ true
  named_inserted key row [] is named = and_from _ _ (ap (λ p. bytes_eq p (text key)) is ∙ equal_itself (text key)) refl
  named_inserted key row (e ∷ es) is named =
      let p = and_parts (bytes_eq e.1.path (text e.0)) (are_at_paths text es) named in
      by (order key e.0) refl p.1 (named_inserted key row es is p.1) p.0
    where
      at_key : (k : K) → text key ≡ text k → bytes_eq row.path (text k) ≡ true
      at_key k same = ap (λ p. bytes_eq p (text k)) (is ∙ same) ∙ equal_itself (text k)

      by : (o : Ordering) → order key e.0 ≡ o → are_at_paths text es ≡ true → are_at_paths text (insert_entry order es key row) ≡ true → bytes_eq e.1.path (text e.0) ≡ true
          → are_at_paths text (match_ordering o ((key, row) ∷ e ∷ es) ((e.0, row) ∷ es) (e ∷ insert_entry order es key row)) ≡ true
      by Less t all go one = and_from _ _ (at_key key refl) (and_from _ _ one all)
      by Equal t all go one = and_from _ _ (at_key e.0 (exact_bytes (text key) (text e.0) t)) all
      by Greater t all go one = and_from _ _ one go

  -- ---- the rows by their own paths

  pub rows_at_paths : (es : List (K × Row)) → are_at_paths text es ≡ true → rows_in es ≡ table_in text es
  rows_at_paths [] named = refl
  rows_at_paths (e ∷ es) named =
      let p = and_parts (bytes_eq e.1.path (text e.0)) (are_at_paths text es) named in
      λ i. (same_from e.1.path (text e.0) p.0 i, last_in e.1) ∷ rows_at_paths es p.1 i

  -- ---- a change at a path

  module _ (path : List ℕ) (number : ℕ) (change : Change) (old new : List (K × Row)) (path_is : path_of change ≡ path) (named : are_at_paths text old ≡ true) (row : Row) where
    told : (last : LastChanges) → last_at path (table_in text old) ≡ last → last_in row ≡ noted number change last → put (slice_cmp nat_cmp) path (last_in row) (table_in text old) ≡ noted_in number change (table_in text old)
    told last before now =
        ap (λ (l : LastChanges). put (slice_cmp nat_cmp) path l (table_in text old)) (now ∙ ap (noted number change) (sym before))
        ∙ ap (λ p. put (slice_cmp nat_cmp) p (noted number change (last_at p (table_in text old))) (table_in text old)) (sym path_is)

    -- that has a row
    pub noted_here : (found : Row) → Some found ≡ lookup (is_here path) old → IsStrictlySortedBy order (keys_of old) → row.path ≡ found.path → last_in row ≡ noted number change (last_in found) → new ≡ set_value (is_here path) old row → AreRowsOf text (noted_in number change (table_in text old)) new
    noted_here found is sorted same now e = record {
      is = ap (table_in text) e ∙ row_set path row found old sorted (sym is) ∙ told (last_in found) (ap last_or (sym (row_found path old (table_in text old) refl (Some found) is))) now;
      named = ap (are_at_paths text) e ∙ named_set path row found old same (sym is) named;
    }

    -- that has none
    pub noted_new : None ≡ lookup (is_here path) old → (key : K) → text key ≡ path → row.path ≡ path → last_in row ≡ noted number change no_last → new ≡ insert_entry order old key row → AreRowsOf text (noted_in number change (table_in text old)) new
    noted_new none key key_is same now e = record {
      is = ap (table_in text) e ∙ row_inserted key row old
          ∙ ap (λ p. put (slice_cmp nat_cmp) p (last_in row) (table_in text old)) key_is
          ∙ told no_last (ap last_or (sym (row_found path old (table_in text old) refl None none))) now;
      named = ap (are_at_paths text) e ∙ named_inserted key row old (same ∙ sym key_is) named;
    }

-- what follows from two facts of a result that is Ok
pub on_both : {A E P Q S : Type 0} (r : Result A E) → OnOk r P → OnOk r Q → (P → Q → S) → OnOk r S
on_both (Ok x) p q f = f p q
on_both (Err e) p q f = tt
