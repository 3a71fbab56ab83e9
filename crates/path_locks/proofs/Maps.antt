-- What is found in a map whose keys are read as texts, and what an insert makes of it.
use Rattle.std.proofs.Common.{Ordering, Less, Equal, Greater, ◌≡◌, ℕ, ◌&&◌, true, cond, List, [], ◌∷◌, Option, Some, refl, sym, ap, ◌∙◌}
use Rattle.std.specs.Str.{bytes_eq}
use Rattle.std.specs.BTreeMap.{insert_entry}
use Rattle.std.specs.Map.{lookup, keys_of}
use Rattle.std.specs.List.{list_all, AllByRecursion}
use Rattle.std.specs.List.Sorted.{IsStrictlySortedBy}
use Rattle.std.specs.Ordering.{match_ordering, nat_cmp, is_eq, is_lt}
use Rattle.std.specs.Cmp.Lexicographic.{slice_cmp}
use Rattle.std.specs.FinMap.{find, put, is_sorted}
use Rattle.std.specs.FinMap.Entries.{by_order, below_all}
use Rattle.std.proofs.lemmas.Bool.{and_parts, and_from}
use Rattle.std.proofs.lemmas.Map.Lookups.{exact_bytes}
use Rattle.std.proofs.lemmas.Slice.Eq.{bytes_eq-Decides}
use Rattle.path_locks.specs.LockStates.{Lock, LockState, lock_at, with_lock, StandInOrder}
use Rattle.path_locks.specs.Kept.{locks_in, seen_locks, stand_at_paths}

module _ {K : Type 0} (text : K → List ℕ) where
  abbrev order : K → K → Ordering
  order x y = slice_cmp nat_cmp (text x) (text y)

  -- ---- what is found

  found_in : (q : List ℕ) (es : List (K × Lock)) → lookup (λ k. is_eq (slice_cmp nat_cmp q (text k))) es ≡ find (slice_cmp nat_cmp) q (locks_in text es)
  found_in q [] = refl
  found_in q (e ∷ es) = ap (cond (is_eq (slice_cmp nat_cmp q (text e.0))) (Some e.1)) (found_in q es)

  pub lock_found : (q : List ℕ) (es : List (K × Lock)) (state : LockState) → seen_locks text es ≡ state → (found : Option Lock) → found ≡ lookup (λ k. is_eq (slice_cmp nat_cmp q (text k))) es → found ≡ lock_at q state
  lock_found q es state is found e = e ∙ found_in q es ∙ ap (lock_at q) is

  -- ---- a lock that is put

  inserted : (key : K) (lock : Lock) (es : List (K × Lock)) → locks_in text (insert_entry order es key lock) ≡ put (slice_cmp nat_cmp) (text key) lock (locks_in text es)
  inserted key lock [] = refl
  inserted key lock (e ∷ es) = by (order key e.0) (inserted key lock es)
    where
      by : (o : Ordering) → locks_in text (insert_entry order es key lock) ≡ put (slice_cmp nat_cmp) (text key) lock (locks_in text es)
          → locks_in text (match_ordering o ((key, lock) ∷ e ∷ es) ((e.0, lock) ∷ es) (e ∷ insert_entry order es key lock)) ≡ by_order o ((text key, lock) ∷ locks_in text (e ∷ es)) ((text e.0, lock) ∷ locks_in text es) ((text e.0, e.1) ∷ put (slice_cmp nat_cmp) (text key) lock (locks_in text es))
      by Less go = refl
      by Equal go = refl
      by Greater go = ap (λ xs. (text e.0, e.1) ∷ xs) go

  module _ (lock : Lock) (es new : List (K × Lock)) (key : K) (key_is : text key ≡ lock.path) (is_put : new ≡ insert_entry order es key lock) where
    pub lock_put : (state : LockState) → seen_locks text es ≡ state → seen_locks text new ≡ with_lock lock state
    lock_put state is =
        ap (seen_locks text) is_put
        ∙ ap (λ (ls : List (List ℕ × Lock)). record { locks = ls }) (inserted key lock es ∙ ap (λ p. put (slice_cmp nat_cmp) p lock (locks_in text es)) key_is)
        ∙ ap (with_lock lock) is

    named_inserted : (fs : List (K × Lock)) → stand_at_paths text fs ≡ true → stand_at_paths text (insert_entry order fs key lock) ≡ true
    named_inserted [] named = and_from _ _ (at_key key refl) refl
      where
        at_key : (k : K) → text key ≡ text k → bytes_eq lock.path (text k) ≡ true
        at_key k same = ap (λ p. bytes_eq p (text k)) (sym key_is ∙ same) ∙ (bytes_eq-Decides (text k) (text k)).1 refl
    named_inserted (e ∷ fs) named =
        let p = and_parts (bytes_eq e.1.path (text e.0)) (stand_at_paths text fs) named in
        by (order key e.0) refl p.1 (named_inserted fs p.1) p.0
      where
        at_key : (k : K) → text key ≡ text k → bytes_eq lock.path (text k) ≡ true
        at_key k same = ap (λ p. bytes_eq p (text k)) (sym key_is ∙ same) ∙ (bytes_eq-Decides (text k) (text k)).1 refl

        by : (o : Ordering) → order key e.0 ≡ o → stand_at_paths text fs ≡ true → stand_at_paths text (insert_entry order fs key lock) ≡ true → bytes_eq e.1.path (text e.0) ≡ true
            → stand_at_paths text (match_ordering o ((key, lock) ∷ e ∷ fs) ((e.0, lock) ∷ fs) (e ∷ insert_entry order fs key lock)) ≡ true
        by Less t all go one = and_from _ _ (at_key key refl) (and_from _ _ one all)
        by Equal t all go one = and_from _ _ (at_key e.0 (exact_bytes (text key) (text e.0) t)) all
        by Greater t all go one = and_from _ _ one go

    pub named_put : stand_at_paths text es ≡ true → stand_at_paths text new ≡ true
    named_put named = ap (stand_at_paths text) is_put ∙ named_inserted es named

  -- ---- the order of the keys, and their locks

  below_is : (k : K) (es : List (K × Lock)) → AllByRecursion (λ y. order k y ≡ Less) (keys_of es) → below_all (slice_cmp nat_cmp) (text k) (locks_in text es) ≡ true
  below_is k [] all = refl
  below_is k (e ∷ es) all = and_from (is_lt (order k e.0)) _ (ap is_lt all.0) (below_is k es all.1)

  sorted_is : (es : List (K × Lock)) → IsStrictlySortedBy order (keys_of es) → is_sorted (slice_cmp nat_cmp) (locks_in text es) ≡ true
  unfolding IsStrictlySortedBy
  sorted_is [] sorted = refl
  sorted_is (e ∷ es) sorted = and_from (below_all (slice_cmp nat_cmp) (text e.0) (locks_in text es)) _ (below_is e.0 es sorted.0) (sorted_is es sorted.1)

  named_is : (es : List (K × Lock)) → stand_at_paths text es ≡ list_all (λ (e : List ℕ × Lock). bytes_eq e.1.path e.0) (locks_in text es)
  named_is [] = refl
  named_is (e ∷ es) = ap (λ b. bytes_eq e.1.path (text e.0) && b) (named_is es)

  pub in_order : (es : List (K × Lock)) → stand_at_paths text es ≡ true → IsStrictlySortedBy order (keys_of es) → StandInOrder (seen_locks text es)
  in_order es named sorted = record { named = sym (named_is es) ∙ named; sorted = sorted_is es sorted }
