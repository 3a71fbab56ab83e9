-- Names in byte order, each once, are told by which names there are.
use Rattle.std.proofs.Common.{eq-eqb, Ordering, Less, Equal, Greater, ◌≡◌, ℕ, Bool, true, false, cond, ◌||◌, List, [], ◌∷◌, ◌++◌, refl, ap, sym, ◌∙◌, ⊎_elim, nat_eq, ◌+◌, ◌<◌, length, take, get_or}
use Rattle.std.specs.BTreeSet.{BTreeSet, insert_key}
use Rattle.std.specs.Cmp.Lexicographic.{slice_cmp}
use Rattle.std.specs.List.{AllByRecursion, list_any, flat_map}
use Rattle.std.specs.List.Sorted.{IsStrictlySortedBy}
use Rattle.std.specs.Ordering.{match_ordering, nat_cmp, is_eq, ordering_reverse}
use Rattle.std.specs.Prelude.{map, filter}
use Rattle.std.specs.Str.{bytes_eq}
use Rattle.std.proofs.lemmas.Cmp.{nat_list_cmp_total}
use Rattle.std.proofs.lemmas.Grind.{flat_map-append}
use Rattle.std.proofs.lemmas.List.{take_more, append-nil}
use Rattle.std.proofs.lemmas.List.Elements.{filter-append}
use Rattle.std.proofs.lemmas.List.Folds.{list_any-append}
use Rattle.std.proofs.lemmas.Map.Lookups.{btree_set_from_contains, exact_bytes}
use Rattle.std.proofs.lemmas.Map.Text.{is_eq-slice_cmp}
use Rattle.authz_file.specs.Words.{is_user}
use Rattle.authz_file.specs.Groups.{with_name, names_in_order}
use Rattle.authz_file.specs.Searching.{Has, with_names}
use Rattle.authz_file.proofs.Reach.{same, or_true, or_left, or_right, or_none, equal}

abbrev pub order : List ℕ → List ℕ → Ordering
order x y = slice_cmp nat_cmp x y

-- ---- which names there are
abbrev pub is_among : List ℕ → List (List ℕ) → Bool
is_among q names = list_any (bytes_eq q) names

or_same : (a c : Bool) → (a || c) ≡ ((a || c) || a)
or_same true c = refl
or_same false true = refl
or_same false false = refl

or_moved : (a b c : Bool) → (a || (b || c)) ≡ ((a || b) || c)
or_moved true b c = refl
or_moved false b c = refl

or_flip : (a c : Bool) → (a || c) ≡ (c || a)
or_flip true true = refl
or_flip true false = refl
or_flip false true = refl
or_flip false false = refl

with_name-any : (q name : List ℕ) (ns : List (List ℕ)) → is_among q (with_name ns name) ≡ (is_among q ns || bytes_eq q name)
with_name-any q name [] = or_none (bytes_eq q name)
with_name-any q name (n ∷ ns) = either (order name n) refl (with_name-any q name ns)
  where
    either : (o : Ordering) → order name n ≡ o → is_among q (with_name ns name) ≡ (is_among q ns || bytes_eq q name)
        → is_among q (match_ordering o (name ∷ n ∷ ns) (n ∷ ns) (n ∷ with_name ns name)) ≡ ((bytes_eq q n || is_among q ns) || bytes_eq q name)
    either Less e h = or_flip (bytes_eq q name) (bytes_eq q n || is_among q ns)
    either Equal e h = or_same (bytes_eq q n) (is_among q ns) ∙ ap (λ x. (bytes_eq q n || is_among q ns) || bytes_eq q x) (sym (exact_bytes name n e))
    either Greater e h = ap (λ b. bytes_eq q n || b) h ∙ or_moved (bytes_eq q n) (is_among q ns) (bytes_eq q name)

in_order-any : (q : List ℕ) (names : List (List ℕ)) → is_among q (names_in_order names) ≡ is_among q names
unfolding names_in_order
in_order-any q [] = refl
in_order-any q (n ∷ ns) = with_name-any q n (names_in_order ns) ∙ ap (λ b. b || bytes_eq q n) (in_order-any q ns) ∙ or_flip (is_among q ns) (bytes_eq q n)

with_names-any : (q : List ℕ) (names ns : List (List ℕ)) → is_among q (with_names ns names) ≡ (is_among q ns || is_among q names)
with_names-any q [] ns = sym (or_none (is_among q ns))
with_names-any q (n ∷ names) ns = with_names-any q names (with_name ns n) ∙ ap (λ b. b || is_among q names) (with_name-any q n ns) ∙ sym (or_moved (is_among q ns) (bytes_eq q n) (is_among q names))

-- ---- byte order
abbrev pub IsInOrder : List (List ℕ) → Type 0
IsInOrder names = IsStrictlySortedBy order names

AllAfter : List ℕ → List (List ℕ) → Type 0
AllAfter x ns = AllByRecursion (λ y. order x y ≡ Less) ns

below_all : (x y : List ℕ) (ns : List (List ℕ)) → order x y ≡ Less → AllAfter y ns → AllAfter x ns
unfolding AllAfter
below_all x y [] h a = tt
below_all x y (n ∷ ns) h a = (nat_list_cmp_total.trans x y n h a.0, below_all x y ns h a.1)

after_name : (x name : List ℕ) (ns : List (List ℕ)) → order x name ≡ Less → AllAfter x ns → AllAfter x (with_name ns name)
unfolding AllAfter
after_name x name [] h a = (h, tt)
after_name x name (n ∷ ns) h a = either (order name n) (after_name x name ns h a.1)
  where
    either : (o : Ordering) → AllAfter x (with_name ns name) → AllByRecursion (λ y. order x y ≡ Less) (match_ordering o (name ∷ n ∷ ns) (n ∷ ns) (n ∷ with_name ns name))
    either Less r = (h, a)
    either Equal r = a
    either Greater r = (a.0, r)

sorted_name : (ns : List (List ℕ)) (name : List ℕ) → IsInOrder ns → IsInOrder (with_name ns name)
unfolding IsStrictlySortedBy AllAfter
sorted_name [] name s = (tt, tt)
sorted_name (n ∷ ns) name s = either (order name n) refl (sorted_name ns name s.1)
  where
    either : (o : Ordering) → order name n ≡ o → IsInOrder (with_name ns name) → IsInOrder (match_ordering o (name ∷ n ∷ ns) (n ∷ ns) (n ∷ with_name ns name))
    either Less e r = ((e, below_all name n ns e s.0), s)
    either Equal e r = s
    either Greater e r = (after_name n name ns (nat_list_cmp_total.antisymm n name ∙ ap ordering_reverse e) s.0, r)

in_order-sorted : (names : List (List ℕ)) → IsInOrder (names_in_order names)
unfolding names_in_order IsStrictlySortedBy
in_order-sorted [] = tt
in_order-sorted (n ∷ ns) = sorted_name (names_in_order ns) n (in_order-sorted ns)

with_names-sorted : (names ns : List (List ℕ)) → IsInOrder ns → IsInOrder (with_names ns names)
with_names-sorted [] ns s = s
with_names-sorted (n ∷ names) ns s = with_names-sorted names (with_name ns n) (sorted_name ns n s)

none-sorted : IsInOrder []
unfolding IsStrictlySortedBy
none-sorted = tt

compared : (q : List ℕ) (names : List (List ℕ)) → list_any (λ k. is_eq (slice_cmp nat_cmp q k)) names ≡ is_among q names
compared q [] = refl
compared q (n ∷ ns) = ap (λ b. b || list_any (λ k. is_eq (slice_cmp nat_cmp q k)) ns) (is_eq-slice_cmp q n) ∙ ap (λ b. bytes_eq q n || b) (compared q ns)

-- lists with the same names
pub names_same : (one other : List (List ℕ)) → ((q : List ℕ) → is_among q one ≡ is_among q other) → with_names [] one ≡ names_in_order other
names_same one other h =
    let s : BTreeSet (List ℕ) = record { keys = with_names [] one } in
    let t : BTreeSet (List ℕ) = record { keys = names_in_order other } in
    btree_set_from_contains nat_list_cmp_total s t (with_names-sorted one [] none-sorted) (in_order-sorted other)
    (λ q. compared q (with_names [] one) ∙ with_names-any q one [] ∙ h q ∙ sym (in_order-any q other) ∙ sym (compared q (names_in_order other)))
    exact_bytes

-- ---- names one after another
pub with_names-append : (xs ys ns : List (List ℕ)) → with_names ns (xs ++ ys) ≡ with_names (with_names ns xs) ys
with_names-append [] ys ns = refl
with_names-append (x ∷ xs) ys ns = with_names-append xs ys (with_name ns x)

-- a set with one more name
pub texts-insert : {K : Type 0} (text : K → List ℕ) (k : K) (keys : List K) → map text (insert_key (λ x y. slice_cmp nat_cmp (text x) (text y)) keys k) ≡ with_name (map text keys) (text k)
texts-insert text k [] = refl
texts-insert text k (x ∷ xs) = either (slice_cmp nat_cmp (text k) (text x)) (texts-insert text k xs)
  where
    either : (o : Ordering) → map text (insert_key (λ x y. slice_cmp nat_cmp (text x) (text y)) xs k) ≡ with_name (map text xs) (text k)
        → map text (match_ordering o (k ∷ x ∷ xs) (x ∷ xs) (x ∷ insert_key (λ x y. slice_cmp nat_cmp (text x) (text y)) xs k)) ≡ match_ordering o (text k ∷ text x ∷ map text xs) (text x ∷ map text xs) (text x ∷ with_name (map text xs) (text k))
    either Less h = refl
    either Equal h = refl
    either Greater h = ap (λ ns. text x ∷ ns) h

-- ---- the names at places
flat_has : (f : ℕ → List (List ℕ)) (places : List ℕ) (place : ℕ) (q : List ℕ) → Has places place → is_among q (f place) ≡ true → is_among q (flat_map f places) ≡ true
flat_has f [] place q h n = cc
flat_has f (p ∷ ps) place q h n = list_any-append (bytes_eq q) (f p) (flat_map f ps) ∙ ⊎_elim
    (λ e. or_left (is_among q (f p)) (is_among q (flat_map f ps)) (ap (λ i. is_among q (f i)) (sym (equal place p e)) ∙ n))
    (λ e. or_right (is_among q (f p)) (is_among q (flat_map f ps)) (flat_has f ps place q e n))
    (or_true (nat_eq place p) (list_any (nat_eq place) ps) h)

flat_all : (f : ℕ → List (List ℕ)) (all places : List ℕ) (q : List ℕ) → ((p : ℕ) → Has places p → Has all p) → is_among q (flat_map f places) ≡ true → is_among q (flat_map f all) ≡ true
flat_all f all [] q h n = cc
flat_all f all (p ∷ ps) q h n = ⊎_elim
    (λ e. flat_has f all p q (h p (or_left (nat_eq p p) (list_any (nat_eq p) ps) (eq-eqb p p refl))) e)
    (λ e. flat_all f all ps q (λ x k. h x (or_right (nat_eq x p) (list_any (nat_eq x) ps) k)) e)
    (or_true (is_among q (f p)) (is_among q (flat_map f ps)) (sym (list_any-append (bytes_eq q) (f p) (flat_map f ps)) ∙ n))

pub names_flat : (f : ℕ → List (List ℕ)) (one other : List ℕ) → ((p : ℕ) → list_any (nat_eq p) one ≡ list_any (nat_eq p) other) → (q : List ℕ) → is_among q (flat_map f one) ≡ is_among q (flat_map f other)
names_flat f one other h q = same (is_among q (flat_map f one)) (is_among q (flat_map f other))
    (flat_all f other one q (λ p k. sym (h p) ∙ k))
    (flat_all f one other q (λ p k. h p ∙ k))

-- a word that is the name of a user, put into the set
pub user-insert : {K : Type 0} (text : K → List ℕ) (k : K) (old new : List K) (word : List ℕ) → is_user word ≡ true → text k ≡ word
    → new ≡ insert_key (λ x y. slice_cmp nat_cmp (text x) (text y)) old k → map text new ≡ with_names (map text old) (filter is_user (word ∷ []))
user-insert text k old new word is read made =
    ap (map text) made ∙ texts-insert text k old ∙ ap (with_name (map text old)) read ∙ ap (λ b. with_names (map text old) (cond b (word ∷ []) [])) (sym is)

-- one word more
pub users_more : (ns words : List (List ℕ)) (i : ℕ) (d : List ℕ) → i < length words
    → with_names (with_names ns (filter is_user (take i words))) (filter is_user (get_or words i d ∷ [])) ≡ with_names ns (filter is_user (take (i + 1) words))
users_more ns words i d h =
    sym (with_names-append (filter is_user (take i words)) (filter is_user (get_or words i d ∷ [])) ns)
    ∙ ap (with_names ns) (sym (filter-append is_user (take i words) (get_or words i d ∷ [])) ∙ ap (filter is_user) (sym (take_more words i d h)))

-- one place more
pub places_more : (f : ℕ → List (List ℕ)) (places : List ℕ) (i d : ℕ) → i < length places
    → with_names (with_names [] (flat_map f (take i places))) (f (get_or places i d)) ≡ with_names [] (flat_map f (take (i + 1) places))
places_more f places i d h =
    sym (with_names-append (flat_map f (take i places)) (f (get_or places i d)) [])
    ∙ ap (with_names []) (ap (λ ys. flat_map f (take i places) ++ ys) (sym (append-nil (f (get_or places i d)))) ∙ sym (flat_map-append f (take i places) (get_or places i d ∷ [])) ∙ ap (flat_map f) (sym (take_more places i d h)))
