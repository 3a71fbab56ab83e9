-- Whether something was there before, by an ordered set of what was there.
use Rattle.std.proofs.Common.{Ordering, Less, Equal, Greater, ◌≡◌, ℕ, ◌+◌, ◌-◌, ◌<◌, ◌≤◌, Bool, true, false, not, ◌&&◌, ◌||◌, List, [], ◌∷◌, length, drop, get_or, Bor, zero, suc, refl, ap, sym, ◌∙◌, arith}
use Rattle.std.specs.BTreeMap.{is_at}
use Rattle.std.specs.BTreeSet.{insert_key}
use Rattle.std.specs.Cmp.Lexicographic.{slice_cmp}
use Rattle.std.specs.List.{list_any}
use Rattle.std.specs.Ordering.{match_ordering, nat_cmp, is_eq, ordering_then}
use Rattle.std.specs.Str.{bytes_eq}
use Rattle.std.proofs.lemmas.List.{at_drop_more}
use Rattle.std.proofs.lemmas.Map.Lookups.{exact_bytes}
use Rattle.std.proofs.lemmas.Map.Text.{is_eq-slice_cmp}
use Rattle.dav_elements.specs.declared.elem.Attr.{Attr}
use Rattle.dav_elements.specs.declared.tag.Raw.{Raw}
use Rattle.dav_elements.specs.Names.{are_distinct}
use Rattle.dav_elements.specs.Opening.{same_key, same_attr}

-- ---- what a set has, with one key more
or_same : (a b : Bool) → (a || b) ≡ (a || (a || b))
or_same true b = refl
or_same false b = refl

or_turned : (a b c : Bool) → (a || (b || c)) ≡ (b || (a || c))
or_turned true true c = refl
or_turned true false c = refl
or_turned false true c = refl
or_turned false false c = refl

any_inserted : {K : Type 0} (cmp : K → K → Ordering) (P : K → Bool) → ((k x : K) → cmp k x ≡ Equal → P k ≡ P x) → (k : K) (ks : List K) → list_any P (insert_key cmp ks k) ≡ (P k || list_any P ks)
any_inserted cmp P same k [] = refl
any_inserted {K} cmp P same k (x ∷ xs) = either (cmp k x) (same k x) (any_inserted cmp P same k xs)
  where
    either : (o : Ordering) → (o ≡ Equal → P k ≡ P x) → list_any P (insert_key cmp xs k) ≡ (P k || list_any P xs)
        → list_any P (match_ordering o (k ∷ x ∷ xs) (x ∷ xs) (x ∷ insert_key cmp xs k)) ≡ (P k || (P x || list_any P xs))
    either Less e h = refl
    either Equal e h = or_same (P x) (list_any P xs) ∙ ap (λ b. b || (P x || list_any P xs)) (sym (e refl))
    either Greater e h = ap (λ b. P x || b) h ∙ or_turned (P x) (P k) (list_any P xs)

-- ---- distinct items, from the back
not_distinct : {X : Type 0} (same : X → X → Bool) (n : ℕ) (xs : List X) → are_distinct same (drop n xs) ≡ false → are_distinct same xs ≡ false
unfolding are_distinct
not_distinct same zero xs h = h
not_distinct same (suc n) [] h = h
not_distinct same (suc n) (x ∷ xs) h = rw (not_distinct same n xs h) (either (not (list_any (same x) xs)))
  where
    either : (b : Bool) → (b && false) ≡ false
    either true = refl
    either false = refl

pub item_front : {X : Type 0} (xs : List X) (left : ℕ) (x : X) → 0 < left → left ≤ length xs → x ≡ get_or xs (left - 1) x → drop (left - 1) xs ≡ x ∷ drop left xs
item_front xs left x h w is =
    let behind : left - 1 + 1 ≡ left = omega (arith, h) in
    at_drop_more (λ l. l) xs (left - 1) x (omega (arith, h, w)) ∙ ap (λ y. y ∷ drop (left - 1 + 1) xs) (sym is) ∙ ap (λ n. x ∷ drop n xs) behind

pub doubled : {X : Type 0} (same : X → X → Bool) (xs : List X) (left : ℕ) (x : X) (added : Bool) → 0 < left → left ≤ length xs → x ≡ get_or xs (left - 1) x → added ≡ not (list_any (same x) (drop left xs)) → added ≡ false
    → false ≡ are_distinct same xs
unfolding are_distinct
doubled same xs left x added h w is a n =
    sym (not_distinct same (left - 1) xs (ap (are_distinct same) (item_front xs left x h w is) ∙ ap (λ b. b && are_distinct same (drop left xs)) (sym a ∙ n)))

pub still_distinct : {X : Type 0} (same : X → X → Bool) (xs : List X) (left : ℕ) (x : X) (added : Bool) → 0 < left → left ≤ length xs → x ≡ get_or xs (left - 1) x → added ≡ not (list_any (same x) (drop left xs)) → added ≡ true
    → are_distinct same (drop left xs) ≡ true → are_distinct same (drop (left - 1) xs) ≡ true
unfolding are_distinct
still_distinct same xs left x added h w is a t d = ap (are_distinct same) (item_front xs left x h w is) ∙ ap (λ b. b && are_distinct same (drop left xs)) (sym a ∙ t) ∙ d

-- ---- names as they are written
abbrev pub text_order : Bor (List ℕ) → Bor (List ℕ) → Ordering
text_order x y = slice_cmp nat_cmp x.now y.now

abbrev pub HasKeys : List (Bor (List ℕ)) → List Raw → Type 0
HasKeys keys raws = (text : List ℕ) → list_any (λ k. bytes_eq text k.now) keys ≡ list_any (λ raw. bytes_eq text raw.key) raws

pub key_found : (keys : List (Bor (List ℕ))) (raws : List Raw) (k : Bor (List ℕ)) (raw : Raw) (added : Bool) → added ≡ not (list_any (is_at (text_order k)) keys) → k.now ≡ raw.key → HasKeys keys raws → added ≡ not (list_any (same_key raw) raws)
key_found keys raws k raw added a e s = a ∙ (λ i. not (list_any (λ x. is_eq-slice_cmp k.now x.now i) keys)) ∙ ap not (s k.now) ∙ ap (λ text. not (list_any (λ other. bytes_eq text other.key) raws)) e

pub key_more : (keys more : List (Bor (List ℕ))) (raws : List Raw) (left : ℕ) (k : Bor (List ℕ)) (raw : Raw) → more ≡ insert_key text_order keys k → 0 < left → left ≤ length raws → raw ≡ get_or raws (left - 1) raw → k.now ≡ raw.key → HasKeys keys (drop left raws) → HasKeys more (drop (left - 1) raws)
key_more keys more raws left k raw m h w is e s = λ text.
    ap (list_any (λ x. bytes_eq text x.now)) m ∙ any_inserted text_order (λ x. bytes_eq text x.now) (λ a b t. ap (bytes_eq text) (exact_bytes a.now b.now t)) k keys
    ∙ (λ i. bytes_eq text (e i) || s text i) ∙ ap (list_any (λ other. bytes_eq text other.key)) (sym (item_front raws left raw h w is))

-- ---- names with their namespaces
abbrev pub pair_order : Bor (List ℕ) × Bor (List ℕ) → Bor (List ℕ) × Bor (List ℕ) → Ordering
pair_order x y = ordering_then (text_order x.0 y.0) (text_order x.1 y.1)

abbrev is_pair : List ℕ → List ℕ → Bor (List ℕ) × Bor (List ℕ) → Bool
is_pair space name k = bytes_eq space k.0.now && bytes_eq name k.1.now

abbrev pub HasNames : List (Bor (List ℕ) × Bor (List ℕ)) → List Attr → Type 0
HasNames keys attrs = (space name : List ℕ) → list_any (λ k. bytes_eq space k.0.now && bytes_eq name k.1.now) keys ≡ list_any (λ attr. bytes_eq space attr.name.space && bytes_eq name attr.name.name) attrs

both_tie : (o p : Ordering) → is_eq (ordering_then o p) ≡ (is_eq o && is_eq p)
both_tie Less p = refl
both_tie Equal p = refl
both_tie Greater p = refl

pair_tie : (k x : Bor (List ℕ) × Bor (List ℕ)) → is_eq (pair_order k x) ≡ is_pair k.0.now k.1.now x
pair_tie k x = both_tie (text_order k.0 x.0) (text_order k.1 x.1) ∙ (λ i. is_eq-slice_cmp k.0.now x.0.now i && is_eq-slice_cmp k.1.now x.1.now i)

both_equal : (o p : Ordering) → ordering_then o p ≡ Equal → (o ≡ Equal) × (p ≡ Equal)
both_equal Less p h = absurd (cc)
both_equal Equal p h = (refl, h)
both_equal Greater p h = absurd (cc)

same_pair : (space name : List ℕ) (a b : Bor (List ℕ) × Bor (List ℕ)) → pair_order a b ≡ Equal → is_pair space name a ≡ is_pair space name b
same_pair space name a b t =
    let e = both_equal (text_order a.0 b.0) (text_order a.1 b.1) t in
    λ i. bytes_eq space (exact_bytes a.0.now b.0.now e.0 i) && bytes_eq name (exact_bytes a.1.now b.1.now e.1 i)

pub name_found : (keys : List (Bor (List ℕ) × Bor (List ℕ))) (attrs : List Attr) (k : Bor (List ℕ) × Bor (List ℕ)) (attr : Attr) (added : Bool) → added ≡ not (list_any (is_at (pair_order k)) keys) → k.0.now ≡ attr.name.space → k.1.now ≡ attr.name.name → HasNames keys attrs
    → added ≡ not (list_any (same_attr attr) attrs)
name_found keys attrs k attr added a e f s = a ∙ (λ i. not (list_any (λ x. pair_tie k x i) keys)) ∙ ap not (s k.0.now k.1.now) ∙ (λ i. not (list_any (λ other. bytes_eq (e i) other.name.space && bytes_eq (f i) other.name.name) attrs))

pub name_more : (keys more : List (Bor (List ℕ) × Bor (List ℕ))) (attrs : List Attr) (left : ℕ) (k : Bor (List ℕ) × Bor (List ℕ)) (attr : Attr) → more ≡ insert_key pair_order keys k → 0 < left → left ≤ length attrs → attr ≡ get_or attrs (left - 1) attr → k.0.now ≡ attr.name.space → k.1.now ≡ attr.name.name
    → HasNames keys (drop left attrs) → HasNames more (drop (left - 1) attrs)
name_more keys more attrs left k attr m h w is e f s = λ space name.
    ap (list_any (is_pair space name)) m ∙ any_inserted pair_order (is_pair space name) (same_pair space name) k keys
    ∙ (λ i. (bytes_eq space (e i) && bytes_eq name (f i)) || s space name i) ∙ ap (list_any (λ other. bytes_eq space other.name.space && bytes_eq name other.name.name)) (sym (item_front attrs left attr h w is))
