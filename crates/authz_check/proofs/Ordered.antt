-- Texts in byte order, and what a search among places in order finds.
use Rattle.std.proofs.Common.{◌≡◌, ℕ, zero, suc, ◌<◌, ◌≤◌, ◌+◌, ◌-◌, Bool, true, false, cond, List, [], ◌∷◌, ◌++◌, Some, take, drop, length, get_or, refl, sym, ap, ◌∙◌, inl, inr, arith}
use Rattle.std.specs.Prelude.{◌==◌, ◌&&◌, ◌⊎◌, nat_eq, nat_lt}
use Rattle.std.specs.List.{Contains, slice_get}
use Rattle.std.specs.List.Sorted.{IsPartitionedBy, IsPartitionPoint}
use Rattle.std.specs.Ordering.{nat_cmp, is_lt, ordering_index, ordering_then}
use Rattle.std.specs.declared.cmp.Ordering.{Ordering}
use Rattle.std.specs.declared.cmp.Ordering.TheVariants.{Less, Equal, Greater}
use Rattle.std.specs.Cmp.Lexicographic.{pointwise, slice_cmp, nat_list_cmp_total}
use Rattle.std.proofs.lemmas.Bool.{cases_lt}
use Rattle.std.proofs.lemmas.Bool.Decides.{nat_tests}
use Rattle.std.proofs.lemmas.Grind.{common_steps}
use Rattle.std.proofs.lemmas.List.Sorted.{searchable_from_sorted}
use Rattle.authz_file.specs.declared.rule.Rule.{Rule}
use Rattle.authz_check.specs.Order.{rule_path, IsRising}

abbrev pub order : List ℕ → List ℕ → Ordering
order = slice_cmp nat_cmp

equal_itself : (n : ℕ) → nat_cmp n n ≡ Equal
equal_itself n = grind (arith, nat_tests)

-- what two texts begin with together doesn't matter
pub order-front : (front x y : List ℕ) → order (front ++ x) (front ++ y) ≡ order x y
order-front [] x y = refl
order-front (c ∷ cs) x y = ap (λ o. ordering_then o (order (cs ++ x) (cs ++ y))) (equal_itself c) ∙ order-front cs x y

pub order-itself : (front y : List ℕ) → order front (front ++ y) ≡ order [] y
order-itself [] y = refl
order-itself (c ∷ cs) y = ap (λ o. ordering_then o (order cs (cs ++ y))) (equal_itself c) ∙ order-itself cs y

-- a text that doesn't begin with another is ordered by that alone
pub order-other : (text front tail : List ℕ) → pointwise nat_eq (take (length front) text) front ≡ false → order text (front ++ tail) ≡ order text front
order-other [] [] tail h = absurd (cc h)
order-other [] (c ∷ cs) tail h = refl
order-other (a ∷ rest) [] tail h = absurd (cc h)
order-other (a ∷ rest) (c ∷ cs) tail h = pick (nat_eq a c) refl h (λ k. order-other rest cs tail k)
  where
    apart : (less same : Bool) (x y : Ordering) → same ≡ false → ordering_then (cond less Less (cond same Equal Greater)) x ≡ ordering_then (cond less Less (cond same Equal Greater)) y
    apart true same x y k = refl
    apart false true x y k = absurd (cc k)
    apart false false x y k = refl

    pick : (same : Bool) → nat_eq a c ≡ same → (same && pointwise nat_eq (take (length cs) rest) cs) ≡ false → (pointwise nat_eq (take (length cs) rest) cs ≡ false → order rest (cs ++ tail) ≡ order rest cs) → ordering_then (nat_cmp a c) (order rest (cs ++ tail)) ≡ ordering_then (nat_cmp a c) (order rest cs)
    pick true e k later = ap (ordering_then (nat_cmp a c)) (later k)
    pick false e k later = apart (nat_lt a c) (a == c) (order rest (cs ++ tail)) (order rest cs) e

first_less : (a b : Ordering) → ordering_index a ≤ ordering_index b → is_lt b ≡ true → is_lt a ≡ true
first_less Less b h k = refl
first_less Equal Less h k = absurd (omega arith)
first_less Equal Equal h k = absurd (cc k)
first_less Equal Greater h k = absurd (cc k)
first_less Greater Less h k = absurd (omega arith)
first_less Greater Equal h k = absurd (cc k)
first_less Greater Greater h k = absurd (cc k)

-- places in order stand before a text up to one of them, and then no more
pub parted_by : (rules : List Rule) (places : List ℕ) (text : List ℕ) → IsRising rules places → IsPartitionedBy (λ place. is_lt (order (rule_path rules place) text)) places
parted_by rules places text rising i j d le within h =
    first_less _ _ (searchable_from_sorted nat_list_cmp_total (rule_path rules) places text rising i j d le within) h

-- what stands from a first point on and before a second one is in the slice between them
pub between : (low high : ℕ → Bool) (xs : List ℕ) (s e : ℕ) → IsPartitionPoint (λ y. low y ≡ true) (λ y. low y ≡ false) xs s → IsPartitionPoint (λ y. high y ≡ true) (λ y. high y ≡ false) (take (length xs - s) (drop s xs)) e
    → (i : ℕ) → Contains xs i → low i ≡ false → high i ≡ true → Contains (take e (take (length xs - s) (drop s xs))) i
between low high xs s e first second i (k, within, is) late early = pick (cases_lt k s)
  where
    rest : List ℕ
    rest = take (length xs - s) (drop s xs)

    place : (j : ℕ) → k ≡ s + j → (j < e) ⊎ (e ≤ j) → Contains (take e (take (length xs - s) (drop s xs))) i
    place j at (inl before) =
        let long : j < length (take e (take (length xs - s) (drop s xs))) = grind (arith, common_steps) in
        let same : get_or (take e (take (length xs - s) (drop s xs))) j i ≡ get_or xs (s + j) i = grind (arith, common_steps) in
        (j, long, same ∙ ap (λ n. get_or xs n i) (sym at) ∙ is)
    place j at (inr after) =
        let long : j < length (take (length xs - s) (drop s xs)) = grind (arith, common_steps) in
        let same : get_or (take (length xs - s) (drop s xs)) j i ≡ get_or xs (s + j) i = grind (arith, common_steps) in
        let past : high (get_or (take (length xs - s) (drop s xs)) j i) ≡ false = second.1 j i after long in
        absurd (cc (sym early ∙ ap high (sym (same ∙ ap (λ n. get_or xs n i) (sym at) ∙ is)) ∙ past))

    pick : (k < s) ⊎ (s ≤ k) → Contains (take e (take (length xs - s) (drop s xs))) i
    pick (inl before) = absurd (cc (sym late ∙ ap low (sym is) ∙ first.0 k i (omega arith) before))
    pick (inr after) = place (k - s) (omega arith) (cases_lt (k - s) e)

-- the texts under a path, and that path itself
pub not_before_itself : (p q : List ℕ) → q ≡ p → is_lt (order q (p ++ [])) ≡ false
not_before_itself p q same = ap (λ t. is_lt (order t (p ++ []))) same ∙ ap is_lt (order-itself p [])

pub before_next : (p q : List ℕ) → q ≡ p → is_lt (order q (p ++ 0 ∷ [])) ≡ true
before_next p q same = ap (λ t. is_lt (order t (p ++ 0 ∷ []))) same ∙ ap is_lt (order-itself p (0 ∷ []))

pub not_before_below : (p q rest : List ℕ) → q ≡ p ++ 47 ∷ rest → is_lt (order q (p ++ 47 ∷ [])) ≡ false
not_before_below p q rest same = ap (λ t. is_lt (order t (p ++ 47 ∷ []))) same ∙ ap is_lt (order-front p (47 ∷ rest) (47 ∷ [])) ∙ either rest
  where
    either : (rest : List ℕ) → is_lt (order (47 ∷ rest) (47 ∷ [])) ≡ false
    either [] = refl
    either (c ∷ cs) = refl

pub before_neighbours : (p q rest : List ℕ) → q ≡ p ++ 47 ∷ rest → is_lt (order q (p ++ 48 ∷ [])) ≡ true
before_neighbours p q rest same = ap (λ t. is_lt (order t (p ++ 48 ∷ []))) same ∙ ap is_lt (order-front p (47 ∷ rest) (48 ∷ []))

pub get_or-slice_get : {X : Type 0} (xs : List X) (i : ℕ) (x d : X) → slice_get xs i ≡ Some x → get_or xs i d ≡ x
get_or-slice_get [] i x d h = absurd (cc h)
get_or-slice_get (y ∷ ys) zero x d h = cc
get_or-slice_get (y ∷ ys) (suc i) x d h = get_or-slice_get ys i x d h

pub within-slice_get : {X : Type 0} (xs : List X) (i : ℕ) (x : X) → slice_get xs i ≡ Some x → i < length xs
within-slice_get [] i x h = absurd (cc h)
within-slice_get (y ∷ ys) zero x h = omega arith
within-slice_get (y ∷ ys) (suc i) x h = let less : i < length ys = within-slice_get ys i x h in omega arith

pub take-front : {X : Type 0} (xs ys : List X) (n : ℕ) → n ≡ length xs → take n (xs ++ ys) ≡ xs
take-front [] ys n h = ap (λ m. take m ys) h
take-front (x ∷ xs) ys n h = ap (λ m. take m (x ∷ (xs ++ ys))) h ∙ ap (λ rest. x ∷ rest) (take-front xs ys (length xs) refl)
