-- Texts with values, in byte order of the texts.
use Rattle.std.proofs.Common.{◌≡◌, ℕ, Bool, true, false, ◌&&◌, cond, T, List, [], ◌∷◌, ◌++◌, None, Some, map, refl, sym, ap, subst, ◌∙◌}
use Rattle.std.specs.FinMap.{find, is_sorted}
use Rattle.std.specs.FinMap.Entries.{below_all}
use Rattle.std.specs.Ordering.{nat_cmp, is_lt, is_eq, ordering_reverse}
use Rattle.std.specs.declared.cmp.Ordering.{Ordering}
use Rattle.std.specs.declared.cmp.Ordering.TheVariants.{Less, Equal, Greater}
use Rattle.std.specs.Cmp.{tied_itself}
use Rattle.std.specs.Cmp.Lexicographic.{slice_cmp, nat_list_cmp_total}
use Rattle.std.proofs.lemmas.Map.Lookups.{exact_bytes}
use Rattle.rev_nodes.proofs.Search.{first_true, second_true, less_from}

pub both : (a b : Bool) → T a → T b → T (a && b)
both true b p q = q
both false b p q = p

pub T_from : (b : Bool) → b ≡ true → T b
T_from b h = subst T (sym h) tt

pub from_T : (b : Bool) → T b → b ≡ true
from_T true h = refl
from_T false h = absurd h

pub lt_from : (r : Ordering) → r ≡ Less → T (is_lt r)
lt_from r h = subst (λ x. T (is_lt x)) (sym h) tt

pub flipped : (x y : List ℕ) → slice_cmp nat_cmp x y ≡ Greater → slice_cmp nat_cmp y x ≡ Less
flipped x y g = nat_list_cmp_total.antisymm y x ∙ ap ordering_reverse g

pub turned : (x y : List ℕ) → slice_cmp nat_cmp x y ≡ Less → slice_cmp nat_cmp y x ≡ Greater
turned x y g = nat_list_cmp_total.antisymm y x ∙ ap ordering_reverse g

module _ {X : Type 0} where
  pub below_less : (x y : List ℕ) (es : List (List ℕ × X)) → slice_cmp nat_cmp x y ≡ Less → T (below_all (slice_cmp nat_cmp) y es) → T (below_all (slice_cmp nat_cmp) x es)
  below_less x y [] p h = tt
  below_less x y (e ∷ es) p h = both _ _ (lt_from _ (nat_list_cmp_total.trans x y e.0 p (less_from _ (first_true _ _ h)))) (below_less x y es p (second_true _ _ h))

  pub find_below : (q : List ℕ) (es : List (List ℕ × X)) → T (below_all (slice_cmp nat_cmp) q es) → find (slice_cmp nat_cmp) q es ≡ None
  find_below q [] h = refl
  find_below q (e ∷ es) h = ap (λ r. cond (is_eq r) (Some e.1) (find (slice_cmp nat_cmp) q es)) (less_from _ (first_true _ _ h)) ∙ find_below q es (second_true _ _ h)

  pub find_first : (k : List ℕ) (v : X) (es : List (List ℕ × X)) → find (slice_cmp nat_cmp) k ((k, v) ∷ es) ≡ Some v
  find_first k v es = ap (λ r. cond (is_eq r) (Some v) (find (slice_cmp nat_cmp) k es)) (tied_itself nat_list_cmp_total k)

  -- what is found behind a text is behind it
  pub find_less : (x q : List ℕ) (es : List (List ℕ × X)) (v : X) → T (below_all (slice_cmp nat_cmp) x es) → find (slice_cmp nat_cmp) q es ≡ Some v → slice_cmp nat_cmp x q ≡ Less
  find_less x q [] v h e = absurd (cc e)
  find_less x q (f ∷ fs) v h e = by (slice_cmp nat_cmp q f.0) refl e (find_less x q fs v (second_true _ _ h))
    where
      by : (r : Ordering) → slice_cmp nat_cmp q f.0 ≡ r → cond (is_eq r) (Some f.1) (find (slice_cmp nat_cmp) q fs) ≡ Some v → (find (slice_cmp nat_cmp) q fs ≡ Some v → slice_cmp nat_cmp x q ≡ Less) → slice_cmp nat_cmp x q ≡ Less
      by Less t g go = go g
      by Equal t g go = subst (λ y. slice_cmp nat_cmp x y ≡ Less) (sym (exact_bytes q f.0 t)) (less_from _ (first_true _ _ h))
      by Greater t g go = go g

  pub below_one : (x k : List ℕ) (v : X) (front back : List (List ℕ × X)) → T (below_all (slice_cmp nat_cmp) x (front ++ (k, v) ∷ back)) → slice_cmp nat_cmp x k ≡ Less
  below_one x k v [] back h = less_from _ (first_true _ _ h)
  below_one x k v (g ∷ gs) back h = below_one x k v gs back (second_true _ _ h)

  -- what stands behind a text in a list in order is found there alone
  pub find_behind : (front back : List (List ℕ × X)) (k q : List ℕ) (v : X) → T (is_sorted (slice_cmp nat_cmp) (front ++ (k, v) ∷ back)) → slice_cmp nat_cmp k q ≡ Less → find (slice_cmp nat_cmp) q (front ++ (k, v) ∷ back) ≡ find (slice_cmp nat_cmp) q back
  find_behind [] back k q v s less = ap (λ r. cond (is_eq r) (Some v) (find (slice_cmp nat_cmp) q back)) (turned k q less)
  find_behind (f ∷ fs) back k q v s less =
      ap (λ r. cond (is_eq r) (Some f.1) (find (slice_cmp nat_cmp) q (fs ++ (k, v) ∷ back))) (turned f.0 q (nat_list_cmp_total.trans f.0 k q (below_one f.0 k v fs back (first_true _ _ s)) less))
      ∙ find_behind fs back k q v (second_true _ _ s) less

  pub find_between : (front back : List (List ℕ × X)) (k : List ℕ) (v : X) → T (is_sorted (slice_cmp nat_cmp) (front ++ (k, v) ∷ back)) → find (slice_cmp nat_cmp) k (front ++ (k, v) ∷ back) ≡ Some v
  find_between [] back k v s = find_first k v back
  find_between (f ∷ fs) back k v s =
      ap (λ r. cond (is_eq r) (Some f.1) (find (slice_cmp nat_cmp) k (fs ++ (k, v) ∷ back))) (turned f.0 k (below_one f.0 k v fs back (first_true _ _ s)))
      ∙ find_between fs back k v (second_true _ _ s)

  pub sorted_end : (front : List (List ℕ × X)) (back : List (List ℕ × X)) → T (is_sorted (slice_cmp nat_cmp) (front ++ back)) → T (is_sorted (slice_cmp nat_cmp) back)
  sorted_end [] back s = s
  sorted_end (f ∷ fs) back s = sorted_end fs back (second_true _ _ s)

-- the order is one of the texts alone
module _ {X Y : Type 0} where
  pub below_texts : (x : List ℕ) (es : List (List ℕ × X)) (fs : List (List ℕ × Y)) → map (λ e. e.0) es ≡ map (λ f. f.0) fs → below_all (slice_cmp nat_cmp) x es ≡ below_all (slice_cmp nat_cmp) x fs
  below_texts x [] [] h = refl
  below_texts x [] (f ∷ fs) h = absurd (cc h)
  below_texts x (e ∷ es) [] h = absurd (cc h)
  below_texts x (e ∷ es) (f ∷ fs) h =
      let here : e.0 ≡ f.0 = cc in
      let rest : map (λ (e : List ℕ × X). e.0) es ≡ map (λ (f : List ℕ × Y). f.0) fs = cc in
      ap (λ y. is_lt (slice_cmp nat_cmp x y) && below_all (slice_cmp nat_cmp) x es) here ∙ ap (λ b. is_lt (slice_cmp nat_cmp x f.0) && b) (below_texts x es fs rest)

  pub sorted_texts : (es : List (List ℕ × X)) (fs : List (List ℕ × Y)) → map (λ e. e.0) es ≡ map (λ f. f.0) fs → is_sorted (slice_cmp nat_cmp) es ≡ is_sorted (slice_cmp nat_cmp) fs
  sorted_texts [] [] h = refl
  sorted_texts [] (f ∷ fs) h = absurd (cc h)
  sorted_texts (e ∷ es) [] h = absurd (cc h)
  sorted_texts (e ∷ es) (f ∷ fs) h =
      let here : e.0 ≡ f.0 = cc in
      let rest : map (λ (e : List ℕ × X). e.0) es ≡ map (λ (f : List ℕ × Y). f.0) fs = cc in
      ap (λ y. below_all (slice_cmp nat_cmp) y es && is_sorted (slice_cmp nat_cmp) es) here
      ∙ ap (λ b. b && is_sorted (slice_cmp nat_cmp) es) (below_texts f.0 es fs rest)
      ∙ ap (λ b. below_all (slice_cmp nat_cmp) f.0 fs && b) (sorted_texts es fs rest)
