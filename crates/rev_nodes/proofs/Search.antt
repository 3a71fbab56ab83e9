-- What a search among entries in order finds, and what an entry put there makes of them.
use Rattle.std.proofs.Common.{◌≡◌, ℕ, zero, suc, ◌<◌, ◌≤◌, Bool, true, false, ◌&&◌, cond, T, List, [], ◌∷◌, None, Some, length, get_or, set, refl, sym, ap, ◌∙◌, arith}
use Rattle.std.specs.List.{insert}
use Rattle.std.specs.Ordering.{is_lt, is_eq, ordering_reverse, ordering_index}
use Rattle.std.specs.declared.cmp.Ordering.{Ordering}
use Rattle.std.specs.declared.cmp.Ordering.TheVariants.{Less, Equal, Greater}
use Rattle.std.specs.Cmp.{IsTotalOrder}
use Rattle.std.specs.FinMap.Entries.{find, put, is_sorted, below_all, by_order}

pub first_true : (a b : Bool) → T (a && b) → T a
first_true true b h = tt
first_true false b h = absurd h

pub second_true : (a b : Bool) → T (a && b) → T b
second_true true b h = h
second_true false b h = absurd h

pub less_from : (r : Ordering) → T (is_lt r) → r ≡ Less
less_from Less h = refl
less_from Equal h = absurd h
less_from Greater h = absurd h

module _ {K : Type 0} (R : K → K → Ordering) (o : IsTotalOrder R) where
  reversed : (x y : K) (r : Ordering) → R x y ≡ r → R y x ≡ ordering_reverse r
  reversed x y r e = o.antisymm y x ∙ ap ordering_reverse e

  rank_less : (x y z : K) → R x y ≡ Less → (r : Ordering) → R x z ≡ r → ordering_index r ≤ ordering_index (R y z)
  rank_less x y z less Less e = omega arith
  rank_less x y z less Equal e =
      let tied : R x y ≡ R z y = o.congr x z y e in
      let same : R y z ≡ Greater = reversed z y Less (sym tied ∙ less) in
      rw same (omega arith)
  rank_less x y z less Greater e =
      let below : R z x ≡ Less = reversed x z Greater e in
      let far : R y z ≡ Greater = reversed z y Less (o.trans z x y below less) in
      rw far (omega arith)

module _ {K X : Type 0} (R : K → K → Ordering) (o : IsTotalOrder R) where
  -- a key below all is below each
  below_each : (x : K) (es : List (K × X)) (i : ℕ) (d : K × X) → T (below_all R x es) → i < length es → R x (get_or es i d).0 ≡ Less
  below_each x [] i d h within = absurd (omega arith)
  below_each x (e ∷ es) zero d h within = less_from _ (first_true _ _ h)
  below_each x (e ∷ es) (suc i) d h within = below_each x es i d (second_true _ _ h) (omega arith)

  -- keys rise with their index
  pub rising : (es : List (K × X)) (i j : ℕ) (d : K × X) → T (is_sorted R es) → i < j → j < length es → R (get_or es i d).0 (get_or es j d).0 ≡ Less
  rising [] i j d h before within = absurd (omega arith)
  rising (e ∷ es) zero zero d h before within = absurd (omega arith)
  rising (e ∷ es) zero (suc j) d h before within = below_each e.0 es j d (first_true _ _ h) (omega arith)
  rising (e ∷ es) (suc i) zero d h before within = absurd (omega arith)
  rising (e ∷ es) (suc i) (suc j) d h before within = rising es i j d (second_true _ _ h) (omega arith) (omega arith)

  put_past : (k : K) (v : X) (e : K × X) (es : List (K × X)) → R e.0 k ≡ Less → put R k v (e ∷ es) ≡ e ∷ put R k v es
  put_past k v e es less = ap (λ r. by_order r ((k, v) ∷ e ∷ es) ((e.0, v) ∷ es) (e ∷ put R k v es)) (reversed R o e.0 k Less less)

  find_past : (k : K) (e : K × X) (es : List (K × X)) → R e.0 k ≡ Less → find R k (e ∷ es) ≡ find R k es
  find_past k e es less = ap (λ r. cond (is_eq r) (Some e.1) (find R k es)) (reversed R o e.0 k Less less)

  -- an entry whose key ties with k is found, and a new value takes its place
  pub find_here : (k : K) (es : List (K × X)) (i : ℕ) (d : K × X) → T (is_sorted R es) → i < length es → R (get_or es i d).0 k ≡ Equal → find R k es ≡ Some (get_or es i d).1
  find_here k [] i d h within tied = absurd (omega arith)
  find_here k (e ∷ es) zero d h within tied = ap (λ r. cond (is_eq r) (Some e.1) (find R k es)) (reversed R o e.0 k Equal tied)
  find_here k (e ∷ es) (suc i) d h within tied =
      let later : R (get_or es i d).0 e.0 ≡ Greater = reversed R o _ _ Less (below_each e.0 es i d (first_true _ _ h) (omega arith)) in
      let past : R k e.0 ≡ Greater = sym (o.congr (get_or es i d).0 k e.0 tied) ∙ later in
      find_past k e es (reversed R o k e.0 Greater past) ∙ find_here k es i d (second_true _ _ h) (omega arith) tied

  pub put_here : (k : K) (v : X) (es : List (K × X)) (i : ℕ) (d : K × X) → T (is_sorted R es) → i < length es → R (get_or es i d).0 k ≡ Equal → put R k v es ≡ set es i ((get_or es i d).0, v)
  put_here k v [] i d h within tied = absurd (omega arith)
  put_here k v (e ∷ es) zero d h within tied = ap (λ r. by_order r ((k, v) ∷ e ∷ es) ((e.0, v) ∷ es) (e ∷ put R k v es)) (reversed R o e.0 k Equal tied)
  put_here k v (e ∷ es) (suc i) d h within tied =
      let later : R (get_or es i d).0 e.0 ≡ Greater = reversed R o _ _ Less (below_each e.0 es i d (first_true _ _ h) (omega arith)) in
      let past : R k e.0 ≡ Greater = sym (o.congr (get_or es i d).0 k e.0 tied) ∙ later in
      put_past k v e es (reversed R o k e.0 Greater past) ∙ ap (λ others. e ∷ others) (put_here k v es i d (second_true _ _ h) (omega arith) tied)

  -- the keys before the index are below k, and those from it on are above
  pub record IsGap (k : K) (es : List (K × X)) (i : ℕ) : Type 0 where
    pub below : (j : ℕ) (d : K × X) → j < i → j < length es → R (get_or es j d).0 k ≡ Less
    pub above : (j : ℕ) (d : K × X) → i ≤ j → j < length es → R (get_or es j d).0 k ≡ Greater

  rest_gap : (k : K) (e : K × X) (es : List (K × X)) (i : ℕ) → IsGap k (e ∷ es) (suc i) → IsGap k es i
  rest_gap k e es i gap = record {
    below = λ j d before within. gap.below (suc j) d (omega arith) (omega arith);
    above = λ j d after within. gap.above (suc j) d (omega arith) (omega arith);
  }

  rest_above : (k : K) (e : K × X) (es : List (K × X)) → IsGap k (e ∷ es) zero → IsGap k es zero
  rest_above k e es gap = record {
    below = λ j d before within. absurd (omega arith);
    above = λ j d after within. gap.above (suc j) d (omega arith) (omega arith);
  }

  -- nothing is found in a gap, and a new entry stands there
  pub find_gap : (k : K) (es : List (K × X)) (i : ℕ) → IsGap k es i → find R k es ≡ None
  find_gap k [] i gap = refl
  find_gap k (e ∷ es) zero gap =
      ap (λ r. cond (is_eq r) (Some e.1) (find R k es)) (reversed R o e.0 k Greater (gap.above 0 e (omega arith) (omega arith)))
      ∙ find_gap k es zero (rest_above k e es gap)
  find_gap k (e ∷ es) (suc i) gap = find_past k e es (gap.below 0 e (omega arith) (omega arith)) ∙ find_gap k es i (rest_gap k e es i gap)

  pub put_gap : (k : K) (v : X) (es : List (K × X)) (i : ℕ) → i ≤ length es → IsGap k es i → put R k v es ≡ insert es i (k, v)
  put_gap k v [] zero within gap = refl
  put_gap k v [] (suc i) within gap = absurd (omega arith)
  put_gap k v (e ∷ es) zero within gap =
      ap (λ r. by_order r ((k, v) ∷ e ∷ es) ((e.0, v) ∷ es) (e ∷ put R k v es)) (reversed R o e.0 k Greater (gap.above 0 e (omega arith) (omega arith)))
  put_gap k v (e ∷ es) (suc i) within gap =
      put_past k v e es (gap.below 0 e (omega arith) (omega arith)) ∙ ap (λ others. e ∷ others) (put_gap k v es i (omega arith) (rest_gap k e es i gap))

  -- comparisons with k rise along the entries, as a binary search asks
  pub comparisons_rise : (k : K) (es : List (K × X)) (d : K × X) → T (is_sorted R es) → (i j : ℕ) → i < j → j < length es → ordering_index (R (get_or es i d).0 k) ≤ ordering_index (R (get_or es j d).0 k)
  comparisons_rise k es d h i j before within = rank_less R o _ _ k (rising es i j d h before within) (R (get_or es i d).0 k) refl
