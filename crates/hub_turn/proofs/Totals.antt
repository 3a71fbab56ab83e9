-- Sums over the views of a table.
use Rattle.std.proofs.Common.{◌≡◌, ◌≢◌, ℕ, zero, suc, ◌+◌, ◌≤◌, ◌<◌, List, [], ◌∷◌, ◌++◌, set, sym, refl, ap, subst, arith, ⊎_elim}
use mathlib.Core.Option.{some, some-injective, some-ne-none}
use lib.ListN.{get_elem?}
use Rattle.atomic_table.proofs.Lists.{at_set}
use Rattle.hub_turn.specs.Views.{SeatView, total}

module _ (f : SeatView → ℕ) where
  pub total-set : (vs : List SeatView) (i : ℕ) (v w : SeatView) → get_elem? vs i ≡ some v → total f (set vs i w) + f v ≡ total f vs + f w
  total-set [] i v w e = absurd (some-ne-none v (sym e))
  total-set (x ∷ xs) zero v w e = let h : f x ≡ f v = ap f (some-injective x v e) in omega arith
  total-set (x ∷ xs) (suc i) v w e = omega (arith, total-set xs i v w e)

  pub total-snoc : (vs : List SeatView) (w : SeatView) → total f (vs ++ w ∷ []) ≡ total f vs + f w
  total-snoc [] w = omega arith
  total-snoc (x ∷ xs) w = omega (arith, total-snoc xs w)

  pub term_le : (vs : List SeatView) (i : ℕ) (v : SeatView) → get_elem? vs i ≡ some v → f v ≤ total f vs
  term_le [] i v e = absurd (some-ne-none v (sym e))
  term_le (x ∷ xs) zero v e = let h : f x ≡ f v = ap f (some-injective x v e) in omega arith
  term_le (x ∷ xs) (suc i) v e = omega (arith, term_le xs i v e)

  -- two views count both
  pub two_le : (vs : List SeatView) (i j : ℕ) (v w : SeatView) → i ≢ j → get_elem? vs i ≡ some v → get_elem? vs j ≡ some w → f v + f w ≤ total f vs
  two_le [] i j v w ne e d = absurd (some-ne-none v (sym e))
  two_le (x ∷ xs) zero zero v w ne e d = absurd (ne refl)
  two_le (x ∷ xs) zero (suc j) v w ne e d = let h : f x ≡ f v = ap f (some-injective x v e) in omega (arith, term_le xs j w d)
  two_le (x ∷ xs) (suc i) zero v w ne e d = let h : f x ≡ f w = ap f (some-injective x w d) in omega (arith, term_le xs i v e)
  two_le (x ∷ xs) (suc i) (suc j) v w ne e d = omega (arith, two_le xs i j v w (λ s. ne (ap suc s)) e d)

  module _ (g : SeatView → ℕ) where
    pub total_le : (vs : List SeatView) → ((i : ℕ) (v : SeatView) → get_elem? vs i ≡ some v → f v ≤ g v) → total f vs ≤ total g vs
    total_le [] h = omega arith
    total_le (x ∷ xs) h = omega (arith, h 0 x refl, total_le xs (λ i v e. h (suc i) v e))

    -- where one is less at one view
    pub total_lt : (vs : List SeatView) (i : ℕ) (v : SeatView) → ((j : ℕ) (u : SeatView) → get_elem? vs j ≡ some u → f u ≤ g u) → get_elem? vs i ≡ some v → f v < g v → total f vs < total g vs
    total_lt [] i v h e l = absurd (some-ne-none v (sym e))
    total_lt (x ∷ xs) zero v h e l =
        let p : f x ≡ f v = ap f (some-injective x v e) in
        let q : g x ≡ g v = ap g (some-injective x v e) in
        omega (arith, total_le xs (λ j u d. h (suc j) u d))
    total_lt (x ∷ xs) (suc i) v h e l = omega (arith, h 0 x refl, total_lt xs i v (λ j u d. h (suc j) u d) e l)

-- what holds of the new view and of all others
pub each_set : (P : SeatView → Type 0) (vs : List SeatView) (i : ℕ) (w : SeatView) → P w → ((j : ℕ) (u : SeatView) → j ≢ i → get_elem? vs j ≡ some u → P u)
    → (j : ℕ) (u : SeatView) → get_elem? (set vs i w) j ≡ some u → P u
each_set P vs i w mine others j u e = ⊎_elim (λ (t : (j ≡ i) × (w ≡ u)). subst P t.1 mine) (λ (t : (j ≢ i) × (get_elem? vs j ≡ some u)). others j u t.0 t.1) (at_set vs i j w u e)

-- where a sum is at most another at each view, and one view has all of the other, nothing else has any of the first
pub alone_le : (f g : SeatView → ℕ) (vs : List SeatView) (i : ℕ) (v : SeatView) → ((j : ℕ) (u : SeatView) → get_elem? vs j ≡ some u → f u ≤ g u) → get_elem? vs i ≡ some v → total f vs + g v ≤ total g vs + f v
alone_le f g [] i v h e = absurd (some-ne-none v (sym e))
alone_le f g (x ∷ xs) zero v h e =
    let p : f x ≡ f v = ap f (some-injective x v e) in
    let q : g x ≡ g v = ap g (some-injective x v e) in
    omega (arith, total_le f g xs (λ j u d. h (suc j) u d))
alone_le f g (x ∷ xs) (suc i) v h e = omega (arith, h 0 x refl, alone_le f g xs i v (λ j u d. h (suc j) u d) e)
