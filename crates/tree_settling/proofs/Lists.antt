-- A list that is read from its end.
use Rattle.std.proofs.Common.{◌≡◌, ℕ, ◌+◌, ◌-◌, ◌≤◌, List, [], ◌∷◌, ◌++◌, length, take, get_or, reverse, sym, ap, ◌∙◌, arith}
use Rattle.std.proofs.lemmas.List.{take_more, reverse-append}

module _ {X : Type 0} where
  -- the front of a list is what stands before its last item, and that
  pub with_last : (xs : List X) (n : ℕ) (x : X) → 1 ≤ n → n ≤ length xs → x ≡ get_or xs (n - 1) x → take n xs ≡ take (n - 1) xs ++ x ∷ []
  with_last xs n x some within is =
      let less : n - 1 + 1 ≡ n = omega (arith, some) in
      ap (λ k. take k xs) (sym less) ∙ take_more xs (n - 1) x (omega (arith, some, within)) ∙ ap (λ y. take (n - 1) xs ++ y ∷ []) (sym is)

  pub reversed-push : (xs : List X) (x : X) → reverse (xs ++ x ∷ []) ≡ x ∷ reverse xs
  reversed-push xs x = reverse-append xs (x ∷ [])

  pub last_first : (xs : List X) (n : ℕ) (x : X) → 1 ≤ n → n ≤ length xs → x ≡ get_or xs (n - 1) x → reverse (take n xs) ≡ x ∷ reverse (take (n - 1) xs)
  last_first xs n x some within is = ap reverse (with_last xs n x some within is) ∙ reversed-push (take (n - 1) xs) x
