-- What stands before the last `/`, as a walk from the end finds it.
use Rattle.std.proofs.Common.{◌≡◌, ℕ, ◌≤◌, ◌-◌, Bool, true, false, ◌||◌, List, [], ◌∷◌, ◌++◌, length, take, get_or, refl, sym, ap, ◌∙◌, arith}
use Rattle.std.proofs.lemmas.List.{take_more}
use Rattle.std.proofs.lemmas.Grind.{common_steps}
use Rattle.std.specs.Prelude.{if◌then◌else◌}
use Rattle.std.specs.List.{list_any}
use Rattle.dsv_base.specs.Paths.{is_slash, before_last_slash}

or-assoc : (a b c : Bool) → (a || (b || c)) ≡ ((a || b) || c)
or-assoc true b c = refl
or-assoc false b c = refl

or-true : (a : Bool) → (a || true) ≡ true
or-true true = refl
or-true false = refl

or-false : (a : Bool) → (a || false) ≡ a
or-false true = refl
or-false false = refl

any-append : (xs ys : List ℕ) → list_any is_slash (xs ++ ys) ≡ (list_any is_slash xs || list_any is_slash ys)
any-append [] ys = refl
any-append (x ∷ xs) ys = ap (λ b. is_slash x || b) (any-append xs ys) ∙ or-assoc (is_slash x) (list_any is_slash xs) (list_any is_slash ys)

any-slash : (xs : List ℕ) → list_any is_slash (xs ++ 47 ∷ []) ≡ true
any-slash xs = any-append xs (47 ∷ []) ∙ or-true (list_any is_slash xs)

any-other : (xs : List ℕ) (b : ℕ) → is_slash b ≡ false → list_any is_slash (xs ++ b ∷ []) ≡ list_any is_slash xs
any-other xs b other = any-append xs (b ∷ []) ∙ ap (λ c. list_any is_slash xs || (c || false)) other ∙ or-false (list_any is_slash xs)

-- a text that has a `/` within
pub slash_within : (xs rest : List ℕ) → list_any is_slash (xs ++ 47 ∷ rest) ≡ true
slash_within [] rest = refl
slash_within (x ∷ xs) rest = ap (λ b. is_slash x || b) (slash_within xs rest) ∙ or-true (is_slash x)

-- what stands before the last `/` of a text, a `/` and more
pub cut_below : (xs rest : List ℕ) → before_last_slash (xs ++ 47 ∷ rest) ≡ (if list_any is_slash rest then xs ++ 47 ∷ before_last_slash rest else xs)
cut_below [] rest = refl
cut_below (x ∷ xs) rest =
    ap (λ b. if b then x ∷ before_last_slash (xs ++ 47 ∷ rest) else []) (slash_within xs rest)
    ∙ ap (λ front. x ∷ front) (cut_below xs rest)
    ∙ inside (list_any is_slash rest)
  where
    inside : (b : Bool) → x ∷ (if b then xs ++ 47 ∷ before_last_slash rest else xs) ≡ (if b then (x ∷ xs) ++ 47 ∷ before_last_slash rest else x ∷ xs)
    inside true = refl
    inside false = refl

-- a `/` at the end, and nothing before it is lost
pub before_last_slash-slash : (xs : List ℕ) → before_last_slash (xs ++ 47 ∷ []) ≡ xs
before_last_slash-slash [] = refl
before_last_slash-slash (x ∷ xs) =
    ap (λ b. if b then x ∷ before_last_slash (xs ++ 47 ∷ []) else []) (any-slash xs)
    ∙ ap (λ front. x ∷ front) (before_last_slash-slash xs)

-- another byte at the end
pub before_last_slash-other : (xs : List ℕ) (b : ℕ) → is_slash b ≡ false → before_last_slash (xs ++ b ∷ []) ≡ before_last_slash xs
before_last_slash-other [] b other = refl
before_last_slash-other (x ∷ xs) b other =
    ap (λ c. if c then x ∷ before_last_slash (xs ++ b ∷ []) else []) (any-other xs b other)
    ∙ ap (λ front. if list_any is_slash xs then x ∷ front else []) (before_last_slash-other xs b other)

-- the text without its last byte, and that byte
with_last : (front : List ℕ) → 1 ≤ length front → front ≡ take (length front - 1) front ++ get_or front (length front - 1) 0 ∷ []
with_last front h = grind (arith, common_steps, take_more front (length front - 1) 0 (omega arith))

pub stops_at : (front path : List ℕ) → 1 ≤ length front → get_or front (length front - 1) 0 ≡ 47 → before_last_slash front ≡ before_last_slash path → take (length front - 1) front ≡ before_last_slash path
stops_at front path some last same =
    let before = take (length front - 1) front in
    sym (before_last_slash-slash before) ∙ ap (λ b. before_last_slash (before ++ b ∷ [])) (sym last) ∙ ap before_last_slash (sym (with_last front some)) ∙ same

pub goes_on : (front path : List ℕ) → 1 ≤ length front → is_slash (get_or front (length front - 1) 0) ≡ false → before_last_slash front ≡ before_last_slash path → before_last_slash (take (length front - 1) front) ≡ before_last_slash path
goes_on front path some other same =
    let before = take (length front - 1) front in
    sym (before_last_slash-other before (get_or front (length front - 1) 0) other) ∙ ap before_last_slash (sym (with_last front some)) ∙ same
