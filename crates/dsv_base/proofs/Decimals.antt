-- Numbers in decimal, as they are written and read.
use Rattle.std.proofs.Common.{◌≡◌, ℕ, zero, suc, ◌+◌, ◌-◌, ◌*◌, ◌/◌, ◌%◌, ◌^◌, ◌<◌, ◌≤◌, Bool, true, false, ◌&&◌, List, [], ◌∷◌, ◌++◌, None, Some, get_or, nat_le, refl, ap, ◌∙◌, arith, lit<}
use Rattle.std.specs.Prelude.{if◌then◌else◌}
use Rattle.std.specs.List.{list_all, list_any}
use Rattle.std.specs.Fmt.{decimal}
use Rattle.std.proofs.lemmas.Bool.{and_from, and_parts, or_from, le-leb}
use Rattle.std.proofs.lemmas.Bool.Decides.{nat_tests}
use Rattle.std.proofs.lemmas.Fmt.{decimal_by_steps, decimal_digit, first_decimal}
use Rattle.std.proofs.lemmas.List.Folds.{list_all-append}
use Rattle.dsv_base.specs.Numbers.{read_decimal, is_decimal, is_digit, digits_after}

digits_after-push : (xs : List ℕ) (n d : ℕ) → digits_after n (xs ++ d ∷ []) ≡ digits_after n xs * 10 + (d - 48)
digits_after-push [] n d = refl
digits_after-push (x ∷ xs) n d = digits_after-push xs (n * 10 + (x - 48)) d

-- digits, and the number that they spell
pub record Spells (n : ℕ) (ds : List ℕ) : Type 0 where
  pub digits : list_all is_digit ds ≡ true
  pub number : digits_after 0 ds ≡ n

one_digit : (n : ℕ) → n < 10 → Spells n ((48 + n) ∷ [])
one_digit n small = record { digits = grind (arith, nat_tests); number = omega arith }

more_digits : (n : ℕ) (ds : List ℕ) → 10 ≤ n → Spells (n / 10) ds → Spells n (ds ++ (48 + n % 10) ∷ [])
more_digits n ds large h =
    let last : (is_digit (48 + n % 10) && true) ≡ true = grind (arith, nat_tests) in
    let number : digits_after 0 ds * 10 + ((48 + n % 10) - 48) ≡ n = rw h.number (omega arith) in
    record {
      digits = list_all-append is_digit ds ((48 + n % 10) ∷ []) ∙ and_from _ _ h.digits last;
      number = digits_after-push ds 0 (48 + n % 10) ∙ number;
    }

pub spells : (n : ℕ) → n < 2 ^ 64 → Spells n (decimal n)
spells = decimal_by_steps Spells one_digit more_digits

-- digits of which the first isn't 0 are a number's text
no_zero : (ds : List ℕ) → list_all is_digit ds ≡ true → 48 < get_or ds 0 0 → is_decimal ds ≡ true
no_zero [] all first = absurd (omega arith)
no_zero (d ∷ ds) all first = and_from (list_all is_digit (d ∷ ds)) _ all (grind (arith, nat_tests))

written_is_decimal : (n : ℕ) → n < 2 ^ 64 → is_decimal (decimal n) ≡ true
written_is_decimal zero small = ap is_decimal (decimal_digit 0 (lit< tt))
written_is_decimal (suc n) small = no_zero (decimal (suc n)) (spells (suc n) small).digits (first_decimal (suc n) (omega arith) small)

-- what is written is read back
pub read_back : (most n : ℕ) → n ≤ most → n < 2 ^ 64 → read_decimal most (decimal n) ≡ Some n
unfolding read_decimal
read_back most n few small =
    let number : digits_after 0 (decimal n) ≡ n = (spells n small).number in
    let within : (is_decimal (decimal n) && nat_le (digits_after 0 (decimal n)) most) ≡ true = and_from _ _ (written_is_decimal n small) (ap (λ m. nat_le m most) number ∙ le-leb n most few) in
    ap (λ b. if b then Some (digits_after 0 (decimal n)) else None) within ∙ ap Some number

-- no byte of a kind that no digit is of
no_such_digit : (p : ℕ → Bool) → ((b : ℕ) → is_digit b ≡ true → p b ≡ false) → (ds : List ℕ) → list_all is_digit ds ≡ true → list_any p ds ≡ false
no_such_digit p none [] all = refl
no_such_digit p none (d ∷ ds) all =
    let parts = and_parts (is_digit d) (list_all is_digit ds) all in
    or_from (p d) (list_any p ds) (none d parts.0) (no_such_digit p none ds parts.1)

pub not_in_written : (p : ℕ → Bool) → ((b : ℕ) → is_digit b ≡ true → p b ≡ false) → (n : ℕ) → n < 2 ^ 64 → list_any p (decimal n) ≡ false
not_in_written p none n small = no_such_digit p none (decimal n) (spells n small).digits
