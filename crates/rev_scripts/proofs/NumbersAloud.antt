-- A number that is read is spelled as it is written.
use Rattle.std.proofs.Common.{◌≡◌, ℕ, zero, suc, ◌+◌, ◌-◌, ◌*◌, ◌/◌, ◌%◌, ◌^◌, ◌<◌, ◌≤◌, Bool, true, false, ◌&&◌, ◌||◌, not, List, [], ◌∷◌, ◌++◌, Option, None, Some, Result, Ok, Err, length, nat_eq, nat_le, refl, sym, ap, ◌∙◌, arith}
use Rattle.std.specs.Prelude.{◌==◌, if◌then◌else◌}
use Rattle.std.specs.List.{list_all}
use Rattle.std.specs.Fmt.{decimal}
use Rattle.std.proofs.lemmas.Bool.{and_parts}
use Rattle.std.proofs.lemmas.Bool.Decides.{nat_tests}
use Rattle.std.proofs.lemmas.Fmt.{decimal_by_steps}
use Rattle.std.proofs.lemmas.List.Folds.{list_all-append}
use Rattle.dsv_base.specs.Numbers.{is_digit, is_decimal, digits_after, read_decimal}
use Rattle.rev_scripts.specs.declared.item_fault.ItemFault.{ItemFault}
use Rattle.rev_scripts.specs.Steps.{or_bad, number_from}

at_least : (m n : ℕ) → nat_le m n ≡ true → m ≤ n
at_least m n h = grind (arith, nat_tests)

digits_after-push : (xs : List ℕ) (n d : ℕ) → digits_after n (xs ++ d ∷ []) ≡ digits_after n xs * 10 + (d - 48)
digits_after-push [] n d = refl
digits_after-push (x ∷ xs) n d = digits_after-push xs (n * 10 + (x - 48)) d

grows : (m : ℕ) (ds : List ℕ) → m ≤ digits_after m ds
grows m [] = omega arith
grows m (d ∷ ds) = let more = grows (m * 10 + (d - 48)) ds in omega (arith, more)

-- the last element apart
pushed : (y : ℕ) (rest : List ℕ) → (front : List ℕ) × (last : ℕ) × (y ∷ rest ≡ front ++ last ∷ [])
pushed y [] = ([], y, refl)
pushed y (z ∷ rest) = let p = pushed z rest in (y ∷ p.0, p.1, ap (λ t. y ∷ t) p.2)

some_length : (n : ℕ) (b : Bool) → (nat_eq (suc n) 0 || b) ≡ true → b ≡ true
some_length n true h = refl
some_length n false h = grind (arith, nat_tests)

or_true : (a : Bool) → (a || true) ≡ true
or_true true = refl
or_true false = refl

other_first : (d : ℕ) → not (d == 48) ≡ true → 48 ≤ d → 49 ≤ d
other_first d h low = grind (arith, nat_tests)

tenth : (x l n : ℕ) → 48 ≤ l → l ≤ 57 → x * 10 + (l - 48) ≡ n → (x ≡ n / 10) × (l ≡ 48 + n % 10)
tenth x l n low high sum = (omega (arith, low, high, sum), omega (arith, low, high, sum))

-- every numeral of the number is this text
abbrev IsSpelling : ℕ → List ℕ → Type 0
IsSpelling n ds = (text : List ℕ) → is_decimal text ≡ true → digits_after 0 text ≡ n → text ≡ ds

alone : (n d : ℕ) → 48 ≤ d → d - 48 ≡ n → d ≡ 48 + n
alone n d low e = omega (arith, low, e)

one_digit : (n : ℕ) → n < 10 → IsSpelling n ((48 + n) ∷ [])
one_digit n small [] is value = absurd (cc)
one_digit n small (d ∷ []) is value =
    let p = and_parts (is_digit d && true) _ is in
    let digit = and_parts (nat_le 48 d) (nat_le d 57) (and_parts (is_digit d) true p.0).0 in
    let low = at_least 48 d digit.0 in
    let number : d - 48 ≡ n = omega (arith, value) in
    ap (λ b. b ∷ []) (alone n d low number)
one_digit n small (d ∷ e ∷ rest) is value =
    let p = and_parts (list_all is_digit (d ∷ e ∷ rest)) (nat_eq (suc (length rest)) 0 || not (d == 48)) is in
    let digit = and_parts (nat_le 48 d) (nat_le d 57) (and_parts (is_digit d) (list_all is_digit (e ∷ rest)) p.0).0 in
    let low = other_first d (some_length (length rest) (not (d == 48)) p.1) (at_least 48 d digit.0) in
    let more = grows ((0 * 10 + (d - 48)) * 10 + (e - 48)) rest in
    absurd (omega (arith, low, more, value, small))

more_digits : (n : ℕ) (ds : List ℕ) → 10 ≤ n → IsSpelling (n / 10) ds → IsSpelling n (ds ++ (48 + n % 10) ∷ [])
more_digits n ds large go [] is value = absurd (cc)
more_digits n ds large go (d ∷ []) is value =
    let p = and_parts (is_digit d && true) _ is in
    let digit = and_parts (nat_le 48 d) (nat_le d 57) (and_parts (is_digit d) true p.0).0 in
    let high = at_least d 57 digit.1 in
    let number : d - 48 ≡ n = omega (arith, value) in
    absurd (omega (arith, high, number, large))
more_digits n ds large go (d ∷ e ∷ rest) is value =
    let q = pushed e rest in
    let text_is : d ∷ e ∷ rest ≡ (d ∷ q.0) ++ q.1 ∷ [] = ap (λ t. d ∷ t) q.2 in
    let p = and_parts (list_all is_digit (d ∷ e ∷ rest)) (nat_eq (suc (length rest)) 0 || not (d == 48)) is in
    let all : (list_all is_digit (d ∷ q.0) && (is_digit q.1 && true)) ≡ true = sym (list_all-append is_digit (d ∷ q.0) (q.1 ∷ [])) ∙ ap (list_all is_digit) (sym text_is) ∙ p.0 in
    let split = and_parts (list_all is_digit (d ∷ q.0)) (is_digit q.1 && true) all in
    let digit = and_parts (nat_le 48 q.1) (nat_le q.1 57) (and_parts (is_digit q.1) true split.1).0 in
    let nonzero = some_length (length rest) (not (d == 48)) p.1 in
    let front_is : is_decimal (d ∷ q.0) ≡ true = λ i. split.0 i && (ap (λ b. nat_eq (length q.0) 0 || b) nonzero ∙ or_true (nat_eq (length q.0) 0)) i in
    let sum : digits_after 0 (d ∷ q.0) * 10 + (q.1 - 48) ≡ n = sym (digits_after-push (d ∷ q.0) 0 q.1) ∙ ap (digits_after 0) (sym text_is) ∙ value in
    let parts = tenth (digits_after 0 (d ∷ q.0)) q.1 n (at_least 48 q.1 digit.0) (at_least q.1 57 digit.1) sum in
    text_is ∙ (λ i. go (d ∷ q.0) front_is parts.0 i ++ parts.1 i ∷ [])

spelled : (n : ℕ) → n < 2 ^ 64 → IsSpelling n (decimal n)
spelled = decimal_by_steps IsSpelling one_digit more_digits

pub number_aloud : (most n : ℕ) (text : List ℕ) → most < 2 ^ 64 → number_from most text ≡ Ok n → text ≡ decimal n
unfolding read_decimal
number_aloud most n text small e = by (is_decimal text) refl (nat_le (digits_after 0 text) most) refl e
  where
    by : (is : Bool) → is_decimal text ≡ is → (low : Bool) → nat_le (digits_after 0 text) most ≡ low → or_bad (if is && low then Some (digits_after 0 text) else None) ≡ Ok n → text ≡ decimal n
    by true is true low e =
        let value : digits_after 0 text ≡ n = cc in
        let few = at_least (digits_after 0 text) most low in
        spelled n (omega (arith, few, small, value)) text is value
    by true is false low e = absurd (cc)
    by false is low h e = absurd (cc)
