-- Decimal numbers without a sign and without leading zeros.
use Rattle.std.specs.Prelude.{ℕ, ◌+◌, ◌*◌, ◌-◌, Bool, false, ◌&&◌, ◌||◌, not, List, [], ◌∷◌, Option, None, Some, length, ◌==◌, nat_eq, nat_le, if◌then◌else◌}
use Rattle.std.specs.List.{list_all}

-- a byte from `0` to `9`
abbrev pub is_digit : ℕ → Bool
is_digit b = nat_le 48 b && nat_le b 57

-- the number whose digits follow those of n
abbrev pub digits_after : ℕ → List ℕ → ℕ
digits_after n [] = n
digits_after n (d ∷ ds) = digits_after (n * 10 + (d - 48)) ds

-- one digit, or several of which the first isn't 0
abbrev pub is_decimal : List ℕ → Bool
is_decimal [] = false
is_decimal (d ∷ ds) = list_all is_digit (d ∷ ds) && (nat_eq (length ds) 0 || not (d == 48))

-- the number that the text spells, where that is at most the given one
unfoldable pub read_decimal : ℕ → List ℕ → Option ℕ
read_decimal most text = if is_decimal text && nat_le (digits_after 0 text) most then Some (digits_after 0 text) else None
