-- References, by what stands between `&` and `;` (XML 1.0, sections 2.2, 4.1 and 4.6).
use Rattle.std.specs.Prelude.{ℕ, ◌+◌, ◌*◌, ◌-◌, Bool, cond, ◌&&◌, ◌||◌, List, [], ◌∷◌, Option, Some, None, option_and_then, ◌==◌, nat_le, codes}
use Rattle.std.specs.Str.{bytes_eq}
use Rattle.std.specs.Char.{encode_utf8}

-- a character that a document may have
abbrev pub is_xml_char : ℕ → Bool
is_xml_char n = n == 9 || n == 10 || n == 13 || (nat_le 32 n && nat_le n 55295) || (nat_le 57344 n && nat_le n 65533) || (nat_le 65536 n && nat_le n 1114111)

-- the number that goes on with decimal digits; none from where it is past all characters
abbrev pub decimal_after : ℕ → List ℕ → Option ℕ
decimal_after n [] = Some n
decimal_after n (b ∷ bs) = cond (nat_le 48 b && nat_le b 57 && nat_le n 1114111) (decimal_after (10 * n + (b - 48)) bs) None

-- the value of a hexadecimal digit
abbrev pub hex_value : ℕ → Option ℕ
hex_value b = cond (nat_le 48 b && nat_le b 57) (Some (b - 48))
    (cond (nat_le 65 b && nat_le b 70) (Some (b - 55))
    (cond (nat_le 97 b && nat_le b 102) (Some (b - 87)) None))

-- the number with one hexadecimal digit more; none where it is past all characters before
abbrev pub with_hex : ℕ → Option ℕ → Option ℕ
with_hex n None = None
with_hex n (Some digit) = cond (nat_le n 1114111) (Some (16 * n + digit)) None

-- the number that goes on with hexadecimal digits
abbrev pub hex_after : ℕ → List ℕ → Option ℕ
hex_after n [] = Some n
hex_after n (b ∷ bs) = option_and_then (λ next. hex_after next bs) (with_hex n (hex_value b))

-- the number of one digit or more
abbrev pub some_decimal : List ℕ → Option ℕ
some_decimal [] = None
some_decimal (b ∷ bs) = decimal_after 0 (b ∷ bs)

-- the number of one hexadecimal digit or more
abbrev pub some_hex : List ℕ → Option ℕ
some_hex [] = None
some_hex (b ∷ bs) = hex_after 0 (b ∷ bs)

-- the number behind `#`: hexadecimal behind an `x`
abbrev pub char_number : List ℕ → Option ℕ
char_number [] = None
char_number (b ∷ bs) = cond (b == 120) (some_hex bs) (some_decimal (b ∷ bs))

-- a character's bytes
unfoldable pub char_bytes : ℕ → Option (List ℕ)
char_bytes n = cond (is_xml_char n) (Some (encode_utf8 n)) None

-- a character by its number
abbrev pub char_referred : List ℕ → Option (List ℕ)
char_referred [] = None
char_referred (b ∷ bs) = cond (b == 35) (option_and_then char_bytes (char_number bs)) None

-- the bytes for which a reference stands: one of the five named entities, or a character by its number
unfoldable pub referred : List ℕ → Option (List ℕ)
referred word = cond (bytes_eq word (codes "amp")) (Some (codes "&"))
    (cond (bytes_eq word (codes "lt")) (Some (codes "<"))
    (cond (bytes_eq word (codes "gt")) (Some (codes ">"))
    (cond (bytes_eq word (codes "quot")) (Some (codes "\""))
    (cond (bytes_eq word (codes "apos")) (Some (codes "'"))
    (char_referred word)))))
