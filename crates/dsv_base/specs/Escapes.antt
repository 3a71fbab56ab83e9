-- How bytes are written inside XML and inside a URL.
use Rattle.std.specs.Prelude.{ℕ, ◌+◌, ◌/◌, ◌%◌, Bool, not, ◌&&◌, ◌||◌, List, [], ◌∷◌, ◌==◌, nat_lt, nat_le, codes, if◌then◌else◌}
use Rattle.std.specs.List.{flat_map, list_all}
use Rattle.std.specs.Char.{is_ascii_alphanumeric}
use Rattle.std.specs.Str.{is_utf8}
use Rattle.dsv_base.specs.Paths.{has_noncharacter}

-- `&`, `<`, `>` and `"`, which have a meaning in XML, and CR, which its reader would make a line feed; any other byte stays
abbrev pub xml_escape : ℕ → List ℕ
xml_escape b =
    if b == 38 then codes "&amp;" else
    (if b == 60 then codes "&lt;" else
    (if b == 62 then codes "&gt;" else
    (if b == 34 then codes "&quot;" else
    (if b == 13 then codes "&#13;" else b ∷ []))))

-- bytes as they are written in the text of an element and in an attribute
unfoldable pub xml_text : List ℕ → List ℕ
xml_text bytes = flat_map xml_escape bytes

-- tab, LF, CR, and no other control byte below 32
abbrev pub is_xml_byte : ℕ → Bool
is_xml_byte b = nat_le 32 b || b == 9 || b == 10 || b == 13

-- the bytes spell characters of XML 1.0: UTF-8, which has no surrogates, without U+FFFE and U+FFFF
unfoldable pub xml_plain : List ℕ → Bool
xml_plain bytes = is_utf8 bytes && list_all is_xml_byte bytes && not (has_noncharacter bytes)

-- a letter, a digit, `-`, `.`, `_`, `~` or `/`
abbrev pub is_url_byte : ℕ → Bool
is_url_byte b = is_ascii_alphanumeric b || b == 45 || b == 46 || b == 95 || b == 126 || b == 47

-- 0 to 9, and then A to F
abbrev pub hex_digit : ℕ → ℕ
hex_digit n = if nat_lt n 10 then 48 + n else 55 + n

-- `%` and the two hexadecimal digits of a byte
abbrev pub percent_escape : ℕ → List ℕ
percent_escape b = 37 ∷ hex_digit (b / 16 % 16) ∷ hex_digit (b % 16) ∷ []

-- a byte as it is written in a URL
abbrev pub url_escape : ℕ → List ℕ
url_escape b = if is_url_byte b then b ∷ [] else percent_escape b

-- a path as it is written in a URL
unfoldable pub url_text : List ℕ → List ℕ
url_text path = flat_map url_escape path
