-- Names that a document can hold (XML 1.0, section 2.3).
use Rattle.std.specs.Prelude.{ℕ, Bool, false, ◌&&◌, ◌||◌, List, [], ◌∷◌, ◌==◌, nat_le}
use Rattle.std.specs.List.{list_all}
use Rattle.std.specs.Char.{is_ascii_alphabetic, is_ascii_digit}
use Rattle.dsv_base.specs.Escapes.{xml_plain}

-- a letter, `_`, or a byte of a character beyond ASCII: what a name may begin with
abbrev pub begins_name : ℕ → Bool
begins_name b = is_ascii_alphabetic b || b == 95 || nat_le 128 b

-- a byte of a name behind its first: one that may begin a name, a digit, `-`, `.`, or the `:` behind a prefix
abbrev pub is_written_name_byte : ℕ → Bool
is_written_name_byte b = begins_name b || is_ascii_digit b || b == 45 || b == 46 || b == 58

-- a name as it is written; how a prefix is cut off, and that there is one at most, is asked where names are resolved
unfoldable pub is_written_name : List ℕ → Bool
is_written_name [] = false
is_written_name (b ∷ bs) = begins_name b && list_all is_written_name_byte bs && xml_plain (b ∷ bs)

-- a byte that doesn't stay as it is where a text or a value is written: `&`, `<`, `>`, `"` and CR
abbrev pub needs_escape : ℕ → Bool
needs_escape b = b == 38 || b == 60 || b == 62 || b == 34 || b == 13
