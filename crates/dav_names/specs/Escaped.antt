-- Escapes of a URL as they are read (RFC 3986, section 2.1).
use Rattle.std.specs.Prelude.{ℕ, Bool, true, false, not, ◌&&◌, ◌||◌, List, [], ◌∷◌, Option, None, Some, ◌==◌, if◌then◌else◌}
use Rattle.std.specs.Char.{is_ascii_hexdigit}
use Rattle.percent_encoding.specs.Percent.{percent_decode}

-- what stands behind a `%` begins with two hexadecimal digits, and they aren't those of `/`, which are `2F` in any case
abbrev pub begins_escape_but_slash : List ℕ → Bool
begins_escape_but_slash [] = false
begins_escape_but_slash (high ∷ []) = false
begins_escape_but_slash (high ∷ low ∷ rest) = is_ascii_hexdigit high && is_ascii_hexdigit low && not (high == 50 && (low == 70 || low == 102))

-- each `%` begins an escape of another byte than `/`
abbrev pub is_escaped : List ℕ → Bool
is_escaped [] = true
is_escaped (b ∷ bs) = (not (b == 37) || begins_escape_but_slash bs) && is_escaped bs

-- the text with each escape replaced by its byte
unfoldable pub unescaped : List ℕ → Option (List ℕ)
unescaped text = if is_escaped text then Some (percent_decode text) else None
