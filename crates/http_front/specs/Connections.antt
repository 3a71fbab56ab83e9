-- Whether the connection ends after a request (RFC 9112, section 9.3).
use Rattle.std.specs.Prelude.{ℕ, Bool, ◌&&◌, ◌||◌, List, ◌==◌, codes}
use Rattle.std.specs.List.{list_any, slice_split}
use Rattle.std.specs.Str.{str_eq_ignore_ascii_case}
use Rattle.dsv_base.specs.declared.field.Field.{Field}
use Rattle.dsv_base.specs.TextFiles.{is_comma, trimmed}
use Rattle.http_front.specs.Fields.{is_named}

-- the word `close`, in any case of letters, with blanks around it
abbrev pub is_close : List ℕ → Bool
is_close word = str_eq_ignore_ascii_case (trimmed word) (codes "close")

-- a Connection field that has it among its words, which commas part
abbrev pub says_close : Field → Bool
says_close field = is_named (codes "connection") field && list_any is_close (slice_split is_comma field.value)

-- a request of HTTP/1.0 is the connection's last, and so is one that says `close`
unfoldable pub is_last : ℕ → List Field → Bool
is_last minor fields = minor == 0 || list_any says_close fields
