-- How a head's fields say the length of the body (RFC 9112, section 6.3). What the standard leaves to the server is refused here:
-- several Content-Length fields, several codings, and both at once.
use Rattle.std.specs.Prelude.{ℕ, Bool, ◌&&◌, List, length, codes, Option, None, Some, Result, Ok, Err, nat_lt, nat_le, if◌then◌else◌}
use Rattle.std.specs.List.{list_all}
use Rattle.std.specs.Str.{str_eq_ignore_ascii_case}
use Rattle.dsv_base.specs.declared.field.Field.{Field}
use Rattle.dsv_base.specs.Numbers.{is_digit, digits_after}
use Rattle.http_front.specs.declared.field_fault.FieldFault.{FieldFault}
use Rattle.http_front.specs.declared.framing.Framing.{Framing}
use Rattle.http_front.specs.declared.framing.Framing.TheVariants.{Sized, Chunked, TooLong, Unframed}
use Rattle.http_front.specs.Fields.{has_field, field_named}
use Rattle.http_front.specs.Limits.{most_body_bytes, most_length_digits}

-- the value that was found, where no fault stands in its way
abbrev pub without_fault : Result (Option (List ℕ)) FieldFault → Option (List ℕ)
without_fault (Ok value) = value
without_fault (Err fault) = None

-- the value of the field of this name, where there is exactly one
abbrev pub single : List ℕ → List Field → Option (List ℕ)
single name fields = without_fault (field_named name fields)

-- one decimal digit or several
abbrev pub is_number : List ℕ → Bool
is_number value = nat_lt 0 (length value) && list_all is_digit value

-- so many bytes, unless they are too many
abbrev pub sized : ℕ → Framing
sized n = if nat_le n most_body_bytes then Sized n else TooLong

-- what one Content-Length says
unfoldable pub length_framing : List ℕ → Framing
length_framing value = if is_number value then (if nat_lt most_length_digits (length value) then TooLong else sized (digits_after 0 value)) else Unframed

-- what one Transfer-Encoding says: `chunked` alone, in any case of letters
unfoldable pub coding_framing : List ℕ → Framing
coding_framing value = if str_eq_ignore_ascii_case value (codes "chunked") then Chunked else Unframed

-- what the one value says; without one the length isn't clear
abbrev pub framed_by : (List ℕ → Framing) → Option (List ℕ) → Framing
framed_by says None = Unframed
framed_by says (Some value) = says value

-- neither field: no body; one of them, once: what it says; anything else is refused
unfoldable pub framing : List Field → Framing
framing fields =
    if has_field (codes "transfer-encoding") fields
    then (if has_field (codes "content-length") fields then Unframed else framed_by coding_framing (single (codes "transfer-encoding") fields))
    else (if has_field (codes "content-length") fields then framed_by length_framing (single (codes "content-length") fields) else Sized 0)
