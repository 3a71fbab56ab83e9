-- The media type of a file's text.
use Rattle.std.specs.Prelude.{ℕ, Bool, ◌&&◌, List, length, Option, nat_le, codes, if◌then◌else◌}
use Rattle.std.specs.List.{find, list_all}
use Rattle.std.specs.Option.{option_map, option_map_or}
use Rattle.std.specs.Str.{bytes_eq}
use Rattle.dsv_base.specs.TextFiles.{trimmed}
use Rattle.dsv_base.specs.declared.prop.Prop.{Prop}

-- the value of the property of this name, if it is there
abbrev pub prop_value : List ℕ → List Prop → Option (List ℕ)
prop_value name props = option_map (λ prop. prop.value) (find (λ prop. bytes_eq prop.name name) props)

-- a byte that a field's value may have: a blank, or a visible character of ASCII
abbrev pub is_field_byte : ℕ → Bool
is_field_byte b = nat_le 32 b && nat_le b 126

-- 1 to 128 such bytes without a blank at either end, so that the value can stand in a field
abbrev pub is_media_type : List ℕ → Bool
is_media_type value = nat_le 1 (length value) && nat_le (length value) 128 && list_all is_field_byte value && bytes_eq (trimmed value) value

-- what `svn:mime-type` says, where it can be told, and else plain text (the Book, "File Content Type")
unfoldable pub media_type : List Prop → List ℕ
media_type props = option_map_or (λ value. if is_media_type value then value else codes "text/plain") (prop_value (codes "svn:mime-type") props) (codes "text/plain")
