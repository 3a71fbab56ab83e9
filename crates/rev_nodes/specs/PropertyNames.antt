-- Names of properties.
use Rattle.std.specs.Prelude.{ℕ, Bool, false, ◌&&◌, ◌||◌, not, List, [], ◌∷◌, length, drop, true, ◌==◌, nat_eq, nat_le, codes, if◌then◌else◌}
use Rattle.std.specs.List.{list_all, starts_with}
use Rattle.std.specs.Char.{is_ascii_alphabetic, is_ascii_alphanumeric}
use Rattle.std.specs.Str.{bytes_eq}
use Rattle.std.specs.Ordering.{nat_cmp, is_lt}
use Rattle.std.specs.Cmp.Lexicographic.{slice_cmp}
use Rattle.dsv_base.specs.declared.prop.Prop.{Prop}

-- a letter or `_`
abbrev pub is_name_start : ℕ → Bool
is_name_start b = is_ascii_alphabetic b || b == 95

-- a letter, a digit, `-`, `.` or `_`
abbrev pub is_name_byte : ℕ → Bool
is_name_byte b = is_ascii_alphanumeric b || b == 45 || b == 46 || b == 95

-- 1 to 200 such bytes, of which the first is a letter or `_`
abbrev pub is_local_name : List ℕ → Bool
is_local_name [] = false
is_local_name (b ∷ bs) = is_name_start b && nat_le (length bs) 199 && list_all is_name_byte bs

-- a local name, or one after `svn:`
unfoldable pub is_property_name : List ℕ → Bool
is_property_name name = is_local_name (if starts_with nat_eq name (codes "svn:") then drop 4 name else name)

-- a name that a revision's own properties may have: its author and its date are no properties
unfoldable pub is_revision_property : List ℕ → Bool
is_revision_property name = is_property_name name && not (bytes_eq name (codes "svn:author")) && not (bytes_eq name (codes "svn:date"))

-- the property's name stands before that of the next one, if there is one
abbrev pub comes_before : Prop → List Prop → Bool
comes_before prop [] = true
comes_before prop (next ∷ props) = is_lt (slice_cmp nat_cmp prop.name next.name)

-- the properties stand in byte order of the name, each name once
abbrev pub names_rise : List Prop → Bool
names_rise [] = true
names_rise (prop ∷ props) = comes_before prop props && names_rise props
