-- The fields of a head.
use Rattle.std.specs.Prelude.{ℕ, Bool, false, List, [], ◌∷◌, map, Option, None, Some, Result, Ok, Err}
use Rattle.std.specs.List.{filter, find, list_any}
use Rattle.std.specs.Option.{option_map}
use Rattle.std.specs.Str.{str_eq_ignore_ascii_case}
use Rattle.httparse.specs.Grammar.{Field as HeaderLine, field_value}
use Rattle.dsv_base.specs.declared.field.Field.{Field}
use Rattle.http_front.specs.declared.field_fault.FieldFault.{FieldFault}
use Rattle.http_front.specs.declared.field_fault.FieldFault.TheVariants.{Doubled}

-- a header line's name and its value, without the blanks around it
abbrev pub field_of_line : HeaderLine → Field
field_of_line line = record { name = line.name; value = field_value line }

-- the field has this name, in any case of letters (RFC 9110, section 5.1)
abbrev pub is_named : List ℕ → Field → Bool
is_named name field = str_eq_ignore_ascii_case field.name name

-- one of the fields has this name
abbrev pub has_field : List ℕ → List Field → Bool
has_field name fields = list_any (is_named name) fields

-- the values of the fields of this name, in the order of the fields
abbrev pub values_named : List ℕ → List Field → List (List ℕ)
values_named name fields = map (λ f. f.value) (filter (is_named name) fields)

-- the one of these values, if there is any; several are a fault
abbrev pub one_at_most : List (List ℕ) → Result (Option (List ℕ)) FieldFault
one_at_most [] = Ok None
one_at_most (value ∷ []) = Ok (Some value)
one_at_most (value ∷ next ∷ more) = Err Doubled

-- the value of the field of this name, if there is one; where several have it, that is a fault
abbrev pub field_named : List ℕ → List Field → Result (Option (List ℕ)) FieldFault
field_named name fields = one_at_most (values_named name fields)

-- the value of the first field of this name, if there is one
abbrev pub first_named : List ℕ → List Field → Option (List ℕ)
first_named name fields = option_map (λ f. f.value) (find (is_named name) fields)

-- every fault of a field is told
abbrev pub none_is_free : FieldFault → Bool
none_is_free Doubled = false
