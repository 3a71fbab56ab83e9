-- One field of a name, and several.
use Rattle.std.proofs.Common.{◌≡◌, ℕ, ◌-◌, ◌≤◌, true, false, List, [], ◌∷◌, length, take, drop, get_or, Some, Ok, Err, refl, ap, sym, ◌∙◌, arith}
use Rattle.std.proofs.lemmas.List.{take_all}
use Rattle.dsv_base.specs.declared.field.Field.{Field}
use Rattle.http_front.specs.declared.field_fault.FieldFault.TheVariants.{Doubled}
use Rattle.http_front.specs.Fields.{is_named, has_field, values_named, one_at_most, field_named}

-- a list with two items at least
abbrev pub HasSeveral : List (List ℕ) → List ℕ → Type 0
HasSeveral values first = (next : List ℕ) × (more : List (List ℕ)) × (values ≡ first ∷ next ∷ more)

none_named : (name : List ℕ) (fields : List Field) → has_field name fields ≡ false → values_named name fields ≡ []
none_named name [] h = refl
none_named name (f ∷ fs) h =
    elim (is_named name f) as (λ v. is_named name f ≡ v → values_named name (f ∷ fs) ≡ []) [
      | true ↦ λ e. cc
      | false ↦ λ e. rw e (none_named name fs (rw e at h))
    ] refl

-- one more than none makes two
after_one : (name value : List ℕ) (fields : List Field) → has_field name fields ≡ true → HasSeveral (value ∷ values_named name fields) value
after_one name value [] h = cc
after_one name value (f ∷ fs) h =
    elim (is_named name f) as (λ v. is_named name f ≡ v → HasSeveral (value ∷ values_named name (f ∷ fs)) value) [
      | true ↦ λ e. (f.value, values_named name fs, rw e refl)
      | false ↦ λ e. let later = after_one name value fs (rw e at h) in (later.0, later.1, rw e later.2)
    ] refl

after_first : (g : Field) (rest : List Field) → take (length (g ∷ rest) - 1) rest ≡ rest
after_first g rest =
    let all : length (g ∷ rest) - 1 ≡ length rest = omega arith in
    rw all (take_all (length rest) rest (omega arith))

-- where the first field of the name is found, and another stands after it
several_named : (name : List ℕ) (all rest : List Field) (f : Field) → values_named name rest ≡ values_named name all → 1 ≤ length rest → f ≡ get_or rest 0 f
    → is_named name f ≡ true → has_field name (take (length rest - 1) (drop 1 rest)) ≡ true → HasSeveral (values_named name all) f.value
several_named name all [] f same some is named more = absurd (omega (arith, some))
several_named name all (g ∷ rest) f same some is named more =
    let first : values_named name (g ∷ rest) ≡ f.value ∷ values_named name rest = rw (sym is, named) refl in
    let two = after_one name f.value rest (ap (has_field name) (sym (after_first g rest)) ∙ more) in
    (two.0, two.1, sym same ∙ first ∙ two.2)

-- where the first field of the name is found, and none stands after it
one_named : (name : List ℕ) (all rest : List Field) (f : Field) → values_named name rest ≡ values_named name all → 1 ≤ length rest → f ≡ get_or rest 0 f
    → is_named name f ≡ true → has_field name (take (length rest - 1) (drop 1 rest)) ≡ false → values_named name all ≡ f.value ∷ []
one_named name all [] f same some is named more = absurd (omega (arith, some))
one_named name all (g ∷ rest) f same some is named more =
    let first : values_named name (g ∷ rest) ≡ f.value ∷ values_named name rest = rw (sym is, named) refl in
    sym same ∙ first ∙ ap (λ values. f.value ∷ values) (none_named name rest (ap (has_field name) (sym (after_first g rest)) ∙ more))

pub several_values : (name : List ℕ) (all rest : List Field) (f : Field) → values_named name rest ≡ values_named name all → 1 ≤ length rest → f ≡ get_or rest 0 f
    → is_named name f ≡ true → has_field name (take (length rest - 1) (drop 1 rest)) ≡ true → field_named name all ≡ Err Doubled
several_values name all rest f same some is named more =
    let two = several_named name all rest f same some is named more in ap one_at_most two.2

pub one_value : (name : List ℕ) (all rest : List Field) (f : Field) → values_named name rest ≡ values_named name all → 1 ≤ length rest → f ≡ get_or rest 0 f
    → is_named name f ≡ true → has_field name (take (length rest - 1) (drop 1 rest)) ≡ false → field_named name all ≡ Ok (Some f.value)
one_value name all rest f same some is named more = ap one_at_most (one_named name all rest f same some is named more)
