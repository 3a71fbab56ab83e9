-- Names of elements and of attributes, and the namespaces that prefixes stand for (Namespaces in XML 1.0).
use Rattle.std.specs.Prelude.{ℕ, Bool, true, false, cond, ◌&&◌, ◌||◌, not, List, [], ◌∷◌, Option, Some, None, option_map, ◌==◌}
use Rattle.std.specs.List.{list_any}
use Rattle.std.specs.Str.{bytes_eq}
use Rattle.dsv_base.specs.Lines.{cut_at}
use Rattle.dsv_base.specs.declared.prop_name.PropName.{PropName}
use Rattle.dav_documents.specs.Plain.{begins_name}
use Rattle.dav_elements.specs.declared.bound.Bound.{Bound}
use Rattle.dav_elements.specs.declared.name_parts.NameParts.{NameParts}

-- white space of XML: blank, tab, LF, CR
abbrev pub is_white : ℕ → Bool
is_white b = b == 32 || b == 9 || b == 10 || b == 13

-- the byte behind a prefix
abbrev pub is_colon : ℕ → Bool
is_colon b = b == 58

-- it isn't empty, and begins as a name does
unfoldable pub begins_part : List ℕ → Bool
begins_part [] = false
begins_part (b ∷ bs) = begins_name b

-- a name in two parts: both begin as names do, and no second colon follows
abbrev pub prefixed_parts : List ℕ → List ℕ → Option NameParts
prefixed_parts prefix local = cond (begins_part prefix && begins_part local && not (list_any is_colon local)) (Some (record { prefix = prefix; local = local })) None

-- a name by what stands around its first colon, if it has one
abbrev pub parts_by_cut : List ℕ → Option (List ℕ × List ℕ) → Option NameParts
parts_by_cut name None = cond (begins_part name) (Some (record { prefix = []; local = name })) None
parts_by_cut name (Some cut) = prefixed_parts cut.0 cut.1

-- a name as it is written, cut at its colon: without a colon its prefix is empty
unfoldable pub name_parts : List ℕ → Option NameParts
name_parts name = parts_by_cut name (cut_at 58 name)

-- what the first binding of a prefix binds it to
abbrev pub first_space : List Bound → List ℕ → Option (List ℕ)
first_space [] prefix = None
first_space (one ∷ others) prefix = cond (bytes_eq prefix one.prefix) (Some one.space) (first_space others prefix)

-- a prefix that isn't bound stands for nothing; where there is no prefix, that is no namespace
abbrev pub or_no_space : List ℕ → Option (List ℕ) → Option (List ℕ)
or_no_space [] None = Some []
or_no_space (b ∷ bs) None = None
or_no_space prefix (Some space) = Some space

-- the namespace that a prefix stands for
unfoldable pub space_bound : List Bound → List ℕ → Option (List ℕ)
space_bound spaces prefix = or_no_space prefix (first_space spaces prefix)

-- an element's name with its namespace
unfoldable pub element_name : List Bound → NameParts → Option PropName
element_name spaces parts = option_map (λ space. record { space = space; name = parts.local }) (space_bound spaces parts.prefix)

-- an attribute's name with its namespace: without a prefix it is in none
unfoldable pub attribute_name : List Bound → NameParts → Option PropName
attribute_name spaces parts = cond (bytes_eq parts.prefix []) (Some (record { space = []; name = parts.local })) (element_name spaces parts)

-- no two are the same
unfoldable pub are_distinct : {X : Type 0} → (X → X → Bool) → List X → Bool
are_distinct same [] = true
are_distinct same (x ∷ xs) = not (list_any (same x) xs) && are_distinct same xs
