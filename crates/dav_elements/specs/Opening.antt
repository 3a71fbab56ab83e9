-- The element that a start tag opens.
use Rattle.std.specs.Prelude.{ℕ, ◌-◌, Bool, cond, ◌&&◌, List, [], ◌∷◌, Option, Some, None, option_and_then, option_map, nat_le, codes}
use Rattle.std.specs.List.{list_all}
use Rattle.std.specs.Str.{bytes_eq}
use Rattle.dav_elements.specs.declared.elem.Attr.{Attr}
use Rattle.dav_elements.specs.declared.bound.Bound.{Bound}
use Rattle.dav_elements.specs.declared.tag.Raw.{Raw}
use Rattle.dav_elements.specs.declared.tag.Tag.{Tag}
use Rattle.dav_elements.specs.declared.frame.Scope.{Scope}
use Rattle.dav_elements.specs.declared.frame.Opened.{Opened}
use Rattle.dav_elements.specs.Names.{name_parts, element_name, attribute_name, are_distinct}
use Rattle.dav_elements.specs.Bindings.{xml_space, is_binding, bound_in_tag, is_fair}

-- two attributes of one name as it is written
abbrev pub same_key : Raw → Raw → Bool
same_key a b = bytes_eq a.key b.key

-- two attributes of one name with its namespace
abbrev pub same_attr : Attr → Attr → Bool
same_attr a b = bytes_eq a.name.space b.name.space && bytes_eq a.name.name b.name.name

-- an attribute with its name's namespace
abbrev pub attr_from : List Bound → Raw → Option Attr
attr_from spaces raw = option_and_then (λ parts. option_map (λ name. record { name = name; value = raw.value }) (attribute_name spaces parts)) (name_parts raw.key)

-- the attributes that aren't bindings, in their order
unfoldable pub attrs_from : List Bound → List Raw → Option (List Attr)
attrs_from spaces [] = Some []
attrs_from spaces (raw ∷ rest) = cond (is_binding raw) (attrs_from spaces rest) (option_and_then (λ attr. option_map (λ attrs. attr ∷ attrs) (attrs_from spaces rest)) (attr_from spaces raw))

-- around a document's element: `xml` is bound, and so many elements may stand in each other
abbrev pub outermost : ℕ → Scope
outermost nest = record { left = nest; spaces = record { prefix = codes "xml"; space = xml_space } ∷ [] }

-- the element by the bindings that hold in it
abbrev pub opened_with : ℕ → Tag → List Bound → Option Opened
opened_with left tag spaces = option_and_then (λ parts. option_and_then (λ name. option_and_then (λ attrs.
    cond (are_distinct same_attr attrs) (Some (record { scope = record { left = left; spaces = spaces }; name = name; attrs = attrs })) None)
    (attrs_from spaces tag.attrs)) (element_name spaces parts)) (name_parts tag.name)

-- the element that a start tag opens: none where it stands too deep, an attribute is doubled, a binding isn't allowed, a name isn't one, or a prefix isn't bound
unfoldable pub opened_by : Scope → Tag → Option Opened
opened_by scope tag = cond (nat_le 1 scope.left && are_distinct same_key tag.attrs && list_all is_fair tag.attrs) (opened_with (scope.left - 1) tag (bound_in_tag tag.attrs scope.spaces)) None
