-- Bindings of prefixes, which a start tag has among its attributes (Namespaces in XML 1.0, sections 2 and 3).
use Rattle.std.specs.Prelude.{ℕ, Bool, true, cond, ◌&&◌, ◌||◌, not, List, [], ◌∷◌, ◌++◌, drop, nat_eq, codes}
use Rattle.std.specs.List.{list_any, flat_map, starts_with}
use Rattle.std.specs.Str.{bytes_eq}
use Rattle.dav_elements.specs.declared.bound.Bound.{Bound}
use Rattle.dav_elements.specs.declared.tag.Raw.{Raw}
use Rattle.dav_elements.specs.Names.{begins_part, is_colon}

-- the namespace of the prefix `xml`
unfoldable pub xml_space : List ℕ
xml_space = codes "http://www.w3.org/XML/1998/namespace"

-- the namespace of `xmlns`, to which nothing may be bound
unfoldable pub xmlns_space : List ℕ
xmlns_space = codes "http://www.w3.org/2000/xmlns/"

-- `xmlns:` and a prefix
unfoldable pub is_prefix_key : List ℕ → Bool
is_prefix_key key = starts_with nat_eq key (codes "xmlns:")

-- the attribute binds the default namespace, or a prefix
unfoldable pub is_binding : Raw → Bool
is_binding raw = bytes_eq raw.key (codes "xmlns") || is_prefix_key raw.key

-- what an attribute binds; the default namespace is bound to the empty prefix
abbrev pub bindings_of : Raw → List Bound
bindings_of raw = cond (bytes_eq raw.key (codes "xmlns")) (record { prefix = []; space = raw.value } ∷ [])
    (cond (is_prefix_key raw.key) (record { prefix = drop 6 raw.key; space = raw.value } ∷ []) [])

-- the bindings of a tag, before those around it
unfoldable pub bound_in_tag : List Raw → List Bound → List Bound
bound_in_tag raws spaces = flat_map bindings_of raws ++ spaces

-- `xml` is bound to its own namespace alone, and nothing else to that; `xmlns` isn't bound, and nothing to its namespace
abbrev pub may_bind : List ℕ → List ℕ → Bool
may_bind prefix space = cond (bytes_eq prefix (codes "xml")) (bytes_eq space xml_space)
    (not (bytes_eq prefix (codes "xmlns")) && not (bytes_eq space xml_space) && not (bytes_eq space xmlns_space))

-- a prefix is a name without a colon, and is bound to a namespace whose name isn't empty
abbrev pub may_bind_prefix : List ℕ → List ℕ → Bool
may_bind_prefix prefix space = begins_part prefix && not (list_any is_colon prefix) && not (bytes_eq space []) && may_bind prefix space

-- the attribute binds nothing, or what it may bind
abbrev pub is_fair : Raw → Bool
is_fair raw = cond (bytes_eq raw.key (codes "xmlns")) (may_bind [] raw.value) (cond (is_prefix_key raw.key) (may_bind_prefix (drop 6 raw.key) raw.value) true)
