-- The names of properties as WebDAV has them, and how they are written as elements of a multistatus (RFC 4918,
-- section 4.4; Namespaces in XML 1.0, sections 3 and 6; Subversion's notes on WebDAV).
use Rattle.std.specs.Prelude.{ℕ, Bool, ◌&&◌, List, [], ◌∷◌, ◌++◌, map, length, drop, nat_eq, codes, Option, Some, None, if◌then◌else◌}
use Rattle.std.specs.List.{find, starts_with}
use Rattle.std.specs.Str.{bytes_eq}
use Rattle.dsv_base.specs.declared.prop_name.PropName.{PropName}
use Rattle.dav_documents.specs.declared.namespace.Namespace.{Namespace}
use Rattle.dav_documents.specs.declared.namespace.Namespace.TheVariants.{Dav, SubversionDav, SubversionSvn, SubversionCustom}
use Rattle.dav_documents.specs.Namespaces.{uri_of}
use Rattle.dav_documents.specs.Written.{Attribute, binding}

-- the name that has this local name in this namespace
abbrev pub name_within : Namespace → List ℕ → PropName
name_within space local = record { space = uri_of space; name = local }

-- two names are the same: they have the same namespace and the same local name, byte by byte
abbrev pub same_name : PropName → PropName → Bool
same_name a b = bytes_eq a.space b.space && bytes_eq a.name b.name

-- what the names of Subversion's own properties begin with
abbrev pub svn_front : List ℕ
svn_front = codes "svn:"

-- the name that WebDAV has for a property of a node or a revision: where the property's name begins with `svn:`, what
-- stands behind that, in the namespace of Subversion's own properties; else the whole name, in that of custom ones
abbrev pub dead_name : List ℕ → PropName
dead_name name =
    if starts_with nat_eq name svn_front
    then name_within SubversionSvn (drop (length svn_front) name)
    else name_within SubversionCustom name

-- the prefixes that the root of a multistatus binds, in their order, each with its namespace
abbrev pub bound_prefixes : List (List ℕ × Namespace)
bound_prefixes =
    (codes "D", Dav) ∷ (codes "V", SubversionDav) ∷ (codes "S", SubversionSvn) ∷ (codes "C", SubversionCustom) ∷ []

-- the attributes that bind these prefixes
abbrev pub prefix_bindings : List Attribute
prefix_bindings = map (λ bound. binding bound.0 (uri_of bound.1)) bound_prefixes

-- how the name of a property is written: the name of the element, and the attributes that it needs
pub record PropTag : Type 0 where
  pub name : List ℕ
  pub attributes : List Attribute

-- the namespace that the prefix `xml` is bound to without being declared, and no other prefix may be bound to
abbrev pub xml_prefix_space : List ℕ
xml_prefix_space = codes "http://www.w3.org/XML/1998/namespace"

-- the attribute that binds the prefix N to a namespace, if it is to be bound
abbrev pub own_binding : Option (List ℕ) → List Attribute
own_binding None = []
own_binding (Some space) = binding (codes "N") space ∷ []

-- the tag of a name whose namespace no prefix is bound to here: without a namespace the local name alone; in that of the
-- prefix `xml`, behind this; else behind the prefix N, which the element itself binds to the namespace
abbrev pub unbound_tag : PropName → PropTag
unbound_tag name =
    if bytes_eq name.space [] then record { name = name.name; attributes = [] }
    else if bytes_eq name.space xml_prefix_space then record { name = codes "xml:" ++ name.name; attributes = [] }
    else record { name = codes "N:" ++ name.name; attributes = own_binding (Some name.space) }

-- the tag of a name, by the prefix that is bound to its namespace: behind this prefix, if there is one, and else as above
abbrev pub tag_with : PropName → Option (List ℕ × Namespace) → PropTag
tag_with name (Some bound) = record { name = bound.0 ++ codes ":" ++ name.name; attributes = [] }
tag_with name None = unbound_tag name

-- the tag of a name: behind the first of the bound prefixes whose namespace is that of the name, and without one as above
unfoldable pub tag_of : PropName → PropTag
tag_of name = tag_with name (find (λ bound. bytes_eq (uri_of bound.1) name.space) bound_prefixes)
