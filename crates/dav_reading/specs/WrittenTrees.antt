-- What written documents are read as.
use Rattle.std.specs.Prelude.{ℕ, ◌≡◌, true, List, [], ◌∷◌, ◌++◌, map, Option, Some, None, option_and_then, option_map, Ok}
use Rattle.dav_documents.specs.Written.{Attribute, Written, Nothing, Element, is_plain, body_text}
use Rattle.dav_elements.specs.declared.elem.Part.{Part, Child}
use Rattle.dav_elements.specs.declared.elem.Elem.{Elem}
use Rattle.dav_elements.specs.declared.tag.Raw.{Raw}
use Rattle.dav_elements.specs.declared.tag.Tag.{Tag}
use Rattle.dav_elements.specs.declared.frame.Scope.{Scope}
use Rattle.dav_elements.specs.declared.frame.Opened.{Opened}
use Rattle.dav_elements.specs.Opening.{outermost, opened_by}
use Rattle.dav_elements.specs.Growing.{text_part}
use Rattle.dav_reading.specs.LineEnds.{blanked}
use Rattle.dav_reading.specs.Documents.{document, tree}

-- an attribute as it is read: tabs and line feeds are blanks then
abbrev pub read_attribute : Attribute → Raw
read_attribute a = record { key = a.name; value = map blanked a.value }

-- a start tag as it is read
abbrev pub read_tag : List ℕ → List Attribute → Tag
read_tag name attributes = record { name = name; attrs = map read_attribute attributes }

-- an element by its start tag, its text and the elements behind that
abbrev pub elem_with : Opened → List ℕ → List Part → Elem
elem_with o text parts = record { name = o.name; attrs = o.attrs; parts = text_part text ++ parts }

-- elements one after another as parts of what stands around them; none where a start tag opens no element
abbrev pub parts_written : Scope → Written → Option (List Part)
parts_written scope Nothing = Some []
parts_written scope (Element name attributes text inside rest) = option_and_then (λ o. option_and_then (λ parts. option_map (λ others. Child (elem_with o text parts) ∷ others) (parts_written scope rest)) (parts_written o.scope inside)) (opened_by scope (read_tag name attributes))

-- the tree for which one written element stands, with the names resolved; none for no element or several, or where a start tag opens none
abbrev pub elem_written : ℕ → Written → Option Elem
elem_written nest Nothing = None
elem_written nest (Element name attributes text inside Nothing) = option_and_then (λ o. option_map (λ parts. elem_with o text parts) (parts_written o.scope inside)) (opened_by (outermost nest) (read_tag name attributes))
elem_written nest (Element name attributes text inside (Element n a t i r)) = None

-- a body that is written of a tree, whose names are names and whose texts have characters of XML alone, is read as the tree for which it stands: as a document without left-out forms, and as an element
abbrev pub WrittenIsRead : Type 0
WrittenIsRead = (w : Written) (nest : ℕ) (e : Elem) → is_plain w ≡ true → elem_written nest w ≡ Some e → (document nest (body_text w) ≡ Ok (record { root = e; form = None })) × (tree nest (body_text w) ≡ Ok e)
