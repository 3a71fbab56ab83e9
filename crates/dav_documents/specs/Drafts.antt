-- A document while it is written, piece by piece.
use Rattle.std.specs.Prelude.{ℕ, Bool, true, false, List, [], ◌∷◌, ◌++◌, codes, if◌then◌else◌}
use Rattle.dsv_base.specs.Escapes.{xml_text}
use Rattle.dav_documents.specs.Written.{Attribute, Written, Nothing, Element, attribute_text, declaration}

-- what is written, and whether it ends in a start tag without its `>`: what comes next may still be an attribute, or the end of an element without content
pub record Draft : Type 0 where
  pub text : List ℕ
  pub in_tag : Bool

-- before the first piece of elements alone
unfoldable pub nothing_written : Draft
nothing_written = record { text = []; in_tag = false }

-- before the first piece of a body in XML
unfoldable pub declaration_written : Draft
declaration_written = record { text = declaration; in_tag = false }

-- before the first piece of elements behind a text, which is written as it stands
unfoldable pub front_written : List ℕ → Draft
front_written front = record { text = front; in_tag = false }

-- what is written once the start tag has its `>`
unfoldable pub with_tag_closed : Draft → List ℕ
with_tag_closed d = d.text ++ (if d.in_tag then codes ">" else [])

-- ---- the pieces

-- an element is begun
unfoldable pub started : List ℕ → Draft → Draft
started name d = record { text = with_tag_closed d ++ codes "<" ++ name; in_tag = true }

-- an attribute's value, behind its name
abbrev pub with_value : List ℕ → Draft → Draft
with_value value d = record { text = d.text ++ codes "=\"" ++ xml_text value ++ codes "\""; in_tag = d.in_tag }

-- an attribute of the element that was begun
unfoldable pub with_attribute : Attribute → Draft → Draft
with_attribute a d = record { text = d.text ++ attribute_text a; in_tag = d.in_tag }

-- a text that isn't empty
unfoldable pub said : List ℕ → Draft → Draft
said text d = record { text = with_tag_closed d ++ xml_text text; in_tag = false }

-- the element that was begun last is ended
unfoldable pub ended : List ℕ → Draft → Draft
ended name d = record { text = d.text ++ (if d.in_tag then codes "/>" else codes "</" ++ name ++ codes ">"); in_tag = false }

-- ---- trees, piece by piece

-- a text; an empty one leaves a start tag as it is
abbrev pub with_written_text : List ℕ → Draft → Draft
with_written_text [] d = d
with_written_text (b ∷ bs) d = said (b ∷ bs) d

-- attributes in their order
abbrev pub with_attributes : List Attribute → Draft → Draft
with_attributes [] d = d
with_attributes (a ∷ more) d = with_attributes more (with_attribute a d)

-- elements one after another, each with what is in it
abbrev pub with_elements : Written → Draft → Draft
with_elements Nothing d = d
with_elements (Element name attributes text inside rest) d = with_elements rest (ended name (with_elements inside (with_written_text text (with_attributes attributes (started name d)))))
