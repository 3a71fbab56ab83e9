-- Documents that are written: element trees, and their bytes (XML 1.0, sections 2.8, 3 and 3.1).
use Rattle.std.specs.Prelude.{ℕ, Bool, true, ◌&&◌, List, [], ◌∷◌, ◌++◌, codes}
use Rattle.std.specs.List.{list_all, flat_map}
use Rattle.dsv_base.specs.Escapes.{xml_text, xml_plain}
use Rattle.dav_documents.specs.Plain.{is_written_name}

-- an attribute by its name as it is written, with its prefix, and its value
pub record Attribute : Type 0 where
  pub name : List ℕ
  pub value : List ℕ

-- elements, one after another: the first one's name as it is written, its attributes (declared namespaces among them, in order), its text, the elements behind that text, and then the elements that follow it
pub data Written : Type 0 where
  Nothing : Written
  Element : List ℕ → List Attribute → List ℕ → Written → Written → Written

-- ---- trees by their parts

-- an attribute by its two parts
abbrev pub attribute : List ℕ → List ℕ → Attribute
attribute name value = record { name = name; value = value }

-- the attribute that binds a prefix to a namespace (Namespaces in XML 1.0, section 3)
abbrev pub binding : List ℕ → List ℕ → Attribute
binding prefix space = attribute (codes "xmlns:" ++ prefix) space

-- one element that holds nothing
abbrev pub empty_element : List ℕ → List Attribute → Written
empty_element name attributes = Element name attributes [] Nothing Nothing

-- one element that holds a text
abbrev pub text_element : List ℕ → List Attribute → List ℕ → Written
text_element name attributes text = Element name attributes text Nothing Nothing

-- one element that holds elements
abbrev pub element : List ℕ → List Attribute → Written → Written
element name attributes inside = Element name attributes [] inside Nothing

-- elements, and behind them others
abbrev pub joined : Written → Written → Written
joined Nothing after = after
joined (Element name attributes text inside rest) after = Element name attributes text inside (joined rest after)

-- all elements of a list, one after another
abbrev pub all_of : List Written → Written
all_of [] = Nothing
all_of (w ∷ ws) = joined w (all_of ws)

-- the elements of each item, in the items' order
abbrev pub for_each : {X : Type 0} → (X → Written) → List X → Written
for_each elements [] = Nothing
for_each elements (x ∷ xs) = joined (elements x) (for_each elements xs)

-- ---- their bytes

-- an attribute, with the blank before it
abbrev pub attribute_text : Attribute → List ℕ
attribute_text a = codes " " ++ a.name ++ codes "=\"" ++ xml_text a.value ++ codes "\""

-- what stands behind an element's name and attributes: an element without content has one tag
abbrev pub after_attributes : List ℕ → List ℕ → List ℕ
after_attributes name [] = codes "/>"
after_attributes name (b ∷ bs) = codes ">" ++ (b ∷ bs) ++ codes "</" ++ name ++ codes ">"

-- one element, by the bytes of its content
abbrev pub element_text : List ℕ → List Attribute → List ℕ → List ℕ
element_text name attributes content = codes "<" ++ name ++ flat_map attribute_text attributes ++ after_attributes name content

-- elements without white space between them
abbrev pub written_text : Written → List ℕ
written_text Nothing = []
written_text (Element name attributes text inside rest) = element_text name attributes (xml_text text ++ written_text inside) ++ written_text rest

-- the elements and a line feed: a listing in HTML
unfoldable pub page_text : Written → List ℕ
page_text w = written_text w ++ codes "\n"

-- what a body in XML begins with (XML 1.0, section 2.8)
abbrev pub declaration : List ℕ
declaration = codes "<?xml version=\"1.0\" encoding=\"utf-8\"?>\n"

-- a body in XML: the declaration, and the elements behind it
unfoldable pub body_text : Written → List ℕ
body_text w = declaration ++ page_text w

-- ---- trees that can be read again

-- an attribute whose name is a name, and whose value has characters of XML alone
abbrev pub is_plain_attribute : Attribute → Bool
is_plain_attribute a = is_written_name a.name && xml_plain a.value

-- names are names, and texts and values have characters of XML alone. What prefixes stand for, and that no attribute is doubled, is asked by whoever reads
abbrev pub is_plain : Written → Bool
is_plain Nothing = true
is_plain (Element name attributes text inside rest) = is_written_name name && list_all is_plain_attribute attributes && xml_plain text && is_plain inside && is_plain rest
