-- What stands in the element of a property.
use Rattle.std.specs.Prelude.{ℕ, List, [], ◌∷◌, ◌++◌, codes, if◌then◌else◌}
use Rattle.base64.specs.Engines.{standard}
use Rattle.base64.specs.GeneralPurpose.{encode_of}
use Rattle.dsv_base.specs.Escapes.{xml_plain}
use Rattle.dsv_base.specs.declared.prop_name.PropName.{PropName}
use Rattle.dav_documents.specs.Written.{Attribute, attribute, Written, Nothing, Element}
use Rattle.prop_values.specs.PropTags.{PropTag, tag_of}

-- what an element holds, with the attributes that tell how: attributes, a text, and elements behind it
pub record Content : Type 0 where
  pub attributes : List Attribute
  pub text : List ℕ
  pub inside : Written

-- nothing at all
abbrev pub no_content : Content
no_content = record { attributes = []; text = []; inside = Nothing }

-- these elements alone
abbrev pub inside_content : Written → Content
inside_content inside = record { attributes = []; text = []; inside = inside }

-- this text alone
abbrev pub text_content : List ℕ → Content
text_content text = record { attributes = []; text = text; inside = Nothing }

-- the base64 of these bytes (RFC 4648, section 4)
unfoldable pub base64_text : List ℕ → List ℕ
base64_text bytes = encode_of standard bytes

-- the base64 of these bytes, with the attribute that says so
abbrev pub encoded_content : List ℕ → Content
encoded_content bytes = record {
  attributes = attribute (codes "V:encoding") (codes "base64") ∷ [];
  text = base64_text bytes;
  inside = Nothing;
}

-- a value that may be of any bytes: as text where a document can hold it, and else in base64
unfoldable pub value_content : List ℕ → Content
value_content value = if xml_plain value then text_content value else encoded_content value

-- an element with these attributes and this content, whose own attributes stand last
abbrev pub content_element : List ℕ → List Attribute → Content → Written
content_element name attributes content = Element name (attributes ++ content.attributes) content.text content.inside Nothing

-- the element with this tag and this content
abbrev pub tagged_element : PropTag → Content → Written
tagged_element tag content = content_element tag.name tag.attributes content

-- the element of a property of this name, with this content
abbrev pub property_element : PropName → Content → Written
property_element name content = tagged_element (tag_of name) content
