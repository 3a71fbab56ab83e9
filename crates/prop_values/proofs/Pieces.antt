-- The element of a property, piece by piece.
use Rattle.std.proofs.Common.{◌≡◌, ℕ, List, [], ap, refl}
use Rattle.dav_documents.specs.Drafts.{Draft, started, ended, with_elements, with_written_text, with_attributes}
use Rattle.dav_documents.proofs.Trees.{with_attributes_append}
use Rattle.prop_values.specs.PropTags.{PropTag}
use Rattle.prop_values.specs.Contents.{Content, tagged_element}
use Rattle.prop_values.specs.Values.{with_content}

-- it is begun with its tag, then comes its content, and then its end
pub tagged_piece : (tag : PropTag) (content : Content) (d : Draft) → with_elements (tagged_element tag content) d ≡ ended tag.name (with_content content (with_attributes tag.attributes (started tag.name d)))
tagged_piece tag content d = ap (λ begun. ended tag.name (with_elements content.inside (with_written_text content.text begun))) (with_attributes_append tag.attributes content.attributes (started tag.name d))

-- the same of a tag that binds nothing
pub untagged_piece : (tag : PropTag) (name : List ℕ) (content : Content) (d : Draft) → tag ≡ record { name = name; attributes = [] } → with_elements (tagged_element tag content) d ≡ ended name (with_content content (started name d))
untagged_piece tag name content d is = rw is refl
