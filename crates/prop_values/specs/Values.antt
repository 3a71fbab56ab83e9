-- Values of properties before they are written, and how they are written.
use Rattle.std.specs.Prelude.{[], codes}
use Rattle.std.specs.Fmt.{decimal}
use Rattle.hex.specs.Hex.{encode_lower}
use Rattle.dsv_dates.specs.Dates.{iso_text, http_text}
use Rattle.dav_documents.specs.Written.{empty_element}
use Rattle.dav_documents.specs.Drafts.{Draft, with_elements, with_written_text, with_attributes}
use Rattle.prop_values.specs.Contents.{Content, no_content, inside_content, text_content, value_content}
use Rattle.prop_values.specs.LiveValues.{checked_in_content, lock_element}
use Rattle.prop_values.specs.declared.value.Value.{Value}
use Rattle.prop_values.specs.declared.value.Value.TheVariants.{Empty, Collection, Baseline, Text, Raw, Number, IsoTime, HttpTime, Md5, Sha1, CheckedIn, Locked}

-- what stands in the element of a property with this value
unfoldable pub content_of : Value → Content
content_of Empty = no_content
content_of Collection = inside_content (empty_element (codes "D:collection") [])
content_of Baseline = inside_content (empty_element (codes "D:baseline") [])
content_of (Text text) = text_content text.now
content_of (Raw bytes) = value_content bytes.now
content_of (Number number) = text_content (decimal number)
content_of (IsoTime moment) = text_content (iso_text moment)
content_of (HttpTime moment) = text_content (http_text moment)
content_of (Md5 sum) = text_content (encode_lower sum)
content_of (Sha1 sum) = text_content (encode_lower sum)
content_of (CheckedIn root place) = checked_in_content root.now place.now
content_of (Locked root lock) = inside_content (lock_element root.now lock.now)

-- a draft with this content in the element that was begun
abbrev pub with_content : Content → Draft → Draft
with_content content d =
    with_elements content.inside (with_written_text content.text (with_attributes content.attributes d))
