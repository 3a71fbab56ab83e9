-- Small trees, and what the definition says of their bytes.
use Rattle.std.proofs.Common.{◌≡◌, ℕ, List, true, false, [], ◌∷◌, length, refl}
use Rattle.std.specs.Prelude.{codes}
use Rattle.std.specs.Str.{is_utf8, chars}
use lib.Utf8.{encode}
use Rattle.dsv_base.specs.Escapes.{xml_text, xml_plain}
use Rattle.dav_documents.specs.Plain.{is_written_name}
use Rattle.dav_documents.specs.declared.namespace.Namespace.TheVariants.{Dav, ApacheDav}
use Rattle.dav_documents.specs.Written.{Written, Nothing, Element, attribute, binding, for_each, empty_element, text_element, element, joined, all_of, written_text, page_text, body_text, is_plain}
use Rattle.dav_documents.specs.Namespaces.{uri_of}

-- one element with an attribute and a text in another
abbrev error_of : List ℕ → List ℕ → Written
error_of code text =
    element (codes "D:error") (binding (codes "D") (uri_of Dav) ∷ binding (codes "m") (uri_of ApacheDav) ∷ [])
    (text_element (codes "m:human-readable") (attribute (codes "errcode") code ∷ []) text)

-- two elements, one in the other, for each name
abbrev item_of : List ℕ → Written
item_of name = element (codes "li") [] (text_element (codes "a") (attribute (codes "href") name ∷ []) name)

abbrev listing_of : List (List ℕ) → Written
listing_of names = element (codes "html") [] (element (codes "body") [] (element (codes "ul") [] (for_each item_of names)))

-- what is escaped, and what isn't
escaped_all : xml_text (codes "a&b<c>d\"e\rf'g\t\n") ≡ codes "a&amp;b&lt;c&gt;d&quot;e&#13;f'g\t\n"
unfolding xml_text
escaped_all = refl

-- a body without any element, which no writer makes
nothing_written : body_text Nothing ≡ codes "<?xml version=\"1.0\" encoding=\"utf-8\"?>\n\n"
unfolding body_text page_text xml_text
nothing_written = refl

-- an element without content has one tag; one with a text or an element has two
empty_one : written_text (empty_element (codes "D:write") []) ≡ codes "<D:write/>"
unfolding xml_text
empty_one = refl

empty_text : written_text (text_element (codes "D:comment") [] []) ≡ codes "<D:comment/>"
unfolding xml_text
empty_text = refl

empty_with_attribute : written_text (empty_element (codes "S:absent-file") (attribute (codes "name") (codes "a\"b") ∷ [])) ≡ codes "<S:absent-file name=\"a&quot;b\"/>"
unfolding xml_text
empty_with_attribute = refl

one_text : written_text (text_element (codes "D:owner") [] (codes "a > b\r\n")) ≡ codes "<D:owner>a &gt; b&#13;\n</D:owner>"
unfolding xml_text
one_text = refl

one_inside : written_text (element (codes "D:locktype") [] (empty_element (codes "D:write") [])) ≡ codes "<D:locktype><D:write/></D:locktype>"
unfolding xml_text
one_inside = refl

-- text stands before the elements of an element
text_and_inside : written_text (Element (codes "a") [] (codes "t") (empty_element (codes "b") []) (empty_element (codes "c") [])) ≡ codes "<a>t<b/></a><c/>"
unfolding xml_text
text_and_inside = refl

-- attributes stand in their order
two_attributes : written_text (empty_element (codes "a") (attribute (codes "c") (codes "1") ∷ attribute (codes "b") [] ∷ [])) ≡ codes "<a c=\"1\" b=\"\"/>"
unfolding xml_text
two_attributes = refl

-- a body in XML: its declaration, its element and a line feed, 167 bytes in all
error_body : body_text (error_of (codes "6") (codes "Denied")) ≡ codes "<?xml version=\"1.0\" encoding=\"utf-8\"?>\n<D:error xmlns:D=\"DAV:\" xmlns:m=\"http://apache.org/dav/xmlns\"><m:human-readable errcode=\"6\">Denied</m:human-readable></D:error>\n"
unfolding body_text page_text xml_text uri_of
error_body = refl

error_length : length (body_text (error_of (codes "6") (codes "Denied"))) ≡ 167
unfolding body_text page_text xml_text uri_of
error_length = refl

error_plain : is_plain (error_of (codes "6") (codes "Denied")) ≡ true
unfolding is_written_name xml_plain is_utf8 chars encode uri_of
error_plain = refl

-- a listing in HTML, with one child and with none
one_child : page_text (listing_of (codes "/svn/demo/!svn/rvr/1/pub/" ∷ [])) ≡ codes "<html><body><ul><li><a href=\"/svn/demo/!svn/rvr/1/pub/\">/svn/demo/!svn/rvr/1/pub/</a></li></ul></body></html>\n"
unfolding page_text xml_text
one_child = refl

no_child : page_text (listing_of []) ≡ codes "<html><body><ul/></body></html>\n"
unfolding page_text xml_text
no_child = refl

-- elements of a list, and a list of elements
one_after_another : written_text (all_of (empty_element (codes "a") [] ∷ joined (empty_element (codes "b") []) (empty_element (codes "c") []) ∷ Nothing ∷ [])) ≡ codes "<a/><b/><c/>"
unfolding xml_text
one_after_another = refl

-- names and texts that a document can't hold
bad_name : is_plain (empty_element (codes "1a") []) ≡ false
unfolding is_written_name xml_text
bad_name = refl

bad_text : is_plain (text_element (codes "a") [] (1 ∷ [])) ≡ false
unfolding is_written_name xml_plain is_utf8 chars encode xml_text
bad_text = refl
