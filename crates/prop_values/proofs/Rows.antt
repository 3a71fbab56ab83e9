-- What is told of a file, computed; and how names are written.
use Rattle.std.proofs.Common.{◌≡◌, ℕ, zero, suc, List, [], ◌∷◌, None, Some, refl}
use Rattle.std.specs.Prelude.{codes}
use Rattle.std.specs.Fmt.{digits}
use Rattle.std.specs.Str.{is_utf8, chars}
use Rattle.hex.specs.Hex.{encode_lower}
use Rattle.md5.specs.Md5.{md5}
use Rattle.base64.specs.Rfc4648.{encode_symbols}
use Rattle.sha1.specs.Sha1.{sha1}
use Rattle.std.proofs.Math.Utf8.{encode}
use Rattle.dsv_base.specs.Escapes.{xml_text, xml_plain, url_text}
use Rattle.dsv_base.specs.Paths.{parent_text}
use Rattle.dsv_dates.specs.Dates.{iso_text, http_text, part_at}
use Rattle.rev_nodes.specs.declared.kind.Kind.TheVariants.{File}
use Rattle.rev_nodes.specs.Trees.{Tree, TreeNode, new_dir, new_file, new_line}
use Rattle.dav_names.specs.Written.{target_text, resource_text}
use Rattle.dav_documents.specs.Namespaces.{uri_of}
use Rattle.dav_documents.specs.Written.{Written, attribute, empty_element, text_element, element, joined, all_of, page_text, body_text}
use Rattle.log_access.specs.Records.{ShownRecord}
use Rattle.log_access.specs.declared.level.Level.TheVariants as levels
use Rattle.path_locks.specs.LockStates.{no_locks}
use Rattle.prop_values.specs.PropTags.{tag_of}
use Rattle.prop_values.specs.Contents.{value_content, base64_text}
use Rattle.prop_values.specs.LiveNames.{live_named}
use Rattle.prop_values.specs.Subjects.{PropSources, told_of}
use Rattle.prop_values.specs.declared.subject.Subject.TheVariants.{YoungestNode}
use Rattle.prop_values.specs.LiveValues.{live_value, owner_element, lock_element}
use Rattle.prop_values.specs.DeadValues.{dead_values, dead_value}
use Rattle.prop_values.specs.Responses.{value_named, response_about, response_element}

-- ---- the repository

-- a file whose own property `svn:eol-style` is `native`, and whose custom one `note` is a byte that no document holds
abbrev marked_file : TreeNode
marked_file = record {
  node = record {
    kind = File;
    props = record { name = codes "note"; value = 1 ∷ [] } ∷ record { name = codes "svn:eol-style"; value = codes "native" } ∷ [];
    text = codes "abc";
    created = 1;
  };
  line = new_line 1;
}

-- the nodes that the user is shown in revision 2: a child `sec` of the root is hidden
abbrev nodes_2 : Tree
nodes_2 = (codes "/", new_dir 2) ∷ (codes "/a", marked_file) ∷ (codes "/b c", new_dir 2) ∷ (codes "/b c/x", new_file (codes "xy") 2) ∷ []

-- revision 1 is shown, and nothing of revision 2
abbrev facts : ℕ → ShownRecord
facts zero = record { level = levels.None; props = []; author = None; moment = None; changed = [] }
facts (suc zero) = record {
  level = levels.Full;
  props = record { name = codes "svn:log"; value = codes "first" } ∷ [];
  author = Some (codes "ann");
  moment = Some 784111777000000;
  changed = [];
}
facts (suc (suc rev)) = record { level = levels.None; props = []; author = None; moment = None; changed = [] }

abbrev sources : PropSources
sources = record {
  root = codes "/svn/demo";
  uuid = codes "u-1";
  youngest = 2;
  nodes_of = λ rev. nodes_2;
  facts_of = facts;
  locks = no_locks;
}

-- all properties of a file of the youngest revision: its elements in their order
abbrev whole_file_elements : List Written
whole_file_elements =
    empty_element (codes "D:resourcetype") []
    ∷ text_element (codes "D:getcontentlength") [] (codes "3")
    ∷ text_element (codes "D:version-name") [] (codes "1")
    ∷ text_element (codes "D:creationdate") [] (codes "1994-11-06T08:49:37.000000Z")
    ∷ text_element (codes "D:getlastmodified") [] (codes "Sun, 06 Nov 1994 08:49:37 GMT")
    ∷ text_element (codes "D:creator-displayname") [] (codes "ann")
    ∷ element (codes "D:checked-in") [] (text_element (codes "D:href") [] (codes "/svn/demo/!svn/rvr/2/a"))
    ∷ empty_element (codes "D:lockdiscovery") []
    ∷ text_element (codes "V:baseline-relative-path") [] (codes "a")
    ∷ text_element (codes "V:repository-uuid") [] (codes "u-1")
    ∷ text_element (codes "V:md5-checksum") [] (encode_lower (md5 (codes "abc")))
    ∷ text_element (codes "V:sha1-checksum") [] (encode_lower (sha1 (codes "abc")))
    ∷ text_element (codes "V:deadprop-count") [] (codes "2")
    ∷ text_element (codes "C:note") (attribute (codes "V:encoding") (codes "base64") ∷ []) (codes "AQ==")
    ∷ text_element (codes "S:eol-style") [] (codes "native")
    ∷ []

-- they are all that is told of it, before the dead ones in byte order of their own names
whole_file : response_element sources None (YoungestNode (record { rev = 2; path = codes "/a"; node = marked_file.node }))
    ≡ element (codes "D:response") [] (joined (text_element (codes "D:href") [] (codes "/svn/demo/a")) (element (codes "D:propstat") [] (joined (element (codes "D:prop") [] (all_of whole_file_elements)) (text_element (codes "D:status") [] (codes "HTTP/1.1 200 OK")))))
unfolding response_about told_of value_named live_named live_value dead_values dead_value value_content base64_text owner_element lock_element tag_of parent_text target_text resource_text url_text body_text page_text xml_text uri_of digits iso_text http_text part_at xml_plain is_utf8 chars encode encode_symbols
whole_file = refl

-- no prefix may be bound to the namespace of the prefix xml, which is bound to it without that
xml_tag : tag_of (record { space = codes "http://www.w3.org/XML/1998/namespace"; name = codes "lang" })
    ≡ record { name = codes "xml:lang"; attributes = [] }
unfolding tag_of uri_of
xml_tag = refl
