-- Answers about a small repository, computed.
use Rattle.std.proofs.Common.{◌≡◌, ℕ, zero, suc, true, false, List, [], ◌∷◌, ◌++◌, None, Some, refl}
use Rattle.std.specs.Prelude.{codes}
use Rattle.std.specs.Fmt.{digits}
use Rattle.std.specs.Str.{is_utf8, chars}
use Rattle.base64.specs.Rfc4648.{encode_symbols}
use Rattle.std.proofs.Math.Utf8.{encode}
use Rattle.dsv_base.specs.Escapes.{xml_text, xml_plain, url_text}
use Rattle.dsv_base.specs.Paths.{parent_text}
use Rattle.dsv_base.specs.declared.prop_name.PropName.{PropName}
use Rattle.dsv_dates.specs.Dates.{iso_text, http_text, part_at}
use Rattle.rev_nodes.specs.declared.kind.Kind.TheVariants.{File}
use Rattle.rev_nodes.specs.Trees.{Tree, TreeNode, new_dir, new_file, new_line}
use Rattle.dav_names.specs.declared.resource.Resource.TheVariants.{Public, Me, Rvr, RevOnly}
use Rattle.dav_names.specs.Written.{target_text, resource_text}
use Rattle.dav_documents.specs.Namespaces.{uri_of}
use Rattle.dav_documents.specs.Written.{page_text, body_text}
use Rattle.log_access.specs.Records.{ShownRecord}
use Rattle.log_access.specs.declared.level.Level.TheVariants as levels
use Rattle.path_locks.specs.declared.lock.Lock.{Lock}
use Rattle.path_locks.specs.LockStates.{no_locks, with_lock}
use Rattle.prop_values.specs.PropTags.{tag_of}
use Rattle.prop_values.specs.Contents.{value_content, base64_text}
use Rattle.prop_values.specs.LiveNames.{live_named}
use Rattle.prop_values.specs.Subjects.{PropSources, told_of, subject_of, children_of}
use Rattle.prop_values.specs.LiveValues.{live_value, owner_element, lock_element}
use Rattle.prop_values.specs.DeadValues.{dead_values, dead_value}
use Rattle.prop_values.specs.Responses.{value_named, response_about}
use Rattle.prop_requests.specs.Multistatus.{multistatus_tree, propfind_text}

-- ---- the repository

-- a file whose own property `svn:eol-style` is `native`, and whose custom one `note` is a byte that no document holds
abbrev marked_file : TreeNode
marked_file = record {
  node = record {
    kind = File;
    props = record { name = codes "note"; value = 1 ∷ [] } ∷ record { name = codes "svn:eol-style"; value = codes "native" } ∷ [];
    text = codes "abc";
    created = 1;
  };
  line = new_line 1;
}

-- the nodes that the user is shown in revision 2: a child `sec` of the root is hidden
abbrev nodes_2 : Tree
nodes_2 = (codes "/", new_dir 2) ∷ (codes "/a", marked_file) ∷ (codes "/b c", new_dir 2) ∷ (codes "/b c/x", new_file (codes "xy") 2) ∷ []

-- revision 1 is shown, and nothing of revision 2
abbrev facts : ℕ → ShownRecord
facts zero = record { level = levels.None; props = []; author = None; moment = None; changed = [] }
facts (suc zero) = record {
  level = levels.Full;
  props = record { name = codes "svn:log"; value = codes "first" } ∷ [];
  author = Some (codes "ann");
  moment = Some 784111777000000;
  changed = [];
}
facts (suc (suc rev)) = record { level = levels.None; props = []; author = None; moment = None; changed = [] }

abbrev sources : PropSources
sources = record {
  root = codes "/svn/demo";
  uuid = codes "u-1";
  youngest = 2;
  nodes_of = λ rev. nodes_2;
  facts_of = facts;
  locks = no_locks;
}

-- the same repository, in which `/a` is locked
abbrev lock : Lock
lock = record {
  path = codes "/a";
  token = codes "opaquelocktoken:1";
  owner = 1;
  owner_name = codes "ann";
  comment = codes "mine & <only>";
  moment = 784111777000000;
}

abbrev locked_sources : PropSources
locked_sources = record sources { locks = with_lock lock no_locks }

-- ---- names that are asked for

abbrev dav : List ℕ → PropName
dav name = record { space = codes "DAV:"; name = name }

abbrev own : List ℕ → PropName
own name = record { space = codes "http://subversion.tigris.org/xmlns/svn/"; name = name }

abbrev custom : List ℕ → PropName
custom name = record { space = codes "http://subversion.tigris.org/xmlns/custom/"; name = name }

-- a name of another namespace, and one without a namespace
abbrev foreign : PropName
foreign = record { space = codes "urn:a&b"; name = codes "x" }

abbrev bare : PropName
bare = record { space = []; name = codes "x" }

-- ---- documents by what stands in them

abbrev document_of : List ℕ → List ℕ
document_of inside =
    codes "<?xml version=\"1.0\" encoding=\"utf-8\"?>\n<D:multistatus xmlns:D=\"DAV:\" xmlns:V=\"http://subversion.tigris.org/xmlns/dav/\" xmlns:S=\"http://subversion.tigris.org/xmlns/svn/\" xmlns:C=\"http://subversion.tigris.org/xmlns/custom/\">"
    ++ inside ++ codes "</D:multistatus>\n"

abbrev response_of : List ℕ → List ℕ → List ℕ
response_of href inside = codes "<D:response><D:href>" ++ href ++ codes "</D:href>" ++ inside ++ codes "</D:response>"

abbrev found_of : List ℕ → List ℕ
found_of inside = codes "<D:propstat><D:prop>" ++ inside ++ codes "</D:prop><D:status>HTTP/1.1 200 OK</D:status></D:propstat>"

abbrev missing_of : List ℕ → List ℕ
missing_of inside = codes "<D:propstat><D:prop>" ++ inside ++ codes "</D:prop><D:status>HTTP/1.1 404 Not Found</D:status></D:propstat>"

-- ---- rows

-- two live properties of a file, in the order asked
two_live : propfind_text sources (Rvr 2 (codes "/a")) false (Some (dav (codes "version-name") ∷ dav (codes "getcontentlength") ∷ []))
    ≡ Some (document_of (response_of (codes "/svn/demo/!svn/rvr/2/a") (found_of (codes "<D:version-name>1</D:version-name><D:getcontentlength>3</D:getcontentlength>"))))
unfolding propfind_text subject_of children_of multistatus_tree response_about told_of value_named live_named live_value dead_values dead_value value_content base64_text owner_element lock_element tag_of parent_text target_text resource_text url_text body_text page_text xml_text uri_of digits iso_text http_text part_at xml_plain is_utf8 chars encode encode_symbols
two_live = refl

-- of a revision of which nothing is shown neither author nor date is told, and a directory has no length
not_shown : propfind_text sources (Public (codes "/b c")) false (Some (dav (codes "creator-displayname") ∷ dav (codes "version-name") ∷ dav (codes "creationdate") ∷ dav (codes "getlastmodified") ∷ dav (codes "getcontentlength") ∷ []))
    ≡ Some (document_of (response_of (codes "/svn/demo/b%20c/") (found_of (codes "<D:version-name>2</D:version-name>") ++ missing_of (codes "<D:creator-displayname/><D:creationdate/><D:getlastmodified/><D:getcontentlength/>"))))
unfolding propfind_text subject_of children_of multistatus_tree response_about told_of value_named live_named live_value dead_values dead_value value_content base64_text owner_element lock_element tag_of parent_text target_text resource_text url_text body_text page_text xml_text uri_of digits iso_text http_text part_at xml_plain is_utf8 chars encode encode_symbols
not_shown = refl

-- a directory and its children, of which a hidden one isn't told, nor what stands deeper
with_children : propfind_text sources (Public (codes "/")) true (Some (dav (codes "resourcetype") ∷ []))
    ≡ Some (document_of (response_of (codes "/svn/demo/") (found_of (codes "<D:resourcetype><D:collection/></D:resourcetype>")) ++ response_of (codes "/svn/demo/a") (found_of (codes "<D:resourcetype/>")) ++ response_of (codes "/svn/demo/b%20c/") (found_of (codes "<D:resourcetype><D:collection/></D:resourcetype>"))))
unfolding propfind_text subject_of children_of multistatus_tree response_about told_of value_named live_named live_value dead_values dead_value value_content base64_text owner_element lock_element tag_of parent_text target_text resource_text url_text body_text page_text xml_text uri_of digits iso_text http_text part_at xml_plain is_utf8 chars encode encode_symbols
with_children = refl

-- the children of a directory of a named revision are told as those of that revision
named_children : propfind_text sources (Rvr 2 (codes "/b c")) true (Some (dav (codes "checked-in") ∷ []))
    ≡ Some (document_of (response_of (codes "/svn/demo/!svn/rvr/2/b%20c/") (found_of (codes "<D:checked-in><D:href>/svn/demo/!svn/rvr/2/b%20c</D:href></D:checked-in>")) ++ response_of (codes "/svn/demo/!svn/rvr/2/b%20c/x") (found_of (codes "<D:checked-in><D:href>/svn/demo/!svn/rvr/2/b%20c/x</D:href></D:checked-in>"))))
unfolding propfind_text subject_of children_of multistatus_tree response_about told_of value_named live_named live_value dead_values dead_value value_content base64_text owner_element lock_element tag_of parent_text target_text resource_text url_text body_text page_text xml_text uri_of digits iso_text http_text part_at xml_plain is_utf8 chars encode encode_symbols
named_children = refl

-- a file has no children
no_children : propfind_text sources (Public (codes "/a")) true (Some (dav (codes "version-name") ∷ []))
    ≡ Some (document_of (response_of (codes "/svn/demo/a") (found_of (codes "<D:version-name>1</D:version-name>"))))
unfolding propfind_text subject_of children_of multistatus_tree response_about told_of value_named live_named live_value dead_values dead_value value_content base64_text owner_element lock_element tag_of parent_text target_text resource_text url_text body_text page_text xml_text uri_of digits iso_text http_text part_at xml_plain is_utf8 chars encode encode_symbols
no_children = refl

-- names with a property and without one, some twice; a name of WebDAV that is none of ours, a foreign one, and one without a namespace
by_name : propfind_text sources (Public (codes "/a")) false (Some (own (codes "eol-style") ∷ dav (codes "displayname") ∷ custom (codes "note") ∷ own (codes "eol-style") ∷ custom (codes "eol-style") ∷ foreign ∷ bare ∷ foreign ∷ []))
    ≡ Some (document_of (response_of (codes "/svn/demo/a") (found_of (codes "<S:eol-style>native</S:eol-style><C:note V:encoding=\"base64\">AQ==</C:note><S:eol-style>native</S:eol-style>") ++ missing_of (codes "<D:displayname/><C:eol-style/><N:x xmlns:N=\"urn:a&amp;b\"/><x/><N:x xmlns:N=\"urn:a&amp;b\"/>"))))
unfolding propfind_text subject_of children_of multistatus_tree response_about told_of value_named live_named live_value dead_values dead_value value_content base64_text owner_element lock_element tag_of parent_text target_text resource_text url_text body_text page_text xml_text uri_of digits iso_text http_text part_at xml_plain is_utf8 chars encode encode_symbols
by_name = refl

-- where nothing asked for is there, what was found isn't told
all_missing : propfind_text sources (Rvr 2 (codes "/a")) false (Some (dav (codes "lockdiscovery") ∷ []))
    ≡ Some (document_of (response_of (codes "/svn/demo/!svn/rvr/2/a") (missing_of (codes "<D:lockdiscovery/>"))))
unfolding propfind_text subject_of children_of multistatus_tree response_about told_of value_named live_named live_value dead_values dead_value value_content base64_text owner_element lock_element tag_of parent_text target_text resource_text url_text body_text page_text xml_text uri_of digits iso_text http_text part_at xml_plain is_utf8 chars encode encode_symbols
all_missing = refl

-- where nothing is asked for, nothing was found
none_asked : propfind_text sources (Public (codes "/a")) false (Some [])
    ≡ Some (document_of (response_of (codes "/svn/demo/a") (codes "<D:propstat><D:prop/><D:status>HTTP/1.1 200 OK</D:status></D:propstat>")))
unfolding propfind_text subject_of children_of multistatus_tree response_about told_of value_named live_named live_value dead_values dead_value value_content base64_text owner_element lock_element tag_of parent_text target_text resource_text url_text body_text page_text xml_text uri_of digits iso_text http_text part_at xml_plain is_utf8 chars encode encode_symbols
none_asked = refl

-- a lock is told in full
locked : propfind_text locked_sources (Public (codes "/a")) false (Some (dav (codes "lockdiscovery") ∷ []))
    ≡ Some (document_of (response_of (codes "/svn/demo/a") (found_of (codes "<D:lockdiscovery><D:activelock><D:locktype><D:write/></D:locktype><D:lockscope><D:exclusive/></D:lockscope><D:depth>0</D:depth><D:owner>mine &amp; &lt;only&gt;</D:owner><D:timeout>Infinite</D:timeout><D:locktoken><D:href>opaquelocktoken:1</D:href></D:locktoken><D:lockroot><D:href>/svn/demo/a</D:href></D:lockroot></D:activelock></D:lockdiscovery>"))))
unfolding propfind_text subject_of children_of multistatus_tree response_about told_of value_named live_named live_value dead_values dead_value value_content base64_text owner_element lock_element tag_of parent_text target_text resource_text url_text body_text page_text xml_text uri_of digits iso_text http_text part_at xml_plain is_utf8 chars encode encode_symbols
locked = refl

-- a revision with all its properties, author and date among the dead ones; it has no children
whole_revision : propfind_text sources (RevOnly 1) true None
    ≡ Some (document_of (response_of (codes "/svn/demo/!svn/rev/1") (found_of (codes "<D:resourcetype><D:baseline/></D:resourcetype><D:version-name>1</D:version-name><D:creationdate>1994-11-06T08:49:37.000000Z</D:creationdate><D:creator-displayname>ann</D:creator-displayname><V:repository-uuid>u-1</V:repository-uuid><S:author>ann</S:author><S:date>1994-11-06T08:49:37.000000Z</S:date><S:log>first</S:log>"))))
unfolding propfind_text subject_of children_of multistatus_tree response_about told_of value_named live_named live_value dead_values dead_value value_content base64_text owner_element lock_element tag_of parent_text target_text resource_text url_text body_text page_text xml_text uri_of digits iso_text http_text part_at xml_plain is_utf8 chars encode encode_symbols
whole_revision = refl

-- a revision of which nothing is shown
hidden_revision : propfind_text sources (RevOnly 2) false None
    ≡ Some (document_of (response_of (codes "/svn/demo/!svn/rev/2") (found_of (codes "<D:resourcetype><D:baseline/></D:resourcetype><D:version-name>2</D:version-name><V:repository-uuid>u-1</V:repository-uuid>"))))
unfolding propfind_text subject_of children_of multistatus_tree response_about told_of value_named live_named live_value dead_values dead_value value_content base64_text owner_element lock_element tag_of parent_text target_text resource_text url_text body_text page_text xml_text uri_of digits iso_text http_text part_at xml_plain is_utf8 chars encode encode_symbols
hidden_revision = refl

-- all properties of a directory of the youngest revision
whole_directory : propfind_text sources (Public (codes "/")) false None
    ≡ Some (document_of (response_of (codes "/svn/demo/") (found_of (codes "<D:resourcetype><D:collection/></D:resourcetype><D:version-name>2</D:version-name><D:checked-in><D:href>/svn/demo/!svn/rvr/2</D:href></D:checked-in><D:lockdiscovery/><V:baseline-relative-path/><V:repository-uuid>u-1</V:repository-uuid><V:deadprop-count>0</V:deadprop-count>"))))
unfolding propfind_text subject_of children_of multistatus_tree response_about told_of value_named live_named live_value dead_values dead_value value_content base64_text owner_element lock_element tag_of parent_text target_text resource_text url_text body_text page_text xml_text uri_of digits iso_text http_text part_at xml_plain is_utf8 chars encode encode_symbols
whole_directory = refl

-- where the user is shown no such node, or the resource has no properties, there is no answer
no_answer : propfind_text sources (Public (codes "/sec")) true None ∷ propfind_text sources (Rvr 2 (codes "/sec/k")) false (Some []) ∷ propfind_text sources Me false None ∷ []
    ≡ None ∷ None ∷ None ∷ []
unfolding propfind_text subject_of children_of multistatus_tree response_about told_of value_named live_named live_value dead_values dead_value value_content base64_text owner_element lock_element tag_of parent_text target_text resource_text url_text body_text page_text xml_text uri_of digits iso_text http_text part_at xml_plain is_utf8 chars encode encode_symbols
no_answer = refl
