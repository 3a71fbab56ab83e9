-- The values of the live properties (RFC 4918, sections 14 and 15; Subversion's notes on WebDAV).
use Rattle.std.specs.Prelude.{ℕ, List, [], length, drop, codes, Option, Some, None}
use Rattle.std.specs.Option.{option_map, option_and_then}
use Rattle.std.specs.Fmt.{decimal}
use Rattle.hex.specs.Hex.{encode_lower}
use Rattle.md5.specs.Md5.{md5}
use Rattle.sha1.specs.Sha1.{sha1}
use Rattle.dsv_dates.specs.Dates.{iso_text, http_text}
use Rattle.rev_nodes.specs.declared.kind.Kind.{Kind}
use Rattle.rev_nodes.specs.declared.kind.Kind.TheVariants.{File, Dir}
use Rattle.dav_names.specs.declared.resource.Resource.TheVariants.{Public, Rvr}
use Rattle.dav_names.specs.Written.{target_text}
use Rattle.dav_documents.specs.Written.{Written, empty_element, text_element, element, joined}
use Rattle.path_locks.specs.declared.lock.Lock.{Lock}
use Rattle.prop_values.specs.Contents.{Content, no_content, inside_content, text_content, value_content, content_element}
use Rattle.prop_values.specs.Places.{NodePlace, Facts}
use Rattle.prop_values.specs.Subjects.{subject_place, told_revision}
use Rattle.prop_values.specs.declared.subject.Subject.{Subject}
use Rattle.prop_values.specs.declared.subject.Subject.TheVariants.{YoungestNode, RevisionNode, WholeRevision}
use Rattle.prop_values.specs.declared.live.Live.{Live}
use Rattle.prop_values.specs.declared.live.Live.TheVariants.{ResourceType, ContentLength, VersionName, CreationDate, LastModified, CreatorName, CheckedIn, LockDiscovery, RelativePath, RepositoryUuid, Md5Checksum, Sha1Checksum, PropertyCount}

-- ---- what they are told from

-- the text of a node that is a file
abbrev pub text_of_kind : Kind → List ℕ → Option (List ℕ)
text_of_kind File text = Some text
text_of_kind Dir text = None

-- the text of a file; a directory and a revision have none
abbrev pub subject_text : Subject → Option (List ℕ)
subject_text subject = option_and_then (λ place. text_of_kind place.node.kind place.node.text) (subject_place subject)

-- ---- their parts

-- the element that refers to a target
abbrev pub href_element : List ℕ → Written
href_element target = text_element (codes "D:href") [] target

-- what kind of node it is: a directory is a collection, of a file nothing is told
abbrev pub kind_content : Kind → Content
kind_content File = no_content
kind_content Dir = inside_content (empty_element (codes "D:collection") [])

-- what kind of thing it is: a node by its kind, and a revision is a baseline
abbrev pub type_content : Subject → Content
type_content (YoungestNode place) = kind_content place.node.kind
type_content (RevisionNode place) = kind_content place.node.kind
type_content (WholeRevision rev) = inside_content (empty_element (codes "D:baseline") [])

-- the node as one of the revision in which it is asked, without a slash at the end
abbrev pub checked_in_content : List ℕ → NodePlace → Content
checked_in_content root place = inside_content (href_element (target_text root (Rvr place.rev place.path)))

-- what the owner of a lock said of it
unfoldable pub owner_element : List ℕ → Written
owner_element comment = content_element (codes "D:owner") [] (value_content comment)

-- a lock: it is for writing, exclusive, for its path alone and without an end; then what its owner said of it, its
-- token, and where its path is in the youngest revision (RFC 4918, section 14.1)
unfoldable pub lock_element : List ℕ → Lock → Written
lock_element root lock = element (codes "D:activelock") []
    (joined (element (codes "D:locktype") [] (empty_element (codes "D:write") []))
    (joined (element (codes "D:lockscope") [] (empty_element (codes "D:exclusive") []))
    (joined (text_element (codes "D:depth") [] (codes "0"))
    (joined (owner_element lock.comment)
    (joined (text_element (codes "D:timeout") [] (codes "Infinite"))
    (joined (element (codes "D:locktoken") [] (href_element lock.token))
    (element (codes "D:lockroot") [] (href_element (target_text root (Public lock.path))))))))))

-- the lock on a path if there is one, and else nothing
abbrev pub lock_content : List ℕ → Option Lock → Content
lock_content root (Some lock) = inside_content (lock_element root lock)
lock_content root None = no_content

-- the lock on it, which is told of a node of the youngest revision alone
abbrev pub discovered_lock : Facts → Subject → Option Content
discovered_lock told (YoungestNode place) = Some (lock_content told.root told.lock)
discovered_lock told (RevisionNode place) = None
discovered_lock told (WholeRevision rev) = None

-- when the last change at a node was, as HTTP writes it, where that is shown
abbrev pub modified_content : Facts → NodePlace → Option Content
modified_content told place = option_map (λ moment. text_content (http_text moment)) told.moment

-- ---- the table

-- the value of a live property here, where it has one: what kind of thing it is; of a file how long its text is; the
-- number of the revision that is told of; that revision's date, where it is shown; of a node the same as HTTP writes it;
-- that revision's author, where one is shown; of a node where it stands in its revision; of a node of the youngest
-- revision the lock on it; of a node its path without the first slash; the repository's uuid; of a file the MD5 and the
-- SHA-1 of its text in hexadecimal with small letters; of a node how many properties it has
unfoldable pub live_value : Facts → Subject → Live → Option Content
live_value told subject ResourceType = Some (type_content subject)
live_value told subject ContentLength = option_map (λ text. text_content (decimal (length text))) (subject_text subject)
live_value told subject VersionName = Some (text_content (decimal (told_revision subject)))
live_value told subject CreationDate =
    option_map (λ moment. text_content (iso_text moment)) told.moment
live_value told subject LastModified = option_and_then (modified_content told) (subject_place subject)
live_value told subject CreatorName = option_map value_content told.author
live_value told subject CheckedIn = option_map (checked_in_content told.root) (subject_place subject)
live_value told subject LockDiscovery = discovered_lock told subject
live_value told subject RelativePath = option_map (λ place. text_content (drop 1 place.path)) (subject_place subject)
live_value told subject RepositoryUuid = Some (text_content told.uuid)
live_value told subject Md5Checksum = option_map (λ text. text_content (encode_lower (md5 text))) (subject_text subject)
live_value told subject Sha1Checksum = option_map (λ text. text_content (encode_lower (sha1 text))) (subject_text subject)
live_value told subject PropertyCount =
    option_map (λ place. text_content (decimal (length place.node.props))) (subject_place subject)
