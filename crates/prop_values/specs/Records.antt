-- Where nothing of the record of a revision is needed to answer.
use Rattle.std.specs.Prelude.{◌≡◌, Bool, true, false, List, Option, Some, None}
use Rattle.std.specs.List.{list_any}
use Rattle.dsv_base.specs.declared.prop_name.PropName.{PropName}
use Rattle.prop_values.specs.LiveNames.{live_named}
use Rattle.prop_values.specs.Places.{Facts}
use Rattle.prop_values.specs.Responses.{response_about}
use Rattle.prop_values.specs.declared.live.Live.{Live}
use Rattle.prop_values.specs.declared.live.Live.TheVariants.{ResourceType, ContentLength, VersionName, CreationDate, LastModified, CreatorName, CheckedIn, LockDiscovery, RelativePath, RepositoryUuid, Md5Checksum, Sha1Checksum, PropertyCount}
use Rattle.prop_values.specs.declared.subject.Subject.{Subject}
use Rattle.prop_values.specs.declared.subject.Subject.TheVariants.{YoungestNode, RevisionNode, WholeRevision}

-- a live property tells something of the record of the revision that is told of: date or author
abbrev pub tells_record : Live → Bool
tells_record ResourceType = false
tells_record ContentLength = false
tells_record VersionName = false
tells_record CreationDate = true
tells_record LastModified = true
tells_record CreatorName = true
tells_record CheckedIn = false
tells_record LockDiscovery = false
tells_record RelativePath = false
tells_record RepositoryUuid = false
tells_record Md5Checksum = false
tells_record Sha1Checksum = false
tells_record PropertyCount = false

-- the dead properties of this are of the record of a revision: it is a revision
abbrev pub is_revision : Subject → Bool
is_revision (YoungestNode place) = false
is_revision (RevisionNode place) = false
is_revision (WholeRevision rev) = true

-- the property of a name, by the live one that has this name, is told from the record
abbrev pub asks_by : Subject → Option Live → Bool
asks_by subject (Some live) = tells_record live
asks_by subject None = is_revision subject

-- the property of this name is told from the record
abbrev pub asks_record : Subject → PropName → Bool
asks_record subject name = asks_by subject (live_named name)

-- something that is wanted is told from the record of the revision that is told of: all properties, or one of these names
abbrev pub wants_record : Option (List PropName) → Subject → Bool
wants_record None subject = true
wants_record (Some names) subject = list_any (asks_record subject) names

-- these say the same but of the record
pub record AreSameBesideRecord (a b : Facts) : Type 0 where
  pub root : a.root ≡ b.root
  pub uuid : a.uuid ≡ b.uuid
  pub lock : a.lock ≡ b.lock

-- the answer about this is the same whatever is shown of the record
abbrev pub IsSameForRecords : Option (List PropName) → Subject → Type 0
IsSameForRecords wanted subject =
    (a b : Facts) → AreSameBesideRecord a b → response_about a wanted subject ≡ response_about b wanted subject
