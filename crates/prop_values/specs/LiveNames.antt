-- The table of live properties: their order and their names.
use Rattle.std.specs.Prelude.{List, [], ◌∷◌, codes, Option}
use Rattle.std.specs.List.{find}
use Rattle.dsv_base.specs.declared.prop_name.PropName.{PropName}
use Rattle.dav_documents.specs.declared.namespace.Namespace.TheVariants.{Dav, SubversionDav}
use Rattle.prop_values.specs.PropTags.{name_within, same_name}
use Rattle.prop_values.specs.declared.live.Live.{Live}
use Rattle.prop_values.specs.declared.live.Live.TheVariants.{ResourceType, ContentLength, VersionName, CreationDate, LastModified, CreatorName, CheckedIn, LockDiscovery, RelativePath, RepositoryUuid, Md5Checksum, Sha1Checksum, PropertyCount}

-- the live properties, in the order in which they are told where all are asked for
abbrev pub live_order : List Live
live_order =
    ResourceType ∷ ContentLength ∷ VersionName ∷ CreationDate ∷ LastModified ∷ CreatorName ∷ CheckedIn ∷ LockDiscovery
    ∷ RelativePath ∷ RepositoryUuid ∷ Md5Checksum ∷ Sha1Checksum ∷ PropertyCount ∷ []

-- the name of a live property: the first eight are of WebDAV's own namespace, the others of Subversion's for WebDAV
abbrev pub live_name : Live → PropName
live_name ResourceType = name_within Dav (codes "resourcetype")
live_name ContentLength = name_within Dav (codes "getcontentlength")
live_name VersionName = name_within Dav (codes "version-name")
live_name CreationDate = name_within Dav (codes "creationdate")
live_name LastModified = name_within Dav (codes "getlastmodified")
live_name CreatorName = name_within Dav (codes "creator-displayname")
live_name CheckedIn = name_within Dav (codes "checked-in")
live_name LockDiscovery = name_within Dav (codes "lockdiscovery")
live_name RelativePath = name_within SubversionDav (codes "baseline-relative-path")
live_name RepositoryUuid = name_within SubversionDav (codes "repository-uuid")
live_name Md5Checksum = name_within SubversionDav (codes "md5-checksum")
live_name Sha1Checksum = name_within SubversionDav (codes "sha1-checksum")
live_name PropertyCount = name_within SubversionDav (codes "deadprop-count")

-- the live property of a name, if there is one
unfoldable pub live_named : PropName → Option Live
live_named name = find (λ live. same_name (live_name live) name) live_order
