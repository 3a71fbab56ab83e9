-- What has properties, and what is known of it: nothing but what the user is shown. A subject is a node that is asked as
-- one of the youngest revision, a node that is asked as one of a revision that was named, or a revision by its number.
use Rattle.std.specs.Prelude.{ℕ, List, [], ◌++◌, map, codes, Option, Some, None, if◌then◌else◌}
use Rattle.std.specs.List.{filter_map}
use Rattle.std.specs.Option.{option_map}
use Rattle.rev_nodes.specs.declared.kind.Kind.{Kind}
use Rattle.rev_nodes.specs.declared.kind.Kind.TheVariants.{File, Dir}
use Rattle.rev_nodes.specs.Entries.{is_child}
use Rattle.rev_nodes.specs.Trees.{Tree, TreeNode, at}
use Rattle.dav_names.specs.declared.resource.Resource.{Resource}
use Rattle.dav_names.specs.declared.resource.Resource.TheVariants.{Public, Me, Rvr, RevOnly, Txr, Txn}
use Rattle.dav_names.specs.Written.{target_text}
use Rattle.log_access.specs.Records.{ShownRecord}
use Rattle.path_locks.specs.declared.lock.Lock.{Lock}
use Rattle.path_locks.specs.LockStates.{LockState, lock_at}
use Rattle.prop_values.specs.Places.{NodePlace, Facts}
use Rattle.prop_values.specs.declared.subject.Subject.{Subject}
use Rattle.prop_values.specs.declared.subject.Subject.TheVariants.{YoungestNode, RevisionNode, WholeRevision}

-- all that answers about properties are told from: where the repository stands, its uuid, the number of its youngest
-- revision, and of each revision the nodes and the record as the user is shown them; and the locks of its paths
pub record PropSources : Type 0 where
  pub root : List ℕ
  pub uuid : List ℕ
  pub youngest : ℕ
  pub nodes_of : ℕ → Tree
  pub facts_of : ℕ → ShownRecord
  pub locks : LockState

-- the node that has the properties, where that isn't a revision
abbrev pub subject_place : Subject → Option NodePlace
subject_place (YoungestNode place) = Some place
subject_place (RevisionNode place) = Some place
subject_place (WholeRevision rev) = None

-- the resource that it is asked as
abbrev pub resource_of : Subject → Resource
resource_of (YoungestNode place) = Public place.path
resource_of (RevisionNode place) = Rvr place.rev place.path
resource_of (WholeRevision rev) = RevOnly rev

-- what the target of a node of this kind ends with: a slash where it is a directory
abbrev pub kind_end : Kind → List ℕ
kind_end File = []
kind_end Dir = codes "/"

-- what its target ends with: a slash where it is a directory
abbrev pub subject_end : Subject → List ℕ
subject_end (YoungestNode place) = kind_end place.node.kind
subject_end (RevisionNode place) = kind_end place.node.kind
subject_end (WholeRevision rev) = []

-- where it is: its target, which ends with a slash where it is a directory
abbrev pub subject_href : List ℕ → Subject → List ℕ
subject_href root subject = target_text root (resource_of subject) ++ subject_end subject

-- ---- of a resource

-- a node that was found in a revision, at its path
abbrev pub found_place : ℕ → List ℕ → TreeNode → NodePlace
found_place rev path found = record { rev = rev; path = path; node = found.node }

-- the node that stands at a path of a revision, as it is shown
abbrev pub place_in : PropSources → ℕ → List ℕ → Option NodePlace
place_in sources rev path = option_map (found_place rev path) (at path (sources.nodes_of rev))

-- what a resource is, where it has properties: a node of the youngest revision or of a named one, where one is shown at
-- its path, or a revision; what belongs to a transaction, or stands for the repository, has none
unfoldable pub subject_of : PropSources → Resource → Option Subject
subject_of sources (Public path) = option_map YoungestNode (place_in sources sources.youngest path)
subject_of sources Me = None
subject_of sources (Rvr rev path) = option_map RevisionNode (place_in sources rev path)
subject_of sources (RevOnly rev) = Some (WholeRevision rev)
subject_of sources (Txr name path) = None
subject_of sources (Txn name) = None

-- ---- its children

-- what a place of a tree is as a child of this directory of this revision, if it is one
abbrev pub child_place : ℕ → List ℕ → List ℕ × TreeNode → Option NodePlace
child_place rev directory place =
    if is_child directory place.0 then Some (found_place rev place.0 place.1) else None

-- the children of a node that the user is shown, in byte order of their paths; a file has none
abbrev pub child_places : PropSources → NodePlace → List NodePlace
child_places sources place = filter_map (child_place place.rev place.path) (sources.nodes_of place.rev)

-- the children of it that the user is shown, each asked as the same kind of resource; a revision has none
unfoldable pub children_of : PropSources → Subject → List Subject
children_of sources (YoungestNode place) = map YoungestNode (child_places sources place)
children_of sources (RevisionNode place) = map RevisionNode (child_places sources place)
children_of sources (WholeRevision rev) = []

-- ---- what is told of it

-- the revision that is told of: that of the last change at a node or below it, and a revision itself
abbrev pub told_revision : Subject → ℕ
told_revision (YoungestNode place) = place.node.created
told_revision (RevisionNode place) = place.node.created
told_revision (WholeRevision rev) = rev

-- the lock that is told of: of a node of the youngest revision that on its path, where there is one
abbrev pub told_lock : PropSources → Subject → Option Lock
told_lock sources (YoungestNode place) = lock_at place.path sources.locks
told_lock sources (RevisionNode place) = None
told_lock sources (WholeRevision rev) = None

-- what is told of a subject, where this record is that of the revision that is told of, as the user is shown it
abbrev pub told_with : PropSources → Subject → ShownRecord → Facts
told_with sources subject shown = record {
  root = sources.root;
  uuid = sources.uuid;
  lock = told_lock sources subject;
  props = shown.props;
  author = shown.author;
  moment = shown.moment;
}

-- what is told of a subject
unfoldable pub told_of : PropSources → Subject → Facts
told_of sources subject = told_with sources subject (sources.facts_of (told_revision subject))
