-- The entries of a directory as what has properties.
use Rattle.std.specs.Prelude.{ℕ, ◌≡◌, ◌<◌, Bool, true, false, IsTrue, List, [], Option, None, Some, length, if◌then◌else◌}
use Rattle.std.specs.Option.{option_map}
use Rattle.std.specs.List.{filter_map}
use Rattle.dsv_base.specs.Paths.{is_path, join_text}
use Rattle.rev_nodes.specs.declared.entry.Entry.{Entry}
use Rattle.rev_nodes.specs.Forests.{Forest, place_at, id_at}
use Rattle.rev_nodes.specs.Entries.{AreEntriesOf}
use Rattle.prop_values.specs.declared.subject.Subject.{Subject}
use Rattle.prop_values.specs.declared.subject.Subject.TheVariants.{YoungestNode, RevisionNode, WholeRevision}
use Rattle.prop_requests.specs.Sights.{SightState, sees}
use Rattle.prop_requests.specs.Spots.{SpotState, subject_at}

-- where the entry of this directory is asked about
abbrev pub spot_below : SpotState → Entry → SpotState
spot_below directory entry =
    record { asked = directory.asked; rev = directory.rev; path = join_text directory.path entry.name }

-- what stands at a spot as what has properties, where the user may read its path
abbrev pub spot_subject : SightState → SpotState → Option Subject
spot_subject sight spot =
    if sees sight spot.path
    then option_map (λ place. subject_at spot place.here.node) (place_at sight.trees spot.rev spot.path)
    else None

-- an entry of a directory as what has properties, where the user may read its path
abbrev pub entry_subject : SightState → SpotState → Entry → Option Subject
entry_subject sight directory entry = spot_subject sight (spot_below directory entry)

-- the entries of a directory that the user may read, as what has properties
abbrev pub entry_subjects : SightState → SpotState → List Entry → List Subject
entry_subjects sight directory entries = filter_map (entry_subject sight directory) entries

-- an entry's node stands in the directory
pub record IsEntered (sight : SightState) (directory : SpotState) (entry : Entry) : Type 0 where
  pub id_is : id_at sight.trees directory.rev (join_text directory.path entry.name) ≡ Some entry.id
  pub path : IsTrue (is_path (join_text directory.path entry.name))

-- wherever the number stands, these stand in it, if its children are asked too, and else these are none
abbrev pub AreAskedEntries : Forest → ℕ → Bool → List Entry → Type 0
AreAskedEntries forest id true entries = AreEntriesOf forest id entries
AreAskedEntries forest id false entries = entries ≡ []

-- a subject can be told of: the revision that is told of is there, and of a node of the youngest revision, on which there
-- may be a lock, the user may read the path
abbrev pub CanBeTold : SightState → Subject → Type 0
CanBeTold sight (YoungestNode place) = (place.node.created < length sight.trees.revisions) × (sees sight place.path ≡ true)
CanBeTold sight (RevisionNode place) = place.node.created < length sight.trees.revisions
CanBeTold sight (WholeRevision rev) = rev < length sight.trees.revisions
