-- What a PROPFIND answers, or why it doesn't.
use Rattle.std.specs.Prelude.{ℕ, Bool, true, false, List, Option, Some, None, Result, Ok, Err}
use Rattle.dsv_base.specs.declared.prop_name.PropName.{PropName}
use Rattle.dav_names.specs.declared.resource.Resource.{Resource}
use Rattle.dav_bodies.specs.declared.body.Wanted.{Wanted}
use Rattle.dav_bodies.specs.declared.body.Wanted.TheVariants.{All, These}
use Rattle.prop_values.specs.Subjects.{PropSources}
use Rattle.dav_documents.specs.Written.{body_text}
use Rattle.prop_values.specs.Places.{NodePlace}
use Rattle.prop_requests.specs.declared.asked_as.AskedAs.{AskedAs}
use Rattle.prop_requests.specs.Spots.{subject_as}
use Rattle.prop_requests.specs.Multistatus.{multistatus_tree, asked_subjects, propfind_text}
use Rattle.prop_requests.specs.declared.propfind_fault.PropfindFault.{PropfindFault}
use Rattle.prop_requests.specs.declared.propfind_fault.PropfindFault.TheVariants.{NoNode, NoMemory}

-- want of memory, which is no answer on the resource
abbrev pub is_free_of_propfind : PropfindFault → Bool
is_free_of_propfind NoMemory = true
is_free_of_propfind NoNode = false

-- the names of the properties that are wanted, where not all are
abbrev pub wanted_names : Wanted → Option (List PropName)
wanted_names All = None
wanted_names (These names) = Some names

-- an answer, where there is a node or a revision to tell of
abbrev pub or_no_such_node : Option (List ℕ) → Result (List ℕ) PropfindFault
or_no_such_node (Some text) = Ok text
or_no_such_node None = Err NoNode

-- what is answered about a node at its place, where there is one, that is asked about as this, and where they are asked
-- too about its children, to who wants all properties, or those of these names
abbrev pub about_place : PropSources → AskedAs → Bool → Option (List PropName) → Option NodePlace → Result (List ℕ) PropfindFault
about_place sources asked children wanted None = Err NoNode
about_place sources asked children wanted (Some place) =
    Ok (body_text (multistatus_tree sources wanted (asked_subjects sources children (subject_as asked place))))

-- the bytes of the answer about a resource, and where they are asked too its children, with the properties that are
-- wanted; NoNode where the user is shown no such resource
unfoldable pub propfind_answer : PropSources → Resource → Bool → Wanted → Result (List ℕ) PropfindFault
propfind_answer sources resource children wanted = or_no_such_node (propfind_text sources resource children (wanted_names wanted))
