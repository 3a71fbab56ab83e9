-- What is told of one node or revision: its properties, with their statuses (RFC 4918, sections 9.1, 14.22 and 14.24).
use Rattle.std.specs.Prelude.{ℕ, Bool, not, ◌||◌, List, [], is_some, codes, Option, Some, None, if◌then◌else◌}
use Rattle.std.specs.List.{list_any}
use Rattle.std.specs.Option.{option_map_or}
use Rattle.dsv_base.specs.declared.prop_name.PropName.{PropName}
use Rattle.dav_documents.specs.Written.{Written, Nothing, text_element, element, joined, for_each}
use Rattle.prop_values.specs.PropTags.{dead_name}
use Rattle.prop_values.specs.Contents.{Content, no_content, value_content, property_element}
use Rattle.prop_values.specs.LiveNames.{live_order, live_name, live_named}
use Rattle.prop_values.specs.Places.{Facts}
use Rattle.prop_values.specs.Subjects.{PropSources, subject_href, told_of}
use Rattle.prop_values.specs.LiveValues.{live_value, href_element}
use Rattle.prop_values.specs.DeadValues.{dead_values, dead_value}
use Rattle.prop_values.specs.declared.live.Live.{Live}
use Rattle.prop_values.specs.declared.subject.Subject.{Subject}

-- ---- by name

-- the value of the property of this name, by the live property that has this name: the value of that, and where there is
-- none, of the dead property of this name
abbrev pub value_by : Facts → Subject → PropName → Option Live → Option Content
value_by told subject name (Some live) = live_value told subject live
value_by told subject name None = dead_value told subject name

-- the value of the property of this name, where it has one here: that of the live property of this name, and where no
-- live property has it, of the dead one
unfoldable pub value_named : Facts → Subject → PropName → Option Content
value_named told subject name = value_by told subject name (live_named name)

-- whether the property of this name has a value here
abbrev pub has_value : Facts → Subject → PropName → Bool
has_value told subject name = is_some (value_named told subject name)

-- the element of a property with this content, if it has one, and else nothing
abbrev pub told_element : PropName → Option Content → Written
told_element name content = option_map_or (property_element name) content Nothing

-- the element of the property of this name, if it has a value here, and else nothing
abbrev pub found_element : Facts → Subject → PropName → Written
found_element told subject name = told_element name (value_named told subject name)

-- the empty element of the property of this name, if it has no value here, and else nothing
abbrev pub missing_element : Facts → Subject → PropName → Written
missing_element told subject name =
    if has_value told subject name then Nothing else property_element name no_content

-- ---- all

-- the element of a live property, if it has a value here, and else nothing
abbrev pub live_element : Facts → Subject → Live → Written
live_element told subject live = told_element (live_name live) (live_value told subject live)

-- the element of a dead property, by its own name and its value
abbrev pub dead_element : List ℕ × List ℕ → Written
dead_element named = property_element (dead_name named.0) (value_content named.1)

-- the elements of all properties: of the live ones that have a value here, in the order of the table, and then of the dead
-- ones, in byte order of their own names
abbrev pub all_elements : Facts → Subject → Written
all_elements told subject =
    joined (for_each (live_element told subject) live_order) (for_each dead_element (dead_values told subject))

-- ---- the response

-- properties with the status that they have in common
abbrev pub propstat_element : List ℕ → Written → Written
propstat_element status properties =
    element (codes "D:propstat") []
    (joined (element (codes "D:prop") [] properties) (text_element (codes "D:status") [] status))

-- properties that were found, with their status
abbrev pub found_propstat : Written → Written
found_propstat properties = propstat_element (codes "HTTP/1.1 200 OK") properties

-- properties that weren't, with their status
abbrev pub missing_propstat : Written → Written
missing_propstat properties = propstat_element (codes "HTTP/1.1 404 Not Found") properties

-- those of these names that have a value here, in their order, each as often as it is asked for, with their status: unless
-- none of them has a value and some have none
abbrev pub found_part : Facts → Subject → List PropName → Written
found_part told subject names =
    if list_any (has_value told subject) names || not (list_any (λ name. not (has_value told subject name)) names)
    then found_propstat (for_each (found_element told subject) names)
    else Nothing

-- those of these names that have no value here, in their order, each as often as it is asked for, with their status, if
-- there are any
abbrev pub missing_part : Facts → Subject → List PropName → Written
missing_part told subject names =
    if list_any (λ name. not (has_value told subject name)) names
    then missing_propstat (for_each (missing_element told subject) names)
    else Nothing

-- the properties that are wanted, with their statuses: where all are, the live ones that have a value and then the dead
-- ones; where these names are, those of them that have a value and then those that have none
abbrev pub wanted_propstats : Facts → Option (List PropName) → Subject → Written
wanted_propstats told None subject = found_propstat (all_elements told subject)
wanted_propstats told (Some names) subject =
    joined (found_part told subject names) (missing_part told subject names)

-- the answer about a node or a revision, of which this is told: where it is, and the properties that are wanted with their
-- statuses
unfoldable pub response_about : Facts → Option (List PropName) → Subject → Written
response_about told wanted subject =
    element (codes "D:response") []
    (joined (href_element (subject_href told.root subject)) (wanted_propstats told wanted subject))

-- the answer about a node or a revision
abbrev pub response_element : PropSources → Option (List PropName) → Subject → Written
response_element sources wanted subject = response_about (told_of sources subject) wanted subject
