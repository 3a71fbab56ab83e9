-- The dead properties: those that users set, of which the server only keeps name and value (RFC 4918, section 4.1).
use Rattle.std.specs.Prelude.{ℕ, List, map, codes, Option, Some, None}
use Rattle.std.specs.List.{find}
use Rattle.std.specs.Option.{option_map}
use Rattle.std.specs.FinMap.{put}
use Rattle.std.specs.Ordering.{nat_cmp}
use Rattle.std.specs.Cmp.Lexicographic.{slice_cmp}
use Rattle.dsv_base.specs.declared.prop.Prop.{Prop}
use Rattle.dsv_base.specs.declared.prop_name.PropName.{PropName}
use Rattle.dsv_dates.specs.Dates.{iso_text}
use Rattle.prop_values.specs.PropTags.{same_name, dead_name}
use Rattle.prop_values.specs.Contents.{Content, value_content}
use Rattle.prop_values.specs.Places.{Facts}
use Rattle.prop_values.specs.declared.subject.Subject.{Subject}
use Rattle.prop_values.specs.declared.subject.Subject.TheVariants.{YoungestNode, RevisionNode, WholeRevision}

-- properties by name and value
abbrev pub named_values : List Prop → List (List ℕ × List ℕ)
named_values props = map (λ prop. (prop.name, prop.value)) props

-- one value more, at its name's place in byte order, where there is a value
abbrev pub with_shown : List ℕ → Option (List ℕ) → List (List ℕ × List ℕ) → List (List ℕ × List ℕ)
with_shown name None values = values
with_shown name (Some value) values = put (slice_cmp nat_cmp) name value values

-- the properties of a revision by name and value, as they are shown, in byte order of the names: its author and its date,
-- as Subversion writes it, are among them where they are shown
abbrev pub revision_values : Facts → List (List ℕ × List ℕ)
revision_values told =
    with_shown (codes "svn:author") told.author
    (with_shown (codes "svn:date") (option_map iso_text told.moment) (named_values told.props))

-- the dead properties of a node or a revision by name and value, in byte order of the names
unfoldable pub dead_values : Facts → Subject → List (List ℕ × List ℕ)
dead_values told (YoungestNode place) = named_values place.node.props
dead_values told (RevisionNode place) = named_values place.node.props
dead_values told (WholeRevision rev) = revision_values told

-- the value of the dead property that has this name in WebDAV, where there is one
unfoldable pub dead_value : Facts → Subject → PropName → Option Content
dead_value told subject name =
    option_map (λ found. value_content found.1)
    (find (λ named. same_name (dead_name named.0) name) (dead_values told subject))
