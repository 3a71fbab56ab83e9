-- What a PROPFIND answers: a multistatus (RFC 4918, sections 9.1 and 13).
use Rattle.std.specs.Prelude.{ℕ, Bool, List, [], ◌∷◌, Option, codes, if◌then◌else◌}
use Rattle.std.specs.Option.{option_map}
use Rattle.dsv_base.specs.declared.prop_name.PropName.{PropName}
use Rattle.dav_names.specs.declared.resource.Resource.{Resource}
use Rattle.dav_documents.specs.Written.{Written, element, for_each, body_text}
use Rattle.prop_values.specs.PropTags.{prefix_bindings}
use Rattle.prop_values.specs.Subjects.{PropSources, subject_of, children_of}
use Rattle.prop_values.specs.Responses.{response_element}
use Rattle.prop_values.specs.declared.subject.Subject.{Subject}

-- the answer about several, one after another
unfoldable pub multistatus_tree : PropSources → Option (List PropName) → List Subject → Written
multistatus_tree sources wanted subjects =
    element (codes "D:multistatus") prefix_bindings (for_each (response_element sources wanted) subjects)

-- what is asked about: it alone, or it and then its children that are shown
abbrev pub asked_subjects : PropSources → Bool → Subject → List Subject
asked_subjects sources children subject = subject ∷ (if children then children_of sources subject else [])

-- the bytes of the answer about a resource, and where they are asked too its children, to who wants all properties, or
-- those of these names; there is none where the user is shown no such resource
unfoldable pub propfind_text : PropSources → Resource → Bool → Option (List PropName) → Option (List ℕ)
propfind_text sources resource children wanted =
    option_map (λ subject. body_text (multistatus_tree sources wanted (asked_subjects sources children subject)))
    (subject_of sources resource)
