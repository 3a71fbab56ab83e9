-- Where nothing of the record of a revision is asked for, the answer doesn't depend on it.
use Rattle.std.proofs.Common.{◌≡◌, Bool, true, false, not, ◌||◌, List, [], ◌∷◌, Option, None, Some, refl, ap, ◌∙◌}
use Rattle.std.specs.Prelude.{is_some, codes}
use Rattle.std.specs.List.{list_any}
use Rattle.dsv_base.specs.declared.prop_name.PropName.{PropName}
use Rattle.dav_documents.specs.Written.{element, joined, for_each}
use Rattle.prop_values.specs.LiveNames.{live_named}
use Rattle.prop_values.specs.LiveValues.{live_value, href_element, lock_content}
use Rattle.prop_values.specs.Subjects.{subject_href}
use Rattle.prop_values.specs.DeadValues.{dead_value, dead_values}
use Rattle.prop_values.specs.Places.{Facts}
use Rattle.prop_values.specs.Records.{tells_record, is_revision, asks_by, asks_record, wants_record, AreSameBesideRecord, IsSameForRecords}
use Rattle.prop_values.specs.Responses.{value_by, value_named, has_value, told_element, found_element, missing_element, wanted_propstats, response_about}
use Rattle.prop_values.specs.declared.live.Live.{Live}
use Rattle.prop_values.specs.declared.live.Live.TheVariants.{ResourceType, ContentLength, VersionName, CreationDate, LastModified, CreatorName, CheckedIn, LockDiscovery, RelativePath, RepositoryUuid, Md5Checksum, Sha1Checksum, PropertyCount}
use Rattle.prop_values.specs.declared.subject.Subject.{Subject}
use Rattle.prop_values.specs.declared.subject.Subject.TheVariants.{YoungestNode, RevisionNode, WholeRevision}

first_false : (a b : Bool) → (a || b) ≡ false → a ≡ false
first_false false b h = refl
first_false true b h = h

second_false : (a b : Bool) → (a || b) ≡ false → b ≡ false
second_false false b h = h
second_false true b h = absurd (cc)

module _ (a b : Facts) (same : AreSameBesideRecord a b) where
  same_locked : (subject : Subject) → live_value a subject LockDiscovery ≡ live_value b subject LockDiscovery
  unfolding live_value
  same_locked (YoungestNode place) = ap (λ root. Some (lock_content root a.lock)) same.root ∙ ap (λ lock. Some (lock_content b.root lock)) same.lock
  same_locked (RevisionNode place) = refl
  same_locked (WholeRevision rev) = refl

  same_live : (subject : Subject) (live : Live) → tells_record live ≡ false → live_value a subject live ≡ live_value b subject live
  unfolding live_value
  same_live subject ResourceType h = refl
  same_live subject ContentLength h = refl
  same_live subject VersionName h = refl
  same_live subject CreationDate h = absurd (cc)
  same_live subject LastModified h = absurd (cc)
  same_live subject CreatorName h = absurd (cc)
  same_live subject CheckedIn h = rw same.root refl
  same_live subject LockDiscovery h = same_locked subject
  same_live subject RelativePath h = refl
  same_live subject RepositoryUuid h = rw same.uuid refl
  same_live subject Md5Checksum h = refl
  same_live subject Sha1Checksum h = refl
  same_live subject PropertyCount h = refl

  same_dead : (subject : Subject) (name : PropName) → is_revision subject ≡ false → dead_value a subject name ≡ dead_value b subject name
  unfolding dead_value dead_values
  same_dead (YoungestNode place) name h = refl
  same_dead (RevisionNode place) name h = refl
  same_dead (WholeRevision rev) name h = absurd (cc)

  same_by : (subject : Subject) (name : PropName) (found : Option Live) → asks_by subject found ≡ false → value_by a subject name found ≡ value_by b subject name found
  same_by subject name (Some live) h = same_live subject live h
  same_by subject name None h = same_dead subject name h

  same_named : (subject : Subject) (name : PropName) → asks_record subject name ≡ false → value_named a subject name ≡ value_named b subject name
  unfolding value_named
  same_named subject name h = same_by subject name (live_named name) h

  same_found : (subject : Subject) (names : List PropName) → list_any (asks_record subject) names ≡ false → for_each (found_element a subject) names ≡ for_each (found_element b subject) names
  same_found subject [] h = refl
  same_found subject (name ∷ names) h =
      ap (λ value. joined (told_element name value) (for_each (found_element a subject) names)) (same_named subject name (first_false _ _ h))
      ∙ ap (joined (found_element b subject name)) (same_found subject names (second_false _ _ h))

  same_missing : (subject : Subject) (names : List PropName) → list_any (asks_record subject) names ≡ false → for_each (missing_element a subject) names ≡ for_each (missing_element b subject) names
  same_missing subject [] h = refl
  same_missing subject (name ∷ names) h =
      ap (λ here. joined here (for_each (missing_element a subject) names)) (one_missing (same_named subject name (first_false _ _ h)))
      ∙ ap (joined (missing_element b subject name)) (same_missing subject names (second_false _ _ h))
    where
      one_missing : value_named a subject name ≡ value_named b subject name → missing_element a subject name ≡ missing_element b subject name
      one_missing is = rw is refl

  any_has : (subject : Subject) (names : List PropName) → list_any (asks_record subject) names ≡ false → list_any (has_value a subject) names ≡ list_any (has_value b subject) names
  any_has subject [] h = refl
  any_has subject (name ∷ names) h =
      ap (λ value. is_some value || list_any (has_value a subject) names) (same_named subject name (first_false _ _ h))
      ∙ ap (λ rest. has_value b subject name || rest) (any_has subject names (second_false _ _ h))

  any_lacks : (subject : Subject) (names : List PropName) → list_any (asks_record subject) names ≡ false → list_any (λ name. not (has_value a subject name)) names ≡ list_any (λ name. not (has_value b subject name)) names
  any_lacks subject [] h = refl
  any_lacks subject (name ∷ names) h =
      ap (λ value. not (is_some value) || list_any (λ name. not (has_value a subject name)) names) (same_named subject name (first_false _ _ h))
      ∙ ap (λ rest. not (has_value b subject name) || rest) (any_lacks subject names (second_false _ _ h))

  same_wanted : (wanted : Option (List PropName)) (subject : Subject) → wants_record wanted subject ≡ false → wanted_propstats a wanted subject ≡ wanted_propstats b wanted subject
  same_wanted None subject h = absurd (cc)
  same_wanted (Some names) subject h = rw (any_has subject names h, any_lacks subject names h, same_found subject names h, same_missing subject names h) refl

  same_response : (wanted : Option (List PropName)) (subject : Subject) → wants_record wanted subject ≡ false → response_about a wanted subject ≡ response_about b wanted subject
  unfolding response_about
  same_response wanted subject h =
      ap (λ root. element (codes "D:response") [] (joined (href_element (subject_href root subject)) (wanted_propstats a wanted subject))) same.root
      ∙ ap (λ propstats. element (codes "D:response") [] (joined (href_element (subject_href b.root subject)) propstats)) (same_wanted wanted subject h)

-- the answer about a subject where nothing of the record is wanted
pub unneeded : (wanted : Option (List PropName)) (subject : Subject) → wants_record wanted subject ≡ false → IsSameForRecords wanted subject
unneeded wanted subject h a b same = same_response a b same wanted subject h
