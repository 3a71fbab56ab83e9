-- What is told of a subject, by what the trees have of it.
use Rattle.std.proofs.Common.{Ordering, Less, Equal, Greater, subst, ◌≡◌, ◌<◌, ℕ, zero, suc, Bool, true, cond, List, [], ◌∷◌, Option, None, Some, length, map, get_or, refl, sym, ap, ◌∙◌, arith}
use Rattle.std.specs.Prelude.{slice_index_or, if◌then◌else◌}
use Rattle.std.specs.BTreeMap.{insert_entry}
use Rattle.std.specs.List.{IsAmong}
use Rattle.std.specs.FinMap.Entries.{find-where_key}
use Rattle.std.specs.Ordering.{match_ordering, nat_cmp}
use Rattle.std.specs.Cmp.Lexicographic.{slice_cmp}
use Rattle.std.proofs.lemmas.Map.Lookups.{exact_bytes}
use Rattle.rev_nodes.specs.declared.commit.Commit.{Commit}
use Rattle.rev_nodes.specs.Forests.{ForestRevision, Forest, no_revision, without_numbers, repository_of, revision_at}
use Rattle.authz_file.specs.declared.rule.Rule.{Rule}
use Rattle.authz_check.specs.Access.{can_read}
use Rattle.log_access.specs.declared.level.Level.{Level}
use Rattle.log_access.specs.Levels.{shows_props, shows_author}
use Rattle.log_access.specs.Records.{ShownRecord, some_author, record_at, shown_record}
use Rattle.log_access.specs.Shown.{shown_revision, shown_nothing, shown_of, log_in}
use Rattle.path_locks.specs.LockStates.{LockState, lock_at, shown_locks}
use Rattle.prop_values.specs.Places.{Facts}
use Rattle.prop_values.specs.Records.{AreSameBesideRecord}
use Rattle.prop_values.specs.Subjects.{told_revision, told_lock, told_of}
use Rattle.prop_values.specs.declared.subject.Subject.{Subject}
use Rattle.prop_values.specs.declared.subject.Subject.TheVariants.{YoungestNode, RevisionNode, WholeRevision}
use Rattle.prop_requests.specs.Sights.{SightState, sees, sources_of, sources_by}
use Rattle.prop_requests.specs.Levels.{level_in, IsKnown, AreKnown}
use Rattle.prop_requests.specs.declared.known_level.KnownLevel.{KnownLevel}
use Rattle.prop_requests.specs.Entered.{CanBeTold}

-- the lock on a readable path is shown
pub lock_shown : (reads : List ℕ → Bool) (state : LockState) (path : List ℕ) → reads path ≡ true → lock_at path state ≡ lock_at path (shown_locks reads state)
lock_shown reads state path readable =
    sym (find-where_key (slice_cmp nat_cmp) reads path (λ x tied. ap reads (sym (exact_bytes path x tied))) state.locks ∙ ap (λ b. cond b (lock_at path state) None) readable)

log_at : (reads : List ℕ → Bool) (revisions : List ForestRevision) (rev : ℕ) → rev < length revisions → (get_or (map (shown_revision reads) (map without_numbers revisions)) rev shown_nothing).log ≡ shown_record reads (without_numbers (get_or revisions rev no_revision))
log_at reads [] rev there = absurd (omega (arith, there))
log_at reads (r ∷ rs) zero there = refl
log_at reads (r ∷ rs) (suc rev) there = log_at reads rs rev (omega (arith, there))

-- the record of a revision that is there, as it is shown
pub log_in-shown : (forest : Forest) (rules : List Rule) (user : Option (List ℕ)) (rev : ℕ) → rev < length forest.revisions → log_in (shown_of (repository_of forest) rules user) rev ≡ shown_record (can_read rules forest.name user) (without_numbers (revision_at forest rev))
unfolding shown_of
log_in-shown forest rules user rev there = log_at (can_read rules forest.name user) forest.revisions rev there

-- the revision that is told of is there
pub told_there : (sight : SightState) (subject : Subject) → CanBeTold sight subject → told_revision subject < length sight.trees.revisions
told_there sight (YoungestNode place) can = can.0
told_there sight (RevisionNode place) can = can
told_there sight (WholeRevision rev) can = can

-- what is told of a subject, part by part
pub told_is : (sight : SightState) (subject : Subject) (level : Level) (commit : Commit) (told : Facts) → CanBeTold sight subject
    → level ≡ level_in sight (told_revision subject)
    → commit ≡ (revision_at sight.trees (told_revision subject)).commit
    → told.root ≡ sight.root
    → told.uuid ≡ sight.trees.uuid
    → told.lock ≡ told_lock (sources_by sight) subject
    → told.props ≡ (if shows_props level then commit.props else [])
    → told.author ≡ (if shows_author level then some_author commit.author else None)
    → told.moment ≡ (if shows_author level then Some commit.moment else None)
    → told ≡ told_of (sources_by sight) subject
unfolding told_of sources_of shown_of
told_is sight subject level commit told can level_is commit_is root_is uuid_is lock_is props_is author_is moment_is =
    let rev = told_revision subject in
    let shown : record_at (sees sight) (without_numbers (revision_at sight.trees rev)) level ≡ log_in (shown_of (repository_of sight.trees) sight.rules sight.user) rev = ap (record_at (sees sight) (without_numbers (revision_at sight.trees rev))) level_is ∙ sym (log_in-shown sight.trees sight.rules sight.user rev (told_there sight subject can)) in
    λ i. record {
      root = root_is i;
      uuid = uuid_is i;
      lock = lock_is i;
      props = (props_is ∙ ap (λ (c : Commit). if shows_props level then c.props else []) commit_is ∙ ap (λ (r : ShownRecord). r.props) shown) i;
      author = (author_is ∙ ap (λ (c : Commit). if shows_author level then some_author c.author else None) commit_is ∙ ap (λ (r : ShownRecord). r.author) shown) i;
      moment = (moment_is ∙ ap (λ (c : Commit). if shows_author level then Some c.moment else None) commit_is ∙ ap (λ (r : ShownRecord). r.moment) shown) i;
    }

-- what is told without the record, part by part
pub told_beside : (sight : SightState) (subject : Subject) (told : Facts) → told.root ≡ sight.root → told.uuid ≡ sight.trees.uuid → told.lock ≡ told_lock (sources_by sight) subject → AreSameBesideRecord told (told_of (sources_by sight) subject)
unfolding told_of sources_of shown_of
told_beside sight subject told root_is uuid_is lock_is = record { root = root_is; uuid = uuid_is; lock = lock_is }

-- ---- levels that are known

-- a level that a map has is that of its revision
pub known_among : {K : Type 0} (sight : SightState) (es : List (K × KnownLevel)) (known : KnownLevel) → AreKnown sight es → IsAmong (map (λ (e : K × KnownLevel). e.1) es) known → IsKnown sight known
known_among sight [] known all among = absurd (let h = among.1.0 in omega (arith, h))
known_among {K} sight (e ∷ es) known all among = at among.0 among.1.0 among.1.1 (λ among. known_among sight es known all.1 among)
  where
    at : (i : ℕ) → i < length (e.1 ∷ map (λ (e : K × KnownLevel). e.1) es) → known ≡ slice_index_or (e.1 ∷ map (λ (e : K × KnownLevel). e.1) es) i known → (IsAmong (map (λ (e : K × KnownLevel). e.1) es) known → IsKnown sight known) → IsKnown sight known
    at zero there is behind = subst (λ (k : KnownLevel). IsKnown sight k) (sym is) all.0
    at (suc i) there is behind = behind (i, (omega (arith, there), is))

-- one more is known
pub known_put : {K : Type 0} (cmp : K → K → Ordering) (sight : SightState) (es : List (K × KnownLevel)) (key : K) (known : KnownLevel) → AreKnown sight es → IsKnown sight known → AreKnown sight (insert_entry cmp es key known)
known_put cmp sight [] key known all is = (is, tt)
known_put {K} cmp sight (e ∷ es) key known all is = by (cmp key e.0) (known_put cmp sight es key known all.1 is)
  where
    by : (o : Ordering) → AreKnown sight (insert_entry cmp es key known) → AreKnown sight (match_ordering o ((key, known) ∷ e ∷ es) ((e.0, known) ∷ es) (e ∷ insert_entry cmp es key known))
    by Less rest = (is, all)
    by Equal rest = (is, all.1)
    by Greater rest = (all.0, rest)

-- a map with one more level
pub known_more : {K : Type 0} (cmp : K → K → Ordering) (sight : SightState) (es new : List (K × KnownLevel)) (key : K) (known : KnownLevel) → new ≡ insert_entry cmp es key known → AreKnown sight es → IsKnown sight known → AreKnown sight new
known_more {K} cmp sight es new key known is all one = subst (λ (es : List (K × KnownLevel)). AreKnown sight es) (sym is) (known_put cmp sight es key known all one)
