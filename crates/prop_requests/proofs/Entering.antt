-- The nodes that are told of, by what the trees have.
use Rattle.std.proofs.Common.{◌≡◌, ◌<◌, ◌≤◌, ◌+◌, Ok, Err, ℕ, zero, suc, Bool, true, false, cond, List, [], ◌∷◌, Option, None, Some, length, map, get_or, refl, sym, ap, ◌∙◌, subst, arith}
use Rattle.std.specs.Prelude.{filter, if◌then◌else◌, option_to_list}
use Rattle.std.specs.List.{All, filter_map, cons_option}
use Rattle.std.specs.Option.{option_map, option_map_or}
use Rattle.std.specs.Str.{bytes_eq}
use Rattle.std.specs.FinMap.{find}
use Rattle.std.specs.Ordering.{nat_cmp, eq_by_cmp}
use Rattle.std.specs.Cmp.Lexicographic.{slice_cmp}
use Rattle.std.proofs.lemmas.List.Elements.{All-nil, All-cons, All-head, All-tail}
use Rattle.std.proofs.lemmas.Slice.Eq.{bytes_eq-Decides}
use Rattle.dsv_base.specs.Paths.{is_path, parent_text, name_of, join_text}
use Rattle.dsv_base.proofs.Joins.{join_parent}
use Rattle.dsv_base.specs.declared.prop_name.PropName.{PropName}
use Rattle.dsv_base.specs.declared.txn_name.TxnName.{TxnName}
use Rattle.dav_names.specs.declared.resource.Resource.{Resource}
use Rattle.prop_values.specs.Responses.{response_element}
use Rattle.prop_requests.specs.Levels.{TellingState}
use Rattle.dav_names.specs.declared.resource.Resource.TheVariants.{Public, Me, Rvr, RevOnly, Txr, Txn}
use Rattle.prop_values.specs.declared.subject.Subject.TheVariants.{WholeRevision}
use Rattle.prop_requests.specs.declared.propfind_fault.PropfindFault.TheVariants.{NoNode}
use Rattle.prop_requests.specs.Multistatus.{multistatus_tree, asked_subjects, propfind_text}
use Rattle.prop_requests.specs.Propfinds.{or_no_such_node, about_place}
use Rattle.dav_documents.specs.Written.{Written, Nothing, for_each, body_text}
use Rattle.dav_documents.specs.Drafts.{Draft, with_elements}
use Rattle.dav_documents.proofs.Trees.{with_elements_joined}
use Rattle.std.proofs.lemmas.List.{length-map}
use Rattle.rev_nodes.specs.declared.entry.Entry.{Entry}
use Rattle.rev_nodes.specs.declared.node.Node.{Node}
use Rattle.rev_nodes.specs.Trees.{TreeNode, Tree}
use Rattle.rev_nodes.specs.Forests.{Numbered, ForestRevision, Forest, no_revision, without_numbers, tree_of, places_at, place_at, id_at, node_at, IsId, IsNodeOf}
use Rattle.rev_nodes.specs.Entries.{AreEntriesOf, is_child, entry_in, entries_in, IsSoundPlace, IsSound}
use Rattle.rev_nodes.specs.SoundNodes.{HasSoundNode, AreSoundNodes}
use Rattle.log_access.specs.Shown.{shown_node, shown_nodes, shown_of}
use Rattle.log_access.proofs.ShownNodes.{nodes_in-shown, node_in-shown, nothing_at, place_with}
use Rattle.prop_values.specs.Places.{NodePlace}
use Rattle.prop_values.specs.Subjects.{PropSources, found_place, place_in, child_place, child_places, subject_of, children_of}
use Rattle.prop_values.specs.declared.subject.Subject.{Subject}
use Rattle.prop_requests.specs.declared.asked_as.AskedAs.{AskedAs}
use Rattle.prop_requests.specs.declared.asked_as.AskedAs.TheVariants.{Youngest, Named}
use Rattle.prop_requests.specs.Sights.{SightState, sees, sources_of, sources_by}
use Rattle.prop_requests.specs.Spots.{SpotState, subject_as, subject_at}
use Rattle.prop_requests.specs.Entered.{spot_subject, entry_subject, entry_subjects, IsEntered, AreAskedEntries, CanBeTold}

-- ---- the revision of a node's last change is there

created_in : (places : List (List ℕ × Numbered)) (rev : ℕ) (path : List ℕ) (p : Numbered) → All (HasSoundNode rev) (tree_of places) → find (slice_cmp nat_cmp) path places ≡ Some p → p.here.node.created ≤ rev
created_in [] rev path p sound found = absurd (cc)
created_in (q ∷ qs) rev path p sound found = by (eq_by_cmp (slice_cmp nat_cmp) path q.0) found (λ later. created_in qs rev path p (All-tail (HasSoundNode rev) (q.0, q.1.here) (tree_of qs) sound) later)
  where
    by : (b : Bool) → cond b (Some q.1) (find (slice_cmp nat_cmp) path qs) ≡ Some p → (find (slice_cmp nat_cmp) path qs ≡ Some p → p.here.node.created ≤ rev) → p.here.node.created ≤ rev
    by true here behind =
        let same : q.1 ≡ p = cc in
        subst (λ (n : Numbered). n.here.node.created ≤ rev) same (All-head (HasSoundNode rev) (q.0, q.1.here) (tree_of qs) sound).created
    by false later behind = behind later

there_at : (revisions : List ForestRevision) (rev : ℕ) (path : List ℕ) (p : Numbered) → find (slice_cmp nat_cmp) path (get_or revisions rev no_revision).places ≡ Some p → rev < length revisions
there_at [] rev path p found = absurd (cc)
there_at (r ∷ rs) zero path p found = omega arith
there_at (r ∷ rs) (suc rev) path p found = let h = there_at rs rev path p found in omega (arith, h)

-- a node that stands somewhere was changed last in a revision that is there
pub created_there : (forest : Forest) (id : ℕ) (node : Node) → AreSoundNodes forest → IsId forest id → IsNodeOf forest id node → node.created < length forest.revisions
created_there forest id node sound known is =
    let place = place_with forest known.0 known.1 node (is known.0 known.1 known.2) in
    let below = created_in (places_at forest known.0) known.0 known.1 place.0 (sound known.0) place.1 in
    let there = there_at forest.revisions known.0 known.1 place.0 place.1 in
    let least : place.0.here.node.created < length forest.revisions = omega (arith, below, there) in
    subst (λ (n : Node). n.created < length forest.revisions) place.2 least

-- what can be told of at a spot
pub can_be_told : (sight : SightState) (spot : SpotState) (node : Node) → node.created < length sight.trees.revisions → sees sight spot.path ≡ true → CanBeTold sight (subject_at spot node)
can_be_told sight spot node there readable = by spot.asked
  where
    by : (asked : AskedAs) → CanBeTold sight (subject_as asked (record { rev = spot.rev; path = spot.path; node = node }))
    by Youngest = (there, readable)
    by Named = there

-- ---- what stands at a spot

module _ (sight : SightState) (rev : ℕ) (path : List ℕ) (readable : sees sight path ≡ true) where
  -- where no number stands, no node is shown
  pub none_in : id_at sight.trees rev path ≡ None → place_in (sources_by sight) rev path ≡ None
  unfolding sources_of
  none_in gone =
      ap (option_map (found_place rev path)) (node_in-shown sight.trees sight.rules sight.user rev path readable ∙ ap (option_map (λ (p : Numbered). shown_node (sees sight) p.here)) (nothing_at sight.trees rev path gone))

  -- the node of a number is shown where it stands
  pub one_in : (node : Node) → node_at sight.trees rev path ≡ Some node → place_in (sources_by sight) rev path ≡ Some (record { rev = rev; path = path; node = node })
  unfolding sources_of
  one_in node found =
      let place = place_with sight.trees rev path node found in
      ap (option_map (found_place rev path)) (node_in-shown sight.trees sight.rules sight.user rev path readable ∙ ap (option_map (λ (p : Numbered). shown_node (sees sight) p.here)) place.1)
      ∙ ap (λ (n : Node). Some (record { rev = rev; path = path; node = n })) place.2

-- ---- what stands in a directory

-- a child's parent is the directory
parent_of : (directory : List ℕ) (parent : Option (List ℕ)) → option_map_or (bytes_eq directory) parent false ≡ true → parent ≡ Some directory
parent_of directory None e = absurd (cc)
parent_of directory (Some p) e = ap (λ (q : List ℕ). Some q) (sym ((bytes_eq-Decides directory p).0 e))

joined_back : (directory path : List ℕ) → is_path path ≡ true → is_child directory path ≡ true → join_text directory (name_of path) ≡ path
joined_back directory path is child = join_parent path directory is (parent_of directory (parent_text path) child)

abbrev named : List ℕ × Numbered → Entry
named place = record { name = name_of place.0; id = place.1.id }

module _ (sight : SightState) (spot : SpotState) where
  enters : (place : List ℕ × Numbered) → IsSoundPlace sight.trees spot.rev place → is_child spot.path place.0 ≡ true → IsEntered sight spot (named place)
  enters place sound child =
      let back = joined_back spot.path place.0 sound.path child in
      record {
        id_is = ap (id_at sight.trees spot.rev) back ∙ ap (option_map (λ (p : Numbered). p.id)) sound.found;
        path = ap is_path back ∙ sound.path;
      }

  all_enter : (places : List (List ℕ × Numbered)) → All (IsSoundPlace sight.trees spot.rev) places → All (IsEntered sight spot) (filter_map (entry_in spot.path) places)
  all_enter [] sound = λ k d h. absurd (omega arith)
  all_enter (place ∷ places) sound = by_child (is_child spot.path place.0) refl (all_enter places (All-tail (IsSoundPlace sight.trees spot.rev) place places sound))
    where
      by_child : (b : Bool) → is_child spot.path place.0 ≡ b → All (IsEntered sight spot) (filter_map (entry_in spot.path) places) → All (IsEntered sight spot) (cons_option (if b then Some (named place) else None) (filter_map (entry_in spot.path) places))
      by_child true child rest = All-cons (IsEntered sight spot) (named place) (filter_map (entry_in spot.path) places) (enters place (All-head (IsSoundPlace sight.trees spot.rev) place places sound) child) rest
      by_child false child rest = rest

  -- the entries of the directory at the spot stand in it
  pub entries_enter : (entries : List Entry) → IsSound sight.trees → entries ≡ entries_in spot.path (places_at sight.trees spot.rev) → All (IsEntered sight spot) entries
  unfolding entries_in
  entries_enter entries sound are = subst (λ (es : List Entry). All (IsEntered sight spot) es) (sym are) (all_enter (places_at sight.trees spot.rev) (sound.places spot.rev))

  -- what is told of the entry of a place
  told_at : (place : List ℕ × Numbered) → IsSoundPlace sight.trees spot.rev place → is_child spot.path place.0 ≡ true → entry_subject sight spot (named place) ≡ (if sees sight place.0 then Some (subject_at (record { asked = spot.asked; rev = spot.rev; path = place.0 }) place.1.here.node) else None)
  told_at place sound child =
      ap (λ path. if sees sight path then option_map (λ (p : Numbered). subject_at (record { asked = spot.asked; rev = spot.rev; path = path }) p.here.node) (place_at sight.trees spot.rev path) else None) (joined_back spot.path place.0 sound.path child)
      ∙ ap (λ (found : Option Numbered). if sees sight place.0 then option_map (λ (p : Numbered). subject_at (record { asked = spot.asked; rev = spot.rev; path = place.0 }) p.here.node) found else None) sound.found

  shown_children : (places : List (List ℕ × Numbered)) → All (IsSoundPlace sight.trees spot.rev) places
      → map (subject_as spot.asked) (filter_map (child_place spot.rev spot.path) (shown_nodes (sees sight) (tree_of places))) ≡ entry_subjects sight spot (filter_map (entry_in spot.path) places)
  shown_children [] sound = refl
  shown_children (place ∷ places) sound = by_child (is_child spot.path place.0) refl (sees sight place.0) refl (shown_children places (All-tail (IsSoundPlace sight.trees spot.rev) place places sound))
    where
      others : Tree
      others = filter (λ p. sees sight p.0) (tree_of places)

      kid : NodePlace
      kid = record { rev = spot.rev; path = place.0; node = place.1.here.node }

      before : List NodePlace
      before = filter_map (child_place spot.rev spot.path) (shown_nodes (sees sight) (tree_of places))

      after : List Subject
      after = entry_subjects sight spot (filter_map (entry_in spot.path) places)

      told : is_child spot.path place.0 ≡ true → entry_subject sight spot (named place) ≡ (if sees sight place.0 then Some (subject_as spot.asked kid) else None)
      told child = told_at place (All-head (IsSoundPlace sight.trees spot.rev) place places sound) child

      by_child : (b : Bool) → is_child spot.path place.0 ≡ b → (r : Bool) → sees sight place.0 ≡ r
          → map (subject_as spot.asked) (filter_map (child_place spot.rev spot.path) (shown_nodes (sees sight) (tree_of places))) ≡ entry_subjects sight spot (filter_map (entry_in spot.path) places)
          → map (subject_as spot.asked) (filter_map (child_place spot.rev spot.path) (map (λ (p : List ℕ × TreeNode). (p.0, shown_node (sees sight) p.1)) (cond r ((place.0, place.1.here) ∷ others) others))) ≡ entry_subjects sight spot (cons_option (if b then Some (named place) else None) (filter_map (entry_in spot.path) places))
      by_child false child false unread rest = rest
      by_child false child true read rest = ap (λ c. map (subject_as spot.asked) (cons_option (if c then Some kid else None) before)) child ∙ rest
      by_child true child false unread rest = rest ∙ sym (ap (λ o. cons_option o after) (told child ∙ ap (λ x. if x then Some (subject_as spot.asked kid) else None) unread))
      by_child true child true read rest = ap (λ c. map (subject_as spot.asked) (cons_option (if c then Some kid else None) before)) child ∙ ap (λ cs. subject_as spot.asked kid ∷ cs) rest ∙ sym (ap (λ o. cons_option o after) (told child ∙ ap (λ x. if x then Some (subject_as spot.asked kid) else None) read))

  children_as : (sources : PropSources) (asked : AskedAs) (place : NodePlace) → children_of sources (subject_as asked place) ≡ map (subject_as asked) (child_places sources place)
  unfolding children_of
  children_as sources Youngest place = refl
  children_as sources Named place = refl

  -- the children of a node that the user is shown are those of its entries that the user may read
  pub children_are : (entries : List Entry) (node : Node) → IsSound sight.trees → entries ≡ entries_in spot.path (places_at sight.trees spot.rev) → children_of (sources_by sight) (subject_at spot node) ≡ entry_subjects sight spot entries
  unfolding entries_in sources_of
  children_are entries node sound are =
      children_as (sources_by sight) spot.asked (record { rev = spot.rev; path = spot.path; node = node })
      ∙ ap (λ (nodes : Tree). map (subject_as spot.asked) (filter_map (child_place spot.rev spot.path) nodes)) (nodes_in-shown sight.trees sight.rules sight.user spot.rev)
      ∙ shown_children (places_at sight.trees spot.rev) (sound.places spot.rev)
      ∙ ap (entry_subjects sight spot) (sym are)

-- what is told of at a readable spot, by the node of the number that stands there
pub spot_told : (sight : SightState) (spot : SpotState) (id : ℕ) (node : Node) (trees : Forest) → trees ≡ sight.trees → id_at sight.trees spot.rev spot.path ≡ Some id → sees sight spot.path ≡ true → IsNodeOf trees id node → spot_subject sight spot ≡ Some (subject_at spot node)
spot_told sight spot id node trees same number readable is =
    let found : node_at sight.trees spot.rev spot.path ≡ Some node = subst (λ (f : Forest). IsNodeOf f id node) same is spot.rev spot.path number in
    let place = place_with sight.trees spot.rev spot.path node found in
    ap (λ (b : Bool). if b then option_map (λ (p : Numbered). subject_at spot p.here.node) (place_at sight.trees spot.rev spot.path) else None) readable
    ∙ ap (option_map (λ (p : Numbered). subject_at spot p.here.node)) place.1
    ∙ ap (λ (n : Node). Some (subject_at spot n)) place.2

-- the answer about the one that is told of
pub one_answer : {X : Type 0} (item : X → Written) (o : Option X) (x : X) (d : Draft) → o ≡ Some x → with_elements (item x) d ≡ with_elements (for_each item (option_to_list o)) d
one_answer {X} item o x d is = sym (with_elements_joined (item x) Nothing d) ∙ ap (λ (o : Option X). with_elements (for_each item (option_to_list o)) d) (sym is)

-- the answers about the next entry, if it is told of, and then about the others
pub next_answers : {X : Type 0} (item : X → Written) (o : Option X) (xs : List X) (d : Draft) → with_elements (for_each item (cons_option o xs)) d ≡ with_elements (for_each item xs) (with_elements (for_each item (option_to_list o)) d)
next_answers item None xs d = refl
next_answers item (Some x) xs d = with_elements_joined (item x) (for_each item xs) d ∙ ap (with_elements (for_each item xs)) (sym (with_elements_joined (item x) Nothing d))

-- one entry more is answered
pub entries_step : (self begun : TellingState) (directory : SpotState) (left rest : List Entry) (entry : Entry) (before after whole : Draft) → self ≡ begun → left ≡ (entry ∷ rest)
    → after ≡ with_elements (for_each (response_element (sources_by self.sight) self.wanted) (option_to_list (entry_subject self.sight directory entry))) before
    → with_elements (for_each (response_element (sources_by begun.sight) begun.wanted) (entry_subjects begun.sight directory left)) before ≡ whole
    → with_elements (for_each (response_element (sources_by begun.sight) begun.wanted) (entry_subjects begun.sight directory rest)) after ≡ whole
entries_step self begun directory left rest entry before after whole same next written so =
    let item : Subject → Written = response_element (sources_by begun.sight) begun.wanted in
    let others : List Subject = entry_subjects begun.sight directory rest in
    ap (with_elements (for_each item others)) (written ∙ ap (λ (t : TellingState). with_elements (for_each (response_element (sources_by t.sight) t.wanted) (option_to_list (entry_subject t.sight directory entry))) before) same)
    ∙ sym (next_answers item (entry_subject begun.sight directory entry) others before)
    ∙ ap (λ (es : List Entry). with_elements (for_each item (entry_subjects begun.sight directory es)) before) (sym next)
    ∙ so

-- ---- answers

-- what is asked stands in the node at the spot
pub asked_enter : (sight : SightState) (spot : SpotState) (id : ℕ) (entries : List Entry) (children : Bool) (trees : Forest) → trees ≡ sight.trees → id_at sight.trees spot.rev spot.path ≡ Some id → IsSound trees → AreAskedEntries trees id children entries → All (IsEntered sight spot) entries
asked_enter sight spot id entries true trees same number sound are =
    entries_enter sight spot entries (subst (λ (f : Forest). IsSound f) same sound) (subst (λ (f : Forest). AreEntriesOf f id entries) same are spot.rev spot.path number)
asked_enter sight spot id entries false trees same number sound are = subst (λ (es : List Entry). All (IsEntered sight spot) es) (sym are) (All-nil (IsEntered sight spot))

-- the children that are asked too are those of the entries
asked_children : (sight : SightState) (spot : SpotState) (id : ℕ) (node : Node) (entries : List Entry) (children : Bool) (trees : Forest) → trees ≡ sight.trees → id_at sight.trees spot.rev spot.path ≡ Some id → IsSound trees → AreAskedEntries trees id children entries
    → asked_subjects (sources_by sight) children (subject_at spot node) ≡ (subject_at spot node ∷ entry_subjects sight spot entries)
asked_children sight spot id node entries true trees same number sound are =
    ap (λ (subjects : List Subject). subject_at spot node ∷ subjects) (children_are sight spot entries node (subst (λ (f : Forest). IsSound f) same sound) (subst (λ (f : Forest). AreEntriesOf f id entries) same are spot.rev spot.path number))
asked_children sight spot id node entries false trees same number sound are =
    ap (λ (es : List Entry). subject_at spot node ∷ entry_subjects sight spot es) (sym are)

-- what is answered about the node of a number, by its entries
pub node_answered : (sight : SightState) (spot : SpotState) (wanted : Option (List PropName)) (id : ℕ) (node : Node) (entries : List Entry) (children : Bool) (trees others : Forest) → trees ≡ sight.trees → others ≡ sight.trees
    → sees sight spot.path ≡ true → id_at sight.trees spot.rev spot.path ≡ Some id → IsNodeOf trees id node → IsSound others → AreAskedEntries others id children entries
    → about_place (sources_by sight) spot.asked children wanted (place_in (sources_by sight) spot.rev spot.path) ≡ Ok (body_text (multistatus_tree (sources_by sight) wanted (subject_at spot node ∷ entry_subjects sight spot entries)))
node_answered sight spot wanted id node entries children trees others same so readable number is sound are =
    ap (about_place (sources_by sight) spot.asked children wanted) (one_in sight spot.rev spot.path readable node (subst (λ (f : Forest). IsNodeOf f id node) same is spot.rev spot.path number))
    ∙ ap (λ (subjects : List Subject). Ok (body_text (multistatus_tree (sources_by sight) wanted subjects))) (asked_children sight spot id node entries children others so number sound are)

module _ (sources : PropSources) (children : Bool) (wanted : Option (List PropName)) where
  of_place : (asked : AskedAs) (o : Option NodePlace) → or_no_such_node (option_map (λ (subject : Subject). body_text (multistatus_tree sources wanted (asked_subjects sources children subject))) (option_map (subject_as asked) o)) ≡ about_place sources asked children wanted o
  of_place asked None = refl
  of_place asked (Some place) = refl

  -- a path of the youngest revision is answered by what stands there
  pub public_is : (path : List ℕ) → about_place sources Youngest children wanted (place_in sources sources.youngest path) ≡ or_no_such_node (propfind_text sources (Public path) children wanted)
  unfolding propfind_text subject_of
  public_is path = sym (of_place Youngest (place_in sources sources.youngest path))

  -- and so is one of a revision that is named
  pub rvr_is : (rev : ℕ) (path : List ℕ) → about_place sources Named children wanted (place_in sources rev path) ≡ or_no_such_node (propfind_text sources (Rvr rev path) children wanted)
  unfolding propfind_text subject_of
  rvr_is rev path = sym (of_place Named (place_in sources rev path))

  -- a revision is answered alone
  pub revision_is : (rev : ℕ) → or_no_such_node (propfind_text sources (RevOnly rev) children wanted) ≡ Ok (body_text (multistatus_tree sources wanted (WholeRevision rev ∷ [])))
  unfolding propfind_text subject_of children_of
  revision_is rev = by children
    where
      by : (b : Bool) → or_no_such_node (Some (body_text (multistatus_tree sources wanted (WholeRevision rev ∷ (if b then [] else []))))) ≡ Ok (body_text (multistatus_tree sources wanted (WholeRevision rev ∷ [])))
      by true = refl
      by false = refl

  -- other resources have no properties
  pub me_is : or_no_such_node (propfind_text sources Me children wanted) ≡ Err NoNode
  unfolding propfind_text subject_of
  me_is = refl

  pub txr_is : (name : TxnName) (path : List ℕ) → or_no_such_node (propfind_text sources (Txr name path) children wanted) ≡ Err NoNode
  unfolding propfind_text subject_of
  txr_is name path = refl

  pub txn_is : (name : TxnName) → or_no_such_node (propfind_text sources (Txn name) children wanted) ≡ Err NoNode
  unfolding propfind_text subject_of
  txn_is name = refl

-- the youngest revision that is shown is the youngest there is
pub youngest_is : (sight : SightState) (rev : ℕ) → rev + 1 ≡ length sight.trees.revisions → rev ≡ (sources_by sight).youngest
unfolding sources_of shown_of
youngest_is sight rev next =
    let same : length (map without_numbers sight.trees.revisions) ≡ length sight.trees.revisions = length-map sight.trees.revisions without_numbers in
    omega (arith, next, same)

-- what is answered at the spot of a path of the youngest revision
pub public_at : (sight : SightState) (children : Bool) (wanted : Option (List PropName)) (spot : SpotState) (rev : ℕ) (path : List ℕ) (resource : Resource) → spot ≡ record { asked = Youngest; rev = rev; path = path } → rev + 1 ≡ length sight.trees.revisions → resource ≡ Public path
    → about_place (sources_by sight) spot.asked children wanted (place_in (sources_by sight) spot.rev spot.path) ≡ or_no_such_node (propfind_text (sources_by sight) resource children wanted)
public_at sight children wanted spot rev path resource spot_is next is =
    ap (λ (s : SpotState). about_place (sources_by sight) s.asked children wanted (place_in (sources_by sight) s.rev s.path)) spot_is
    ∙ ap (λ (r : ℕ). about_place (sources_by sight) Youngest children wanted (place_in (sources_by sight) r path)) (youngest_is sight rev next)
    ∙ public_is (sources_by sight) children wanted path
    ∙ ap (λ (r : Resource). or_no_such_node (propfind_text (sources_by sight) r children wanted)) (sym is)

-- and at that of a path of a revision that is named
pub rvr_at : (sight : SightState) (children : Bool) (wanted : Option (List PropName)) (spot : SpotState) (rev : ℕ) (path : List ℕ) (resource : Resource) → spot ≡ record { asked = Named; rev = rev; path = path } → resource ≡ Rvr rev path
    → about_place (sources_by sight) spot.asked children wanted (place_in (sources_by sight) spot.rev spot.path) ≡ or_no_such_node (propfind_text (sources_by sight) resource children wanted)
rvr_at sight children wanted spot rev path resource spot_is is =
    ap (λ (s : SpotState). about_place (sources_by sight) s.asked children wanted (place_in (sources_by sight) s.rev s.path)) spot_is
    ∙ rvr_is (sources_by sight) children wanted rev path
    ∙ ap (λ (r : Resource). or_no_such_node (propfind_text (sources_by sight) r children wanted)) (sym is)

-- and of a revision
pub revision_at_once : (sight : SightState) (children : Bool) (wanted : Option (List PropName)) (rev : ℕ) (resource : Resource) (text : List ℕ) → resource ≡ RevOnly rev → text ≡ body_text (multistatus_tree (sources_by sight) wanted (WholeRevision rev ∷ []))
    → or_no_such_node (propfind_text (sources_by sight) resource children wanted) ≡ Ok text
revision_at_once sight children wanted rev resource text is written =
    ap (λ (r : Resource). or_no_such_node (propfind_text (sources_by sight) r children wanted)) is
    ∙ revision_is (sources_by sight) children wanted rev
    ∙ ap (λ (t : List ℕ). Ok t) (sym written)
