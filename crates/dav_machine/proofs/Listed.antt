-- The entries of a directory that are shown are the children that its view has.
use Rattle.std.proofs.Common.{◌≡◌, ℕ, Bool, true, false, cond, List, [], ◌∷◌, Option, None, Some, map, refl, sym, ap, ◌∙◌, arith}
use Rattle.std.specs.Prelude.{filter, option_to_list, if◌then◌else◌}
use Rattle.std.specs.List.{All, filter_map, cons_option}
use Rattle.std.specs.Option.{option_map, option_map_or}
use Rattle.std.specs.Str.{bytes_eq}
use Rattle.std.proofs.lemmas.List.Elements.{All-cons, All-head, All-tail}
use Rattle.std.proofs.lemmas.Slice.Eq.{bytes_eq-Decides}
use Rattle.dsv_base.specs.Paths.{is_path, parent_text, name_of, join_text}
use Rattle.dsv_base.proofs.Joins.{join_parent}
use Rattle.dav_documents.specs.Written.{Written, Nothing, for_each}
use Rattle.dav_documents.specs.Drafts.{Draft, with_elements}
use Rattle.dav_documents.proofs.Trees.{with_elements_joined}
use Rattle.rev_nodes.specs.declared.entry.Entry.{Entry}
use Rattle.rev_nodes.specs.Trees.{TreeNode, Tree}
use Rattle.rev_nodes.specs.Forests.{Numbered, Forest, repository_of, tree_of, places_at, place_at, id_at}
use Rattle.rev_nodes.specs.Entries.{is_child, entry_in, entries_in, IsSoundPlace, IsSound}
use Rattle.dav_machine.specs.Listings.{Child, children_in}
use Rattle.dav_machine.specs.ShownEntries.{child_with, shown_entry, shown_entries, StandsIn}
use Rattle.authz_file.specs.declared.rule.Rule.{Rule}
use Rattle.authz_check.specs.Access.{can_read}
use Rattle.log_access.specs.Shown.{shown_node, shown_nodes, shown_of, nodes_in}
use Rattle.log_access.proofs.ShownNodes.{nodes_in-shown}

-- a child's parent is the directory
parent_of : (directory : List ℕ) (parent : Option (List ℕ)) → option_map_or (bytes_eq directory) parent false ≡ true → parent ≡ Some directory
parent_of directory None e = absurd (cc)
parent_of directory (Some p) e = ap (λ (q : List ℕ). Some q) (sym ((bytes_eq-Decides directory p).0 e))

joined_back : (directory path : List ℕ) → is_path path ≡ true → is_child directory path ≡ true → join_text directory (name_of path) ≡ path
joined_back directory path is child = join_parent path directory is (parent_of directory (parent_text path) child)

abbrev named : List ℕ × Numbered → Entry
named place = record { name = name_of place.0; id = place.1.id }

module _ (forest : Forest) (rev : ℕ) (directory : List ℕ) where
  stands : (place : List ℕ × Numbered) → IsSoundPlace forest rev place → is_child directory place.0 ≡ true → StandsIn forest rev directory (named place)
  stands place sound child =
      let back = joined_back directory place.0 sound.path child in
      record {
        id_is = ap (id_at forest rev) back ∙ ap (option_map (λ (p : Numbered). p.id)) sound.found;
        path = ap is_path back ∙ sound.path;
      }

  all_stand : (places : List (List ℕ × Numbered)) → All (IsSoundPlace forest rev) places → All (StandsIn forest rev directory) (filter_map (entry_in directory) places)
  all_stand [] sound = λ k d h. absurd (omega arith)
  all_stand (place ∷ places) sound = by_child (is_child directory place.0) refl (all_stand places (All-tail (IsSoundPlace forest rev) place places sound))
    where
      by_child : (b : Bool) → is_child directory place.0 ≡ b → All (StandsIn forest rev directory) (filter_map (entry_in directory) places) → All (StandsIn forest rev directory) (cons_option (if b then Some (named place) else None) (filter_map (entry_in directory) places))
      by_child true child rest = All-cons (StandsIn forest rev directory) (named place) (filter_map (entry_in directory) places) (stands place (All-head (IsSoundPlace forest rev) place places sound) child) rest
      by_child false child rest = rest

  -- the entries stand in the directory
  pub entries_stand : IsSound forest → All (StandsIn forest rev directory) (entries_in directory (places_at forest rev))
  unfolding entries_in
  entries_stand sound = all_stand (places_at forest rev) (sound.places rev)

  module _ (reads : List ℕ → Bool) where
    -- what is shown of the entry of a place
    shown_at : (place : List ℕ × Numbered) → IsSoundPlace forest rev place → is_child directory place.0 ≡ true → shown_entry reads forest rev directory (named place) ≡ (if reads place.0 then Some (child_with (name_of place.0) place.1) else None)
    shown_at place sound child =
        ap (λ path. if reads path then option_map (child_with (name_of place.0)) (place_at forest rev path) else None) (joined_back directory place.0 sound.path child)
        ∙ ap (λ (found : Option Numbered). if reads place.0 then option_map (child_with (name_of place.0)) found else None) sound.found

    shown_place : List ℕ × Numbered → List ℕ × TreeNode
    shown_place place = (place.0, shown_node reads place.1.here)

    pub shown_children : (places : List (List ℕ × Numbered)) → All (IsSoundPlace forest rev) places → children_in (shown_nodes reads (tree_of places)) directory ≡ shown_entries reads forest rev directory (filter_map (entry_in directory) places)
    shown_children [] sound = refl
    shown_children (place ∷ places) sound = by_child (is_child directory place.0) refl (reads place.0) refl (shown_children places (All-tail (IsSoundPlace forest rev) place places sound))
      where
        others : Tree
        others = filter (λ p. reads p.0) (tree_of places)

        kid : Child
        kid = child_with (name_of place.0) place.1

        before : List Child
        before = children_in (shown_nodes reads (tree_of places)) directory

        after : List Child
        after = shown_entries reads forest rev directory (filter_map (entry_in directory) places)

        told : is_child directory place.0 ≡ true → shown_entry reads forest rev directory (named place) ≡ (if reads place.0 then Some kid else None)
        told child = shown_at place (All-head (IsSoundPlace forest rev) place places sound) child

        by_child : (b : Bool) → is_child directory place.0 ≡ b → (r : Bool) → reads place.0 ≡ r
            → children_in (shown_nodes reads (tree_of places)) directory ≡ shown_entries reads forest rev directory (filter_map (entry_in directory) places)
            → children_in (map (λ (p : List ℕ × TreeNode). (p.0, shown_node reads p.1)) (cond r ((place.0, place.1.here) ∷ others) others)) directory ≡ shown_entries reads forest rev directory (cons_option (if b then Some (named place) else None) (filter_map (entry_in directory) places))
        by_child false child false unread rest = rest
        by_child false child true read rest = ap (λ c. cons_option (if c then Some kid else None) before) child ∙ rest
        by_child true child false unread rest = rest ∙ sym (ap (λ o. cons_option o after) (told child ∙ ap (λ x. if x then Some kid else None) unread))
        by_child true child true read rest = ap (λ c. cons_option (if c then Some kid else None) before) child ∙ ap (λ cs. kid ∷ cs) rest ∙ sym (ap (λ o. cons_option o after) (told child ∙ ap (λ x. if x then Some kid else None) read))

-- the children that a view has of a directory are those that are shown of its entries
pub children_are : (forest : Forest) (rules : List Rule) (user : Option (List ℕ)) (rev : ℕ) (path : List ℕ) (entries : List Entry) → IsSound forest → entries ≡ entries_in path (places_at forest rev)
    → children_in (nodes_in (shown_of (repository_of forest) rules user) rev) path ≡ shown_entries (can_read rules forest.name user) forest rev path entries
unfolding entries_in
children_are forest rules user rev path entries sound are =
    ap (λ (nodes : Tree). children_in nodes path) (nodes_in-shown forest rules user rev)
    ∙ shown_children forest rev path (can_read rules forest.name user) (places_at forest rev) (sound.places rev)
    ∙ ap (shown_entries (can_read rules forest.name user) forest rev path) (sym are)

-- the items of the next entry, if it is shown, and then of the others
pub next_items : {X : Type 0} (item : X → Written) (o : Option X) (xs : List X) (d : Draft) → with_elements (for_each item (cons_option o xs)) d ≡ with_elements (for_each item xs) (with_elements (for_each item (option_to_list o)) d)
next_items item None xs d = refl
next_items item (Some x) xs d = with_elements_joined (item x) (for_each item xs) d ∙ ap (with_elements (for_each item xs)) (sym (with_elements_joined (item x) Nothing d))
