-- The entries of a directory, by their names.
use Rattle.std.proofs.Common.{◌≡◌, ℕ, Bool, true, false, ◌&&◌, cond, T, List, [], ◌∷◌, ◌++◌, Option, None, Some, map, refl, sym, ap, subst, ◌∙◌}
use Rattle.std.specs.Prelude.{if◌then◌else◌}
use Rattle.std.specs.List.{filter_map, cons_option, All}
use Rattle.std.specs.Option.{option_map, option_map_or}
use Rattle.std.specs.Str.{bytes_eq}
use Rattle.std.specs.FinMap.{find, is_sorted}
use Rattle.std.specs.FinMap.Entries.{below_all, same_entries}
use Rattle.std.specs.Ordering.{nat_cmp, eq_by_cmp, is_lt}
use Rattle.std.specs.Cmp.{tied_itself, nat_cmp_total}
use Rattle.std.specs.Cmp.Lexicographic.{slice_cmp, nat_list_cmp_total}
use Rattle.std.proofs.lemmas.Map.Lookups.{exact_bytes}
use Rattle.std.proofs.lemmas.List.Elements.{All-head, All-tail}
use Rattle.dsv_base.specs.Paths.{is_path, is_component, front_of, parent_text, name_of, join_text}
use Rattle.dsv_base.proofs.Joins.{parent_joined, name_of-join, join_parent, name_is_component}
use Rattle.rev_nodes.specs.declared.entry.Entry.{Entry}
use Rattle.rev_nodes.specs.Forests.{Numbered}
use Rattle.rev_nodes.specs.Entries.{is_child, entry_in, entries_in}
use Rattle.rev_nodes.proofs.Below.{same_from, equal_itself, parent_from}
use Rattle.rev_nodes.proofs.Forming.{tied, tied_self}
use Rattle.rev_nodes.proofs.Search.{first_true, second_true}

abbrev pub key : Entry → List ℕ × ℕ
key entry = (entry.name, entry.id)

abbrev pub StandsAtPath : List ℕ × Numbered → Type 0
StandsAtPath place = is_path place.0 ≡ true

untied : (a b : List ℕ) → (a ≡ b → ⊥) → eq_by_cmp (slice_cmp nat_cmp) a b ≡ false
untied a b other = elim (eq_by_cmp (slice_cmp nat_cmp) a b) as (λ t. eq_by_cmp (slice_cmp nat_cmp) a b ≡ t → t ≡ false) [ true ↦ λ e. absurd (other (tied a b e)) | false ↦ λ e. refl ] refl

child_parent : (directory : List ℕ) (o : Option (List ℕ)) → option_map_or (bytes_eq directory) o false ≡ true → o ≡ Some directory
child_parent directory None e = absurd (cc)
child_parent directory (Some parent) e = ap (λ (q : List ℕ). Some q) (sym (same_from directory parent e))

child_path : (directory path : List ℕ) → is_path path ≡ true → is_child directory path ≡ true → join_text directory (name_of path) ≡ path
child_path directory path one child = join_parent path directory one (child_parent directory (parent_text path) child)

-- the name of a child is a component
child_name : (directory path : List ℕ) → is_path path ≡ true → is_child directory path ≡ true → is_component (name_of path) ≡ true
child_name directory path one child = name_is_component path one (parent_from path directory (child_parent directory (parent_text path) child)).0

-- ---- the number of a name in a directory is that of its path

module _ (directory name : List ℕ) (is : is_path directory ≡ true) (named : is_component name ≡ true) where
  joined_child : (path : List ℕ) → join_text directory name ≡ path → is_child directory path ≡ true
  joined_child path e = ap (λ (o : Option (List ℕ)). option_map_or (bytes_eq directory) o false) (ap parent_text (sym e) ∙ parent_joined directory name is named) ∙ equal_itself directory

  -- the keys tie exactly where the paths do
  same_ties : (path : List ℕ) → is_path path ≡ true → is_child directory path ≡ true → eq_by_cmp (slice_cmp nat_cmp) name (name_of path) ≡ eq_by_cmp (slice_cmp nat_cmp) (join_text directory name) path
  same_ties path one child = by (eq_by_cmp (slice_cmp nat_cmp) name (name_of path)) refl
    where
      by : (b : Bool) → eq_by_cmp (slice_cmp nat_cmp) name (name_of path) ≡ b → b ≡ eq_by_cmp (slice_cmp nat_cmp) (join_text directory name) path
      by true e = sym (ap (λ p. eq_by_cmp (slice_cmp nat_cmp) p path) (ap (join_text directory) (tied name (name_of path) e) ∙ child_path directory path one child) ∙ tied_self path)
      by false e = sym (untied (join_text directory name) path (λ same. let t = ap (λ n. eq_by_cmp (slice_cmp nat_cmp) name n) (sym (name_of-join directory name named) ∙ ap name_of same) in let s = tied_self name in cc (t, s, e)))

  pub find-entry : (places : List (List ℕ × Numbered)) → All StandsAtPath places → find (slice_cmp nat_cmp) name (map key (filter_map (entry_in directory) places)) ≡ option_map (λ (p : Numbered). p.id) (find (slice_cmp nat_cmp) (join_text directory name) places)
  find-entry [] all = refl
  find-entry (p ∷ ps) all = by (is_child directory p.0) refl (find-entry ps (All-tail StandsAtPath p ps all))
    where
      one : is_path p.0 ≡ true
      one = All-head StandsAtPath p ps all

      first : (b : Bool) → option_map (λ (q : Numbered). q.id) (cond b (Some p.1) (find (slice_cmp nat_cmp) (join_text directory name) ps)) ≡ cond b (Some p.1.id) (option_map (λ (q : Numbered). q.id) (find (slice_cmp nat_cmp) (join_text directory name) ps))
      first true = refl
      first false = refl

      by : (child : Bool) → is_child directory p.0 ≡ child → find (slice_cmp nat_cmp) name (map key (filter_map (entry_in directory) ps)) ≡ option_map (λ (q : Numbered). q.id) (find (slice_cmp nat_cmp) (join_text directory name) ps)
          → find (slice_cmp nat_cmp) name (map key (cons_option (if child then Some (record { name = name_of p.0; id = p.1.id }) else None) (filter_map (entry_in directory) ps))) ≡ option_map (λ (q : Numbered). q.id) (cond (eq_by_cmp (slice_cmp nat_cmp) (join_text directory name) p.0) (Some p.1) (find (slice_cmp nat_cmp) (join_text directory name) ps))
      by true e more = (λ i. cond (same_ties p.0 one e i) (Some p.1.id) (more i)) ∙ sym (first (eq_by_cmp (slice_cmp nat_cmp) (join_text directory name) p.0))
      by false e more = more ∙ sym (ap (λ b. option_map (λ (q : Numbered). q.id) (cond b (Some p.1) (find (slice_cmp nat_cmp) (join_text directory name) ps))) (untied (join_text directory name) p.0 (λ same. let c = joined_child p.0 same in cc (c, e))))

-- ---- the entries of places in order rise by their names

same_front : (front a b : List ℕ) → slice_cmp nat_cmp (front ++ a) (front ++ b) ≡ slice_cmp nat_cmp a b
same_front [] a b = refl
same_front (x ∷ front) a b = rw (tied_itself nat_cmp_total x) (same_front front a b)

joined_order : (directory a b : List ℕ) → slice_cmp nat_cmp (join_text directory a) (join_text directory b) ≡ slice_cmp nat_cmp a b
unfolding join_text
joined_order directory a b = same_front (front_of directory) (47 ∷ a) (47 ∷ b)

both_true : (a b : Bool) → T a → T b → T (a && b)
both_true true b p q = q
both_true false b p q = absurd p

module _ (directory : List ℕ) where
  child_order : (path other : List ℕ) → is_path path ≡ true → is_path other ≡ true → is_child directory path ≡ true → is_child directory other ≡ true → slice_cmp nat_cmp path other ≡ slice_cmp nat_cmp (name_of path) (name_of other)
  child_order path other one other_one child other_child =
      (λ i. slice_cmp nat_cmp (sym (child_path directory path one child) i) (sym (child_path directory other other_one other_child) i))
      ∙ joined_order directory (name_of path) (name_of other)

  below-entries : (path : List ℕ) → is_path path ≡ true → is_child directory path ≡ true → (places : List (List ℕ × Numbered)) → All StandsAtPath places → T (below_all (slice_cmp nat_cmp) path places) → T (below_all (slice_cmp nat_cmp) (name_of path) (map key (filter_map (entry_in directory) places)))
  below-entries path one child [] all h = tt
  below-entries path one child (p ∷ ps) all h = by (is_child directory p.0) refl (below-entries path one child ps (All-tail StandsAtPath p ps all) (second_true _ _ h))
    where
      by : (b : Bool) → is_child directory p.0 ≡ b → T (below_all (slice_cmp nat_cmp) (name_of path) (map key (filter_map (entry_in directory) ps))) → T (below_all (slice_cmp nat_cmp) (name_of path) (map key (cons_option (if b then Some (record { name = name_of p.0; id = p.1.id }) else None) (filter_map (entry_in directory) ps))))
      by true e more = both_true _ _ (subst T (ap is_lt (child_order path p.0 one (All-head StandsAtPath p ps all) child e)) (first_true _ _ h)) more
      by false e more = more

  pub sorted-entries : (places : List (List ℕ × Numbered)) → All StandsAtPath places → T (is_sorted (slice_cmp nat_cmp) places) → T (is_sorted (slice_cmp nat_cmp) (map key (filter_map (entry_in directory) places)))
  sorted-entries [] all h = tt
  sorted-entries (p ∷ ps) all h = by (is_child directory p.0) refl (sorted-entries ps (All-tail StandsAtPath p ps all) (second_true _ _ h))
    where
      by : (b : Bool) → is_child directory p.0 ≡ b → T (is_sorted (slice_cmp nat_cmp) (map key (filter_map (entry_in directory) ps))) → T (is_sorted (slice_cmp nat_cmp) (map key (cons_option (if b then Some (record { name = name_of p.0; id = p.1.id }) else None) (filter_map (entry_in directory) ps))))
      by true e more = both_true _ _ (below-entries p.0 (All-head StandsAtPath p ps all) e ps (All-tail StandsAtPath p ps all) (first_true _ _ h)) more
      by false e more = more

  -- and have components as their names
  no_entry : (name : List ℕ) → is_component name ≡ false → (places : List (List ℕ × Numbered)) → All StandsAtPath places → find (slice_cmp nat_cmp) name (map key (filter_map (entry_in directory) places)) ≡ None
  no_entry name other [] all = refl
  no_entry name other (p ∷ ps) all = by (is_child directory p.0) refl (no_entry name other ps (All-tail StandsAtPath p ps all))
    where
      by : (b : Bool) → is_child directory p.0 ≡ b → find (slice_cmp nat_cmp) name (map key (filter_map (entry_in directory) ps)) ≡ None → find (slice_cmp nat_cmp) name (map key (cons_option (if b then Some (record { name = name_of p.0; id = p.1.id }) else None) (filter_map (entry_in directory) ps))) ≡ None
      by true e more = ap (λ t. cond t (Some p.1.id) (find (slice_cmp nat_cmp) name (map key (filter_map (entry_in directory) ps)))) (untied name (name_of p.0) (λ same. let c = ap is_component same ∙ child_name directory p.0 (All-head StandsAtPath p ps all) e in cc (c, other))) ∙ more
      by false e more = more

-- ---- what finds the same is the same

abbrev unkey : List ℕ × ℕ → Entry
unkey k = record { name = k.0; id = k.1 }

unkeyed : (entries : List Entry) → map unkey (map key entries) ≡ entries
unkeyed [] = refl
unkeyed (e ∷ es) = ap (λ (others : List Entry). e ∷ others) (unkeyed es)

-- entries in order, of components, that find the number of each path are those of the directory
pub entries-are : (directory : List ℕ) → is_path directory ≡ true → (places : List (List ℕ × Numbered)) → All StandsAtPath places → T (is_sorted (slice_cmp nat_cmp) places) → (entries : List Entry) → T (is_sorted (slice_cmp nat_cmp) (map key entries))
    → ((name : List ℕ) → is_component name ≡ false → find (slice_cmp nat_cmp) name (map key entries) ≡ None)
    → ((name : List ℕ) → is_component name ≡ true → find (slice_cmp nat_cmp) name (map key entries) ≡ option_map (λ (p : Numbered). p.id) (find (slice_cmp nat_cmp) (join_text directory name) places))
    → entries ≡ entries_in directory places
unfolding entries_in
entries-are directory is places all sorted entries rising none same =
    sym (unkeyed entries)
    ∙ ap (map unkey) (same_entries (slice_cmp nat_cmp) nat_list_cmp_total exact_bytes (map key entries) (map key (filter_map (entry_in directory) places)) rising (sorted-entries directory places all sorted) (λ name. by name (is_component name) refl))
    ∙ unkeyed (filter_map (entry_in directory) places)
  where
    by : (name : List ℕ) (b : Bool) → is_component name ≡ b → find (slice_cmp nat_cmp) name (map key entries) ≡ find (slice_cmp nat_cmp) name (map key (filter_map (entry_in directory) places))
    by name true e = same name e ∙ sym (find-entry directory name is e places all)
    by name false e = none name e ∙ sym (no_entry directory name e places all)
