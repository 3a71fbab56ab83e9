-- The list made by one pass is that of the definition.
use Rattle.std.proofs.Common.{◌≡◌, ℕ, ◌+◌, Bool, true, false, ◌||◌, List, [], ◌∷◌, Option, None, Some, is_some, map, refl, sym, ap, ◌∙◌}
use Rattle.std.specs.List.{list_any, list_all, filter_map, cons_option, All}
use Rattle.std.specs.FinMap.{put}
use Rattle.std.specs.FinMap.Entries.{by_order}
use Rattle.std.specs.Ordering.{nat_cmp}
use Rattle.std.specs.declared.cmp.Ordering.{Ordering}
use Rattle.std.specs.declared.cmp.Ordering.TheVariants.{Less, Equal, Greater}
use Rattle.std.specs.Cmp.Lexicographic.{slice_cmp}
use Rattle.std.proofs.lemmas.Bool.{and_parts, and_from}
use Rattle.std.proofs.lemmas.List.Elements.{All-nil, All-cons, All-head, All-tail}
use Rattle.dsv_base.specs.Paths.{is_path}
use Rattle.rev_nodes.specs.declared.change.Change.{Change}
use Rattle.rev_nodes.specs.declared.changed.Changed.{Changed}
use Rattle.rev_nodes.specs.Trees.{TreeNode, Tree, at}
use Rattle.rev_nodes.specs.ChangedPaths.{path_of, named_from, deletes, source_from, source_after, kept_path, changed_by, changed_at, changed_paths}
use Rattle.change_table.specs.ChangeTables.{HasPath, has_named_path}
use Rattle.change_table.specs.ChangeTables.{LastChanges, noted, ChangeTable, last_at, noted_in, noted_from, deleted_in, deleted, source_of, kept_as, changed_as, changed_in, changed_by_table, TableIsChangedPaths}
use Rattle.change_table.proofs.Noting.{IsLow, low_more, deletes_step, source_step}
use Rattle.dsv_base.specs.Paths.{ancestors}

-- what the table says of a path after all changes
module _ (p : List ℕ) (one : is_path p ≡ true) where
  deletes_all : (i : ℕ) (changes : List Change) (table : ChangeTable) → IsLow i table → All HasPath changes → (before : Bool) → before ≡ is_some (deleted table p) → (before || list_any (deletes p) changes) ≡ is_some (deleted (noted_from i changes table) p)
  deletes_all i [] table low all before e = no_more before ∙ e
    where
      no_more : (b : Bool) → (b || false) ≡ b
      no_more true = refl
      no_more false = refl
  deletes_all i (change ∷ changes) table low all before e =
      regroup before (deletes p change) (list_any (deletes p) changes)
      ∙ deletes_all (i + 1) changes (noted_in i change table) (low_more i table low change) (All-tail HasPath change changes all) (before || deletes p change) (deletes_step i table low p one change (All-head HasPath change changes all) before e)
    where
      regroup : (a b c : Bool) → (a || (b || c)) ≡ ((a || b) || c)
      regroup true b c = refl
      regroup false b c = refl

  source_all : (i : ℕ) (changes : List Change) (table : ChangeTable) → IsLow i table → All HasPath changes → (before : Option (List ℕ × ℕ)) → before ≡ source_of table p → source_from p changes before ≡ source_of (noted_from i changes table) p
  source_all i [] table low all before e = e
  source_all i (change ∷ changes) table low all before e =
      source_all (i + 1) changes (noted_in i change table) (low_more i table low change) (All-tail HasPath change changes all) (source_after p change before) (source_step i table low p one change (All-head HasPath change changes all) before e)

  none_deleted : (ps : List (List ℕ)) → deleted_in [] ps ≡ None
  none_deleted [] = refl
  none_deleted (q ∷ qs) = none_deleted qs

  empty_low : IsLow 0 []
  empty_low = record { deletes_low = λ q d e. absurd (cc e); copies_low = λ q c e. absurd (cc e) }

  pub deletes_whole : (changes : List Change) → All HasPath changes → list_any (deletes p) changes ≡ is_some (deleted (noted_from 0 changes []) p)
  deletes_whole changes all = deletes_all 0 changes [] empty_low all false (sym (ap is_some (none_deleted (ancestors p))))

  pub source_whole : (changes : List Change) → All HasPath changes → source_from p changes None ≡ source_of (noted_from 0 changes []) p
  source_whole changes all = source_all 0 changes [] empty_low all None refl

-- ---- the named paths

abbrev name : List ℕ × LastChanges → List ℕ × Unit {0}
name e = (e.0, tt)

names-put : (path : List ℕ) (last : LastChanges) (table : ChangeTable) → map name (put (slice_cmp nat_cmp) path last table) ≡ put (slice_cmp nat_cmp) path tt (map name table)
names-put path last [] = refl
names-put path last (e ∷ es) = by (slice_cmp nat_cmp path e.0) (names-put path last es)
  where
    by : (o : Ordering) → map name (put (slice_cmp nat_cmp) path last es) ≡ put (slice_cmp nat_cmp) path tt (map name es)
        → map name (by_order o ((path, last) ∷ e ∷ es) ((e.0, last) ∷ es) (e ∷ put (slice_cmp nat_cmp) path last es)) ≡ by_order o ((path, tt) ∷ name e ∷ map name es) ((e.0, tt) ∷ map name es) (name e ∷ put (slice_cmp nat_cmp) path tt (map name es))
    by Less more = refl
    by Equal more = refl
    by Greater more = ap (λ rest. name e ∷ rest) more

names-from : (i : ℕ) (changes : List Change) (table : ChangeTable) → map name (noted_from i changes table) ≡ named_from changes (map name table)
names-from i [] table = refl
names-from i (change ∷ changes) table = names-from (i + 1) changes (noted_in i change table) ∙ ap (named_from changes) (names-put (path_of change) (noted i change (last_at (path_of change) table)) table)

abbrev pub has_key : List ℕ × LastChanges → Bool
has_key e = is_path e.0

keys-put : (path : List ℕ) (last : LastChanges) (table : ChangeTable) → is_path path ≡ true → list_all has_key table ≡ true → list_all has_key (put (slice_cmp nat_cmp) path last table) ≡ true
keys-put path last [] one all = and_from _ _ one refl
keys-put path last (e ∷ es) one all = by (slice_cmp nat_cmp path e.0) (λ rest. keys-put path last es one rest)
  where
    by : (o : Ordering) → (list_all has_key es ≡ true → list_all has_key (put (slice_cmp nat_cmp) path last es) ≡ true) → list_all has_key (by_order o ((path, last) ∷ e ∷ es) ((e.0, last) ∷ es) (e ∷ put (slice_cmp nat_cmp) path last es)) ≡ true
    by Less go = and_from _ _ one all
    by Equal go = all
    by Greater go = let p = and_parts (has_key e) (list_all has_key es) all in and_from _ _ p.0 (go p.1)

keys-from : (i : ℕ) (changes : List Change) (table : ChangeTable) → All HasPath changes → list_all has_key table ≡ true → list_all has_key (noted_from i changes table) ≡ true
keys-from i [] table all keys = keys
keys-from i (change ∷ changes) table all keys = keys-from (i + 1) changes (noted_in i change table) (All-tail HasPath change changes all) (keys-put (path_of change) (noted i change (last_at (path_of change) table)) table (All-head HasPath change changes all) keys)

-- ---- the list

as_by : (path : List ℕ) (changes : List Change) (was now : Option TreeNode) → changed_as path (list_any (deletes path) changes) (source_from path changes None) was now ≡ changed_by path changes was now
as_by path changes None None = refl
as_by path changes None (Some now) = refl
as_by path changes (Some was) None = refl
as_by path changes (Some was) (Some now) = ap Some (either (list_any (deletes path) changes))
  where
    either : (b : Bool) → kept_as path (source_from path changes None) now b ≡ kept_path path changes now b
    either true = refl
    either false = refl

one_path : (changes : List Change) (before after : Tree) → All HasPath changes → (e : List ℕ × LastChanges) → is_path e.0 ≡ true → changed_in (noted_from 0 changes []) before after e ≡ changed_at changes before after e.0
one_path changes before after all e one =
    (λ i. changed_as e.0 (sym (deletes_whole e.0 one changes all) i) (sym (source_whole e.0 one changes all) i) (at e.0 before) (at e.0 after))
    ∙ as_by e.0 changes (at e.0 before) (at e.0 after)

all_paths : (changes : List Change) (before after : Tree) → All HasPath changes → (entries : ChangeTable) → list_all has_key entries ≡ true → filter_map (changed_in (noted_from 0 changes []) before after) entries ≡ filter_map (λ named. changed_at changes before after named.0) (map name entries)
all_paths changes before after all [] keys = refl
all_paths changes before after all (e ∷ es) keys =
    let p = and_parts (has_key e) (list_all has_key es) keys in
    λ i. cons_option (one_path changes before after all e p.0 i) (all_paths changes before after all es p.1 i)

pub fast_is : TableIsChangedPaths
unfolding changed_by_table changed_paths
fast_is = λ changes before after all.
    all_paths changes before after all (noted_from 0 changes []) (keys-from 0 changes [] all refl)
    ∙ ap (filter_map (λ named. changed_at changes before after named.0)) (names-from 0 changes [])

all_from : (changes : List Change) → list_all has_named_path changes ≡ true → All HasPath changes
all_from [] h = All-nil HasPath
all_from (change ∷ changes) h = let p = and_parts (has_named_path change) (list_all has_named_path changes) h in All-cons HasPath change changes p.0 (all_from changes p.1)

-- the table of changes whose paths are paths has such paths alone
pub keys_of_changes : (changes : List Change) → list_all has_named_path changes ≡ true → list_all has_key (noted_from 0 changes []) ≡ true
keys_of_changes changes paths = keys-from 0 changes [] (all_from changes paths) refl

opened : (changes : List Change) (before after : Tree) → filter_map (changed_in (noted_from 0 changes []) before after) (noted_from 0 changes []) ≡ changed_by_table changes before after
unfolding changed_by_table
opened changes before after = refl

-- the list that a table of the changes tells
pub told_so : (changes : List Change) (before after : Tree) (table : ChangeTable) (list : List Changed) → table ≡ noted_from 0 changes [] → list_all has_named_path changes ≡ true → list ≡ filter_map (changed_in table before after) table → list ≡ changed_paths changes before after
told_so changes before after table list is paths told =
    told ∙ ap (λ (t : ChangeTable). filter_map (changed_in t before after) t) is ∙ opened changes before after ∙ fast_is changes before after (all_from changes paths)
