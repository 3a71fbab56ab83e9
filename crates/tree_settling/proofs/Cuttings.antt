-- Where a search by halving cuts entries in order at a name.
use Rattle.std.proofs.Common.{◌≡◌, ℕ, zero, suc, ◌+◌, ◌<◌, ◌≤◌, List, [], ◌∷◌, Result, Ok, Err, length, take, drop, map, get_or, refl, sym, ap, subst, ◌∙◌, arith}
use Rattle.std.specs.Prelude.{IsTrue, MatchResult}
use Rattle.std.specs.List.Sorted.{IsSearchInRange, IsBinarySearchResult}
use Rattle.std.specs.Ordering.{nat_cmp, ordering_reverse}
use Rattle.std.specs.declared.cmp.Ordering.TheVariants.{Less, Equal, Greater}
use Rattle.std.specs.Cmp.Lexicographic.{slice_cmp, nat_list_cmp_total}
use Rattle.std.proofs.lemmas.Map.Lookups.{exact_bytes}
use Rattle.rev_nodes.specs.declared.entry.Entry.{Entry}
use Rattle.rev_nodes.proofs.Search.{second_true, rising}
use Rattle.node_table.specs.Ways.{Name}
use Rattle.node_table.specs.Tables.{pair, entries_rise}
use Rattle.node_table.proofs.EntriesFound.{length-pairs, get_or-pairs, rises}
use Rattle.tree_settling.specs.Merged.{before_by, entries_before, behind_by, entries_behind, CutsAt, CutsBefore}
use Rattle.tree_settling.proofs.Rising.{T_from, flipped, turned}
use Rattle.tree_settling.proofs.Merges.{Rise}

module _ (name : Name) where
  -- the entries before and behind a name, as they stand before one index and from another on
  record IsCut (es : List Entry) (front back : ℕ) : Type 0 where
    before : take front es ≡ entries_before name es
    behind : drop back es ≡ entries_behind name es

  -- one entry more before the name
  cut_more : (e : Entry) (es : List Entry) (front back later : ℕ) → slice_cmp nat_cmp e.name name ≡ Less → later ≡ suc back → IsCut es front back → IsCut (e ∷ es) (suc front) later
  cut_more e es front back later less is cut =
      let past : slice_cmp nat_cmp name e.name ≡ Greater = turned e.name name less in
      record {
        before = ap (λ xs. e ∷ xs) cut.before ∙ sym (ap (λ r. before_by r e (entries_before name es)) past);
        behind = ap (λ n. drop n (e ∷ es)) is ∙ cut.behind ∙ sym (ap (λ r. behind_by r e es (entries_behind name es)) past);
      }

  found_cut : (es : List Entry) (i : ℕ) → Rise es → i < length es → ((d : Entry) → slice_cmp nat_cmp (get_or es i d).name name ≡ Equal) → IsCut es i (i + 1)
  found_cut [] i rise within tied = absurd (omega (arith, within))
  found_cut (e ∷ es) zero rise within tied =
      let here : slice_cmp nat_cmp name e.name ≡ Equal = nat_list_cmp_total.antisymm name e.name ∙ ap ordering_reverse (tied e) in
      record {
        before = sym (ap (λ r. before_by r e (entries_before name es)) here);
        behind = sym (ap (λ r. behind_by r e es (entries_behind name es)) here);
      }
  found_cut (e ∷ es) (suc i) rise within tied =
      let later = rising (slice_cmp nat_cmp) nat_list_cmp_total (map pair (e ∷ es)) 0 (suc i) (pair e) rise (omega arith) (omega (arith, within, length-pairs es)) in
      let is : (get_or (map pair es) i (pair e)).0 ≡ name = ap (λ (p : Name × ℕ). p.0) (get_or-pairs es i e) ∙ exact_bytes (get_or es i e).name name (tied e) in
      cut_more e es i (i + 1) (suc i + 1) (subst (λ n. slice_cmp nat_cmp e.name n ≡ Less) is later) (omega arith) (found_cut es i (second_true _ _ rise) (omega (arith, within)) tied)

  missing_cut : (es : List Entry) (i : ℕ) → ((k : ℕ) (d : Entry) → k < i → k < length es → slice_cmp nat_cmp (get_or es k d).name name ≡ Less)
      → ((k : ℕ) (d : Entry) → i ≤ k → k < length es → slice_cmp nat_cmp (get_or es k d).name name ≡ Greater) → IsCut es i i
  missing_cut [] zero below above = record { before = refl; behind = refl }
  missing_cut [] (suc i) below above = record { before = refl; behind = refl }
  missing_cut (e ∷ es) zero below above =
      let here : slice_cmp nat_cmp name e.name ≡ Less = flipped e.name name (above 0 e (omega arith) (omega arith)) in
      record {
        before = sym (ap (λ r. before_by r e (entries_before name es)) here);
        behind = sym (ap (λ r. behind_by r e es (entries_behind name es)) here);
      }
  missing_cut (e ∷ es) (suc i) below above =
      cut_more e es i i (suc i) (below 0 e (omega arith) (omega arith)) refl
      (missing_cut es i (λ k d less within. below (suc k) d (omega (arith, less)) (omega (arith, within))) (λ k d more within. above (suc k) d (omega (arith, more)) (omega (arith, within))))

  -- what the search answers
  pub cut_by : (es : List Entry) → IsTrue (entries_rise es) → (r : Result ℕ ℕ) → IsSearchInRange r (length es) → IsBinarySearchResult (λ (e : Entry). slice_cmp nat_cmp e.name name) es r → MatchResult r (CutsAt name es) (CutsBefore name es)
  cut_by es rise (Ok i) within tied =
      let cut = found_cut es i (T_from _ rise) within tied in
      record { within = within; own = λ d. exact_bytes (get_or es i d).name name (tied d); before = cut.before; behind = cut.behind }
  cut_by es rise (Err i) within parted =
      let parts = parted (rises es name (T_from _ rise)) in
      let cut = missing_cut es i (λ k d less _. parts.0 k d (omega arith) less) (λ k d more inside. parts.1 k d more inside) in
      record { within = within; before = cut.before; behind = cut.behind }
