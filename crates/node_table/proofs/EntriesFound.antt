-- What a search among entries in order finds.
use Rattle.std.proofs.Common.{◌≡◌, ℕ, zero, suc, ◌<◌, T, Bool, true, false, cond, List, [], ◌∷◌, None, Some, Result, Ok, Err, IfOk, length, map, get_or, refl, sym, ap, subst, ◌∙◌, inl, inr, arith}
use Rattle.std.specs.Prelude.{OnErr}
use Rattle.std.proofs.lemmas.Bool.{cases_lt}
use Rattle.std.proofs.lemmas.List.Sorted.{IsNonDecreasingBy-from_default}
use Rattle.std.specs.List.Sorted.{IsSearchInRange, IsBinarySearchResult, IsNonDecreasingBy}
use Rattle.std.specs.Ordering.{nat_cmp, eq_by_cmp, ordering_index}
use Rattle.std.specs.declared.cmp.Ordering.TheVariants.{Equal}
use Rattle.std.specs.Cmp.{tied_itself}
use Rattle.std.specs.Cmp.Lexicographic.{slice_cmp, nat_list_cmp_total}
use Rattle.rev_nodes.specs.declared.entry.Entry.{Entry}
use Rattle.rev_nodes.proofs.Forming.{tied}
use Rattle.rev_nodes.proofs.Search.{find_here, find_gap, comparisons_rise}
use Rattle.node_table.specs.Ways.{Name}
use Rattle.node_table.specs.Tables.{pair, child, entries_rise, IsEntryAt}

-- an entry of no directory, for what stands past the end
abbrev pub no_entry : Entry
no_entry = record { name = []; id = 0 }

pub length-pairs : (entries : List Entry) → length (map pair entries) ≡ length entries
length-pairs [] = refl
length-pairs (e ∷ es) = ap suc (length-pairs es)

pub get_or-pairs : (entries : List Entry) (i : ℕ) (d : Entry) → get_or (map pair entries) i (pair d) ≡ pair (get_or entries i d)
get_or-pairs [] i d = refl
get_or-pairs (e ∷ es) zero d = refl
get_or-pairs (e ∷ es) (suc i) d = get_or-pairs es i d

-- an element within does not depend on what stands past the end
get_or-any : {A : Type 0} (xs : List A) (i : ℕ) (d e : A) → i < length xs → get_or xs i d ≡ get_or xs i e
get_or-any [] i d e h = absurd (omega arith)
get_or-any (x ∷ xs) zero d e h = refl
get_or-any (x ∷ xs) (suc i) d e h = get_or-any xs i d e (omega arith)

module _ (entries : List Entry) (name : Name) (sorted : T (entries_rise entries)) where
  pub rises : IsNonDecreasingBy (λ (e : Entry). ordering_index (slice_cmp nat_cmp e.name name)) entries
  rises = IsNonDecreasingBy-from_default (λ (e : Entry). ordering_index (slice_cmp nat_cmp e.name name)) entries no_entry (λ i j le within. elim (cases_lt i j) [
    | inl before ↦ rw (get_or-pairs entries i no_entry, get_or-pairs entries j no_entry) at (comparisons_rise (slice_cmp nat_cmp) nat_list_cmp_total name (map pair entries) (pair no_entry) sorted i j before (omega (arith, length-pairs entries)))
    | inr after ↦ (let same : i ≡ j = omega arith in rw same (omega arith))
  ])

  pub found_at : (i : ℕ) → i < length entries → ((d : Entry) → slice_cmp nat_cmp (get_or entries i d).name name ≡ Equal) → IsEntryAt entries name i
  found_at i within tied = record {
    within = within;
    found = λ d. find_here (slice_cmp nat_cmp) nat_list_cmp_total name (map pair entries) i (pair d) sorted (omega (arith, length-pairs entries)) (ap (λ (e : Name × ℕ). slice_cmp nat_cmp e.0 name) (get_or-pairs entries i d) ∙ tied d)
        ∙ ap (λ (e : Name × ℕ). Some e.1) (get_or-pairs entries i d);
  }

  name_at : (j : ℕ) (d : Name × ℕ) → j < length (map pair entries) → (get_or (map pair entries) j d).0 ≡ (get_or entries j no_entry).name
  name_at j d within = ap (λ (e : Name × ℕ). e.0) (get_or-any (map pair entries) j d (pair no_entry) within ∙ get_or-pairs entries j no_entry)

  -- what a binary search by the name answers
  pub searched : (r : Result ℕ ℕ) → IsSearchInRange r (length entries) → IsBinarySearchResult (λ (e : Entry). slice_cmp nat_cmp e.name name) entries r → record { found : IfOk r (IsEntryAt entries name); missing : OnErr r (child name entries ≡ None) }
  searched (Ok i) within tied = record { found = found_at i within tied; missing = tt }
  searched (Err i) within parted = record {
    found = tt;
    missing = find_gap (slice_cmp nat_cmp) nat_list_cmp_total name (map pair entries) i (record {
      below = λ j d before long. ap (λ (k : Name). slice_cmp nat_cmp k name) (name_at j d long) ∙ (parted rises).0 j no_entry (omega arith) before;
      above = λ j d after long. ap (λ (k : Name). slice_cmp nat_cmp k name) (name_at j d long) ∙ (parted rises).1 j no_entry after (omega (arith, length-pairs entries));
    });
  }

-- the number of each entry is found at its own name
pub own_entry : (entries : List Entry) → entries_rise entries ≡ true → (k : ℕ) (d : Entry) → k < length entries → child (get_or entries k d).name entries ≡ Some (get_or entries k d).id
own_entry entries sorted k d within =
    find_here (slice_cmp nat_cmp) nat_list_cmp_total (get_or entries k d).name (map pair entries) k (pair d) (subst T (sym sorted) tt) (omega (arith, within, length-pairs entries))
    (ap (λ (e : Name × ℕ). slice_cmp nat_cmp e.0 (get_or entries k d).name) (get_or-pairs entries k d) ∙ tied_itself nat_list_cmp_total (get_or entries k d).name)
    ∙ ap (λ (e : Name × ℕ). Some e.1) (get_or-pairs entries k d)

-- what is found at a name is an entry
pub record IsFound (n : Name) (id : ℕ) (entries : List Entry) : Type 0 where
  pub index : ℕ
  pub within : index < length entries
  pub name_is : (d : Entry) → (get_or entries index d).name ≡ n
  pub id_is : (d : Entry) → (get_or entries index d).id ≡ id

pub found_in : (n : Name) (entries : List Entry) (id : ℕ) → child n entries ≡ Some id → IsFound n id entries
found_in n [] id h = absurd (cc h)
found_in n (l ∷ ls) id h = either (eq_by_cmp (slice_cmp nat_cmp) n l.name) refl h (λ e. found_in n ls id e)
  where
    is : (a b : ℕ) → Some a ≡ Some b → a ≡ b
    is a b e = cc

    more : IsFound n id ls → IsFound n id (l ∷ ls)
    more f = record { index = suc f.index; within = let w = f.within in omega (arith, w); name_is = f.name_is; id_is = f.id_is }

    either : (b : Bool) → eq_by_cmp (slice_cmp nat_cmp) n l.name ≡ b → cond b (Some l.id) (child n ls) ≡ Some id → (child n ls ≡ Some id → IsFound n id ls) → IsFound n id (l ∷ ls)
    either true t e go = record { index = 0; within = omega arith; name_is = λ d. sym (tied n l.name t); id_is = λ d. is l.id id e }
    either false t e go = more (go e)

pub child_of_found : (entries : List Entry) (name : Name) (i : ℕ) (d : Entry) → IsEntryAt entries name i → Some (get_or entries i d).id ≡ child name entries
child_of_found entries name i d at = sym (at.found d)
