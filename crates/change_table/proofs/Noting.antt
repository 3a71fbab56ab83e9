-- One change more in the table.
use Rattle.std.proofs.Common.{◌≡◌, ℕ, ◌+◌, ◌<◌, Bool, true, false, ◌||◌, List, [], ◌∷◌, Option, None, Some, is_some, nat_lt, refl, sym, ap, subst, ◌∙◌, arith}
use Rattle.std.specs.Prelude.{if◌then◌else◌}
use Rattle.std.specs.List.{list_any}
use Rattle.std.specs.Str.{bytes_eq}
use Rattle.std.specs.FinMap.{put, find}
use Rattle.std.specs.FinMap.Entries.{find-put}
use Rattle.std.specs.Ordering.{nat_cmp, eq_by_cmp}
use Rattle.std.specs.Cmp.Lexicographic.{slice_cmp, nat_list_cmp_total}
use Rattle.std.proofs.lemmas.Bool.{lt-ltb, le-ltb}
use Rattle.dsv_base.specs.Paths.{is_path, is_under, ancestors}
use Rattle.rev_nodes.specs.declared.change.Change.{Change}
use Rattle.rev_nodes.specs.declared.change.Change.TheVariants.{Put, SetProp, DelProp, Mkdir, Delete, Copy}
use Rattle.rev_nodes.specs.ChangedPaths.{path_of, deletes, source_after}
use Rattle.rev_nodes.proofs.Below.{same_from, equal_itself}
use Rattle.rev_nodes.proofs.Forming.{tied, tied_self}
use Rattle.change_table.specs.ChangeTables.{LastChanges, noted, ChangeTable, last_or, last_at, noted_in, later, deleted_in, deleted, source_by, source_of}
use Rattle.change_table.proofs.Ancestors.{under_is}

abbrev is_at : List ℕ → List ℕ → Bool
is_at p path = eq_by_cmp (slice_cmp nat_cmp) p path

-- two tests that two texts are one
not_at : (p path : List ℕ) → bytes_eq p path ≡ false → is_at p path ≡ false
not_at p path other = either (is_at p path) refl
  where
    either : (b : Bool) → is_at p path ≡ b → b ≡ false
    either true t = absurd (let e : bytes_eq p path ≡ true = ap (λ q. bytes_eq q path) (tied p path t) ∙ equal_itself path in cc (e, other))
    either false t = refl

-- all numbers in the table are lower
pub record IsLow (i : ℕ) (table : ChangeTable) : Type 0 where
  pub deletes_low : (p : List ℕ) (d : ℕ) → (last_at p table).delete ≡ Some d → d < i
  pub copies_low : (p : List ℕ) (c : ℕ × (List ℕ × ℕ)) → (last_at p table).copy ≡ Some c → c.0 < i

one_number : (a b : ℕ) → Some a ≡ Some b → a ≡ b
one_number a b e = cc

one_copy : (a b : ℕ × (List ℕ × ℕ)) → Some a ≡ Some b → a ≡ b
one_copy a b e = cc

later_first : (i : ℕ) (o : Option ℕ) → ((d : ℕ) → o ≡ Some d → d < i + 1) → later (Some i) o ≡ Some i
later_first i None low = refl
later_first i (Some d) low = let less = low d refl in ap (λ b. Some (if b then d else i)) (le-ltb i d (omega (arith, less)))

later_second : (i : ℕ) (o : Option ℕ) → ((d : ℕ) → o ≡ Some d → d < i) → later o (Some i) ≡ Some i
later_second i None low = refl
later_second i (Some d) low = ap (λ b. Some (if b then i else d)) (lt-ltb d i (low d refl))

later_low : (i : ℕ) (a b : Option ℕ) → ((d : ℕ) → a ≡ Some d → d < i) → ((d : ℕ) → b ≡ Some d → d < i) → (d : ℕ) → later a b ≡ Some d → d < i
later_low i None b la lb d e = lb d e
later_low i (Some x) None la lb d e = la d e
later_low i (Some x) (Some y) la lb d e = either (nat_lt x y) e
  where
    either : (t : Bool) → Some (if t then y else x) ≡ Some d → d < i
    either true e = subst (λ n. n < i) (one_number y d e) (lb y refl)
    either false e = subst (λ n. n < i) (one_number x d e) (la x refl)

module _ (i : ℕ) (table : ChangeTable) (low : IsLow i table) where
  deleted_low : (ps : List (List ℕ)) (d : ℕ) → deleted_in table ps ≡ Some d → d < i
  deleted_low [] d e = absurd (cc e)
  deleted_low (p ∷ ps) d e = later_low i (last_at p table).delete (deleted_in table ps) (low.deletes_low p) (deleted_low ps) d e

  last_put : (q k : List ℕ) (last : LastChanges) → last_at q (put (slice_cmp nat_cmp) k last table) ≡ (if is_at q k then last else last_at q table)
  last_put q k last = ap last_or (find-put (slice_cmp nat_cmp) nat_list_cmp_total q k last table) ∙ either (is_at q k)
    where
      either : (b : Bool) → last_or (if b then Some last else find (slice_cmp nat_cmp) q table) ≡ (if b then last else last_at q table)
      either true = refl
      either false = refl

  delete_more : (change : Change) (q : List ℕ) → (last_at q (noted_in i change table)).delete ≡ (if is_at q (path_of change) then (noted i change (last_at (path_of change) table)).delete else (last_at q table).delete)
  delete_more change q = ap (λ (t : LastChanges). t.delete) (last_put q (path_of change) (noted i change (last_at (path_of change) table))) ∙ either (is_at q (path_of change))
    where
      either : (b : Bool) → (let t : LastChanges = (if b then noted i change (last_at (path_of change) table) else last_at q table) in t.delete) ≡ (if b then (noted i change (last_at (path_of change) table)).delete else (last_at q table).delete)
      either true = refl
      either false = refl

  copy_more : (change : Change) (q : List ℕ) → (last_at q (noted_in i change table)).copy ≡ (if is_at q (path_of change) then (noted i change (last_at (path_of change) table)).copy else (last_at q table).copy)
  copy_more change q = ap (λ (t : LastChanges). t.copy) (last_put q (path_of change) (noted i change (last_at (path_of change) table))) ∙ either (is_at q (path_of change))
    where
      either : (b : Bool) → (let t : LastChanges = (if b then noted i change (last_at (path_of change) table) else last_at q table) in t.copy) ≡ (if b then (noted i change (last_at (path_of change) table)).copy else (last_at q table).copy)
      either true = refl
      either false = refl

  -- a change that tells nothing of deletes, or of copies
  quiet_delete : (change : Change) → ((t : LastChanges) → (noted i change t).delete ≡ t.delete) → (q : List ℕ) → (last_at q (noted_in i change table)).delete ≡ (last_at q table).delete
  quiet_delete change quiet q = delete_more change q ∙ either (is_at q (path_of change)) refl
    where
      either : (b : Bool) → is_at q (path_of change) ≡ b → (if b then (noted i change (last_at (path_of change) table)).delete else (last_at q table).delete) ≡ (last_at q table).delete
      either true t = quiet (last_at (path_of change) table) ∙ ap (λ p. (last_at p table).delete) (sym (tied q (path_of change) t))
      either false t = refl

  quiet_copy : (change : Change) → ((t : LastChanges) → (noted i change t).copy ≡ t.copy) → (q : List ℕ) → (last_at q (noted_in i change table)).copy ≡ (last_at q table).copy
  quiet_copy change quiet q = copy_more change q ∙ either (is_at q (path_of change)) refl
    where
      either : (b : Bool) → is_at q (path_of change) ≡ b → (if b then (noted i change (last_at (path_of change) table)).copy else (last_at q table).copy) ≡ (last_at q table).copy
      either true t = quiet (last_at (path_of change) table) ∙ ap (λ p. (last_at p table).copy) (sym (tied q (path_of change) t))
      either false t = refl

  quiet_deletes : (change : Change) → ((t : LastChanges) → (noted i change t).delete ≡ t.delete) → (ps : List (List ℕ)) → deleted_in (noted_in i change table) ps ≡ deleted_in table ps
  quiet_deletes change quiet [] = refl
  quiet_deletes change quiet (p ∷ ps) = λ j. later (quiet_delete change quiet p j) (quiet_deletes change quiet ps j)

  -- a delete is the last of all
  deletes_more : (above : List ℕ) (ps : List (List ℕ)) → deleted_in (noted_in i (Delete above) table) ps ≡ (if list_any (λ p. bytes_eq p above) ps then Some i else deleted_in table ps)
  deletes_more above [] = refl
  deletes_more above (p ∷ ps) = either (bytes_eq p above) refl (deletes_more above ps)
    where
      one : (p : List ℕ) → bytes_eq p above ≡ true → (last_at p (noted_in i (Delete above) table)).delete ≡ Some i
      one p e = delete_more (Delete above) p ∙ ap (λ b. if b then Some i else (last_at p table).delete) (ap (λ q. is_at q above) (same_from p above e) ∙ tied_self above)

      other : (p : List ℕ) → bytes_eq p above ≡ false → (last_at p (noted_in i (Delete above) table)).delete ≡ (last_at p table).delete
      other p e = delete_more (Delete above) p ∙ ap (λ b. if b then Some i else (last_at p table).delete) (not_at p above e)

      first : (any : Bool) → later (Some i) (if any then Some i else deleted_in table ps) ≡ Some i
      first true = later_first i (Some i) (λ d e. let s = one_number i d e in omega (arith, s))
      first false = later_first i (deleted_in table ps) (λ d e. let less = deleted_low ps d e in omega (arith, less))

      second : (any : Bool) → later (last_at p table).delete (if any then Some i else deleted_in table ps) ≡ (if any then Some i else later (last_at p table).delete (deleted_in table ps))
      second true = later_second i (last_at p table).delete (low.deletes_low p)
      second false = refl

      either : (b : Bool) → bytes_eq p above ≡ b → deleted_in (noted_in i (Delete above) table) ps ≡ (if list_any (λ q. bytes_eq q above) ps then Some i else deleted_in table ps)
          → later (last_at p (noted_in i (Delete above) table)).delete (deleted_in (noted_in i (Delete above) table) ps) ≡ (if (b || list_any (λ q. bytes_eq q above) ps) then Some i else later (last_at p table).delete (deleted_in table ps))
      either true e rest = (λ j. later (one p e j) (rest j)) ∙ first (list_any (λ q. bytes_eq q above) ps)
      either false e rest = (λ j. later (other p e j) (rest j)) ∙ second (list_any (λ q. bytes_eq q above) ps)

  -- ---- what stands in the table is lower than the next number

  -- of a part of what is last
  low_by : (b : Bool) (now before : Option ℕ) → ((d : ℕ) → now ≡ Some d → d < i + 1) → ((d : ℕ) → before ≡ Some d → d < i) → (d : ℕ) → (if b then now else before) ≡ Some d → d < i + 1
  low_by true now before l m d e = l d e
  low_by false now before l m d e = let less = m d e in omega (arith, less)

  low_copy_by : (b : Bool) (now before : Option (ℕ × (List ℕ × ℕ))) → ((c : ℕ × (List ℕ × ℕ)) → now ≡ Some c → c.0 < i + 1) → ((c : ℕ × (List ℕ × ℕ)) → before ≡ Some c → c.0 < i) → (c : ℕ × (List ℕ × ℕ)) → (if b then now else before) ≡ Some c → c.0 < i + 1
  low_copy_by true now before l m c e = l c e
  low_copy_by false now before l m c e = let less = m c e in omega (arith, less)

  tell_delete : (change : Change) (t : LastChanges) → ((d : ℕ) → t.delete ≡ Some d → d < i) → (d : ℕ) → (noted i change t).delete ≡ Some d → d < i + 1
  tell_delete (Put path text) t l d e = let less = l d e in omega (arith, less)
  tell_delete (SetProp path name value) t l d e = let less = l d e in omega (arith, less)
  tell_delete (DelProp path name) t l d e = let less = l d e in omega (arith, less)
  tell_delete (Mkdir path) t l d e = let less = l d e in omega (arith, less)
  tell_delete (Delete path) t l d e = let same = one_number i d e in omega (arith, same)
  tell_delete (Copy source rev path) t l d e = let less = l d e in omega (arith, less)

  tell_copy : (change : Change) (t : LastChanges) → ((c : ℕ × (List ℕ × ℕ)) → t.copy ≡ Some c → c.0 < i) → (c : ℕ × (List ℕ × ℕ)) → (noted i change t).copy ≡ Some c → c.0 < i + 1
  tell_copy (Put path text) t l c e = let less = l c e in omega (arith, less)
  tell_copy (SetProp path name value) t l c e = let less = l c e in omega (arith, less)
  tell_copy (DelProp path name) t l c e = let less = l c e in omega (arith, less)
  tell_copy (Mkdir path) t l c e = let less = l c e in omega (arith, less)
  tell_copy (Delete path) t l c e = let less = l c e in omega (arith, less)
  tell_copy (Copy source rev path) t l c e = let same : i ≡ c.0 = ap (λ x. x.0) (one_copy (i, (source, rev)) c e) in omega (arith, same)

  pub low_more : (change : Change) → IsLow (i + 1) (noted_in i change table)
  low_more change = record {
    deletes_low = λ p d e. low_by (is_at p (path_of change)) (noted i change (last_at (path_of change) table)).delete (last_at p table).delete (tell_delete change (last_at (path_of change) table) (low.deletes_low (path_of change))) (low.deletes_low p) d (sym (delete_more change p) ∙ e);
    copies_low = λ p c e. low_copy_by (is_at p (path_of change)) (noted i change (last_at (path_of change) table)).copy (last_at p table).copy (tell_copy change (last_at (path_of change) table) (low.copies_low (path_of change))) (low.copies_low p) c (sym (copy_more change p) ∙ e);
  }

  -- ---- what is last of a path

  or_false : (b : Bool) → (b || false) ≡ b
  or_false true = refl
  or_false false = refl

  module _ (p : List ℕ) (one : is_path p ≡ true) where
    under_deleted : (above : List ℕ) → is_path above ≡ true → deleted (noted_in i (Delete above) table) p ≡ (if is_under p above then Some i else deleted table p)
    under_deleted above above_is = deletes_more above (ancestors p) ∙ ap (λ b. if b then Some i else deleted table p) (under_is above above_is p one)

    pub deletes_step : (change : Change) → is_path (path_of change) ≡ true → (before : Bool) → before ≡ is_some (deleted table p) → (before || deletes p change) ≡ is_some (deleted (noted_in i change table) p)
    deletes_step (Put path text) is before e = or_false before ∙ e ∙ ap is_some (sym (quiet_deletes (Put path text) (λ t. refl) (ancestors p)))
    deletes_step (SetProp path name value) is before e = or_false before ∙ e ∙ ap is_some (sym (quiet_deletes (SetProp path name value) (λ t. refl) (ancestors p)))
    deletes_step (DelProp path name) is before e = or_false before ∙ e ∙ ap is_some (sym (quiet_deletes (DelProp path name) (λ t. refl) (ancestors p)))
    deletes_step (Mkdir path) is before e = or_false before ∙ e ∙ ap is_some (sym (quiet_deletes (Mkdir path) (λ t. refl) (ancestors p)))
    deletes_step (Delete above) is before e = either (is_under p above) ∙ ap is_some (sym (under_deleted above is))
      where
        or_true : (b : Bool) → (b || true) ≡ true
        or_true true = refl
        or_true false = refl

        either : (u : Bool) → (before || u) ≡ is_some (if u then Some i else deleted table p)
        either true = or_true before
        either false = or_false before ∙ e
    deletes_step (Copy source rev path) is before e = or_false before ∙ e ∙ ap is_some (sym (quiet_deletes (Copy source rev path) (λ t. refl) (ancestors p)))

    quiet_source : (change : Change) → ((t : LastChanges) → (noted i change t).delete ≡ t.delete) → ((t : LastChanges) → (noted i change t).copy ≡ t.copy) → source_of table p ≡ source_of (noted_in i change table) p
    quiet_source change d c = λ j. source_by (sym (quiet_copy change c p) j) (sym (quiet_deletes change d (ancestors p)) j)

    pub source_step : (change : Change) → is_path (path_of change) ≡ true → (before : Option (List ℕ × ℕ)) → before ≡ source_of table p → source_after p change before ≡ source_of (noted_in i change table) p
    source_step (Put path text) is before e = e ∙ quiet_source (Put path text) (λ t. refl) (λ t. refl)
    source_step (SetProp path name value) is before e = e ∙ quiet_source (SetProp path name value) (λ t. refl) (λ t. refl)
    source_step (DelProp path name) is before e = e ∙ quiet_source (DelProp path name) (λ t. refl) (λ t. refl)
    source_step (Mkdir path) is before e = e ∙ quiet_source (Mkdir path) (λ t. refl) (λ t. refl)
    source_step (Delete above) is before e = either (is_under p above) (last_at p table).copy refl ∙ (λ j. source_by (sym (quiet_copy (Delete above) (λ t. refl) p) j) (sym (under_deleted above is) j))
      where
        either : (u : Bool) (c : Option (ℕ × (List ℕ × ℕ))) → (last_at p table).copy ≡ c → (if u then None else before) ≡ source_by (last_at p table).copy (if u then Some i else deleted table p)
        either true None k = sym (ap (λ o. source_by o (Some i)) k)
        either true (Some c) k = sym (ap (λ o. source_by o (Some i)) k ∙ ap (λ b. if b then None else Some c.1) (lt-ltb c.0 i (low.copies_low p c k)))
        either false c k = e
    source_step (Copy source rev path) is before e = either (bytes_eq path p) refl ∙ (λ j. source_by (sym (copy_more (Copy source rev path) p) j) (sym (quiet_deletes (Copy source rev path) (λ t. refl) (ancestors p)) j))
      where
        last : (d : Option ℕ) → ((n : ℕ) → d ≡ Some n → n < i) → Some (source, rev) ≡ source_by (Some (i, (source, rev))) d
        last None l = refl
        last (Some n) l = sym (ap (λ b. if b then None else Some (source, rev)) (le-ltb i n (let less = l n refl in omega (arith, less))))

        turned : bytes_eq path p ≡ false → bytes_eq p path ≡ false
        turned h = elim (bytes_eq p path) as (λ b. bytes_eq p path ≡ b → b ≡ false) [ true ↦ λ t. absurd (let s : bytes_eq path p ≡ true = ap (λ q. bytes_eq path q) (same_from p path t) ∙ equal_itself path in cc (s, h)) | false ↦ λ t. refl ] refl

        either : (b : Bool) → bytes_eq path p ≡ b → (if b then Some (source, rev) else before) ≡ source_by (if is_at p path then Some (i, (source, rev)) else (last_at p table).copy) (deleted table p)
        either true h = last (deleted table p) (deleted_low (ancestors p)) ∙ sym (ap (λ t. source_by (if t then Some (i, (source, rev)) else (last_at p table).copy) (deleted table p)) (ap (is_at p) (same_from path p h) ∙ tied_self p))
        either false h = e ∙ sym (ap (λ t. source_by (if t then Some (i, (source, rev)) else (last_at p table).copy) (deleted table p)) (not_at p path (turned h)))
