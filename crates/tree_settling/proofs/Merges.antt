-- Entries with changes, as they are gone through side by side.
use Rattle.std.proofs.Common.{◌≡◌, ℕ, ◌+◌, ◌<◌, ◌≤◌, Bool, true, false, cond, T, List, [], ◌∷◌, ◌++◌, Option, None, Some, map, length, drop, get_or, refl, sym, ap, subst, ◌∙◌, append_assoc}
use Rattle.std.specs.Prelude.{IsTrue}
use Rattle.std.specs.FinMap.{is_sorted}
use Rattle.std.specs.FinMap.Entries.{below_all}
use Rattle.std.specs.Ordering.{nat_cmp, is_eq, eq_by_cmp}
use Rattle.std.specs.declared.cmp.Ordering.{Ordering}
use Rattle.std.specs.declared.cmp.Ordering.TheVariants.{Less, Equal, Greater}
use Rattle.std.specs.Cmp.Lexicographic.{slice_cmp, nat_list_cmp_total}
use Rattle.std.proofs.lemmas.List.{drop_more, drop_all}
use Rattle.std.proofs.lemmas.Map.Lookups.{exact_bytes}
use Rattle.rev_nodes.specs.declared.entry.Entry.{Entry}
use Rattle.rev_nodes.proofs.Search.{first_true, second_true, less_from}
use Rattle.node_table.specs.Ways.{Name}
use Rattle.node_table.specs.Tables.{pair, child}
use Rattle.tree_settling.specs.Merged.{AllMade, made_at, or_made, AreMerged, entry_made, before_by, entries_before, behind_by, entries_behind}
use Rattle.tree_settling.proofs.Rising.{both, T_from, from_T, lt_from, flipped, turned, below_less, find_below}

-- the names of entries, all behind a name, and in order
abbrev pub AreAbove : Name → List Entry → Type 0
AreAbove x es = T (below_all (slice_cmp nat_cmp) x (map pair es))

abbrev pub Rise : List Entry → Type 0
Rise es = T (is_sorted (slice_cmp nat_cmp) (map pair es))

-- the entries with changes, by the changes' names
abbrev pub zipped : AllMade → List Entry → List Entry
zipped [] es = es
zipped (c ∷ cs) es = entries_before c.0 es ++ (entry_made c.0 c.1 ++ zipped cs (entries_behind c.0 es))

abbrev or_else : Option ℕ → Option ℕ → Option ℕ
or_else None y = y
or_else (Some x) y = Some x

child-append : (n : Name) (xs ys : List Entry) → child n (xs ++ ys) ≡ or_else (child n xs) (child n ys)
child-append n [] ys = refl
child-append n (e ∷ es) ys = ap (λ o. cond (eq_by_cmp (slice_cmp nat_cmp) n e.name) (Some e.id) o) (child-append n es ys) ∙ by (eq_by_cmp (slice_cmp nat_cmp) n e.name)
  where
    by : (b : Bool) → cond b (Some e.id) (or_else (child n es) (child n ys)) ≡ or_else (cond b (Some e.id) (child n es)) (child n ys)
    by true = refl
    by false = refl

above-append : (x : Name) (xs ys : List Entry) → AreAbove x xs → AreAbove x ys → AreAbove x (xs ++ ys)
above-append x [] ys h k = k
above-append x (e ∷ es) ys h k = both _ _ (first_true _ _ h) (above-append x es ys (second_true _ _ h) k)

-- ---- the entries before a name

before-less : (n m : Name) (es : List Entry) → slice_cmp nat_cmp n m ≡ Less → Rise es → child n (entries_before m es) ≡ child n es
before-less n m [] less rise = refl
before-less n m (e ∷ es) less rise = by (slice_cmp nat_cmp m e.name) refl (before-less n m es less (second_true _ _ rise))
  where
    none : slice_cmp nat_cmp n e.name ≡ Less → None ≡ child n (e ∷ es)
    none l = sym (find_below n (map pair (e ∷ es)) (both _ _ (lt_from _ l) (below_less n e.name (map pair es) l (first_true _ _ rise))))

    by : (r : Ordering) → slice_cmp nat_cmp m e.name ≡ r → child n (entries_before m es) ≡ child n es → child n (before_by r e (entries_before m es)) ≡ child n (e ∷ es)
    by Less t go = none (nat_list_cmp_total.trans n m e.name less t)
    by Equal t go = none (subst (λ x. slice_cmp nat_cmp n x ≡ Less) (exact_bytes m e.name t) less)
    by Greater t go = ap (λ o. cond (eq_by_cmp (slice_cmp nat_cmp) n e.name) (Some e.id) o) go

before-not : (n m : Name) (es : List Entry) → (slice_cmp nat_cmp n m ≡ Less → ⊥) → child n (entries_before m es) ≡ None
before-not n m [] not = refl
before-not n m (e ∷ es) not = by (slice_cmp nat_cmp m e.name) refl (before-not n m es not)
  where
    at : (r : Ordering) → slice_cmp nat_cmp n e.name ≡ r → slice_cmp nat_cmp m e.name ≡ Greater → child n (entries_before m es) ≡ None → cond (is_eq r) (Some e.id) (child n (entries_before m es)) ≡ None
    at Less t g go = go
    at Equal t g go = absurd (not (subst (λ x. slice_cmp nat_cmp x m ≡ Less) (sym (exact_bytes n e.name t)) (flipped m e.name g)))
    at Greater t g go = go

    by : (r : Ordering) → slice_cmp nat_cmp m e.name ≡ r → child n (entries_before m es) ≡ None → child n (before_by r e (entries_before m es)) ≡ None
    by Less t go = refl
    by Equal t go = refl
    by Greater t go = at (slice_cmp nat_cmp n e.name) refl t go

before-above : (x m : Name) (es : List Entry) → AreAbove x es → AreAbove x (entries_before m es)
before-above x m [] h = tt
before-above x m (e ∷ es) h = by (slice_cmp nat_cmp m e.name) (before-above x m es (second_true _ _ h))
  where
    by : (r : Ordering) → AreAbove x (entries_before m es) → AreAbove x (before_by r e (entries_before m es))
    by Less go = tt
    by Equal go = tt
    by Greater go = both _ _ (first_true _ _ h) go

before-rise : (m : Name) (es zs : List Entry) → Rise es → Rise zs → ((x : Name) → slice_cmp nat_cmp x m ≡ Less → AreAbove x zs) → Rise (entries_before m es ++ zs)
before-rise m [] zs rise rest low = rest
before-rise m (e ∷ es) zs rise rest low = by (slice_cmp nat_cmp m e.name) refl (before-rise m es zs (second_true _ _ rise) rest low)
  where
    by : (r : Ordering) → slice_cmp nat_cmp m e.name ≡ r → Rise (entries_before m es ++ zs) → Rise (before_by r e (entries_before m es) ++ zs)
    by Less t go = rest
    by Equal t go = rest
    by Greater t go = both _ _ (above-append e.name (entries_before m es) zs (before-above e.name m es (first_true _ _ rise)) (low e.name (flipped m e.name t))) go

-- ---- the entries behind a name

behind-greater : (n m : Name) (es : List Entry) → slice_cmp nat_cmp n m ≡ Greater → child n (entries_behind m es) ≡ child n es
behind-greater n m [] more = refl
behind-greater n m (e ∷ es) more = by (slice_cmp nat_cmp m e.name) refl (behind-greater n m es more)
  where
    past : slice_cmp nat_cmp e.name n ≡ Less → child n es ≡ child n (e ∷ es)
    past l = sym (ap (λ r. cond (is_eq r) (Some e.id) (child n es)) (turned e.name n l))

    by : (r : Ordering) → slice_cmp nat_cmp m e.name ≡ r → child n (entries_behind m es) ≡ child n es → child n (behind_by r e es (entries_behind m es)) ≡ child n (e ∷ es)
    by Less t go = refl
    by Equal t go = past (subst (λ x. slice_cmp nat_cmp x n ≡ Less) (exact_bytes m e.name t) (flipped n m more))
    by Greater t go = go ∙ past (nat_list_cmp_total.trans e.name m n (flipped m e.name t) (flipped n m more))

behind-above : (m : Name) (es : List Entry) → Rise es → AreAbove m (entries_behind m es)
behind-above m [] rise = tt
behind-above m (e ∷ es) rise = by (slice_cmp nat_cmp m e.name) refl (behind-above m es (second_true _ _ rise))
  where
    by : (r : Ordering) → slice_cmp nat_cmp m e.name ≡ r → AreAbove m (entries_behind m es) → AreAbove m (behind_by r e es (entries_behind m es))
    by Less t go = both _ _ (lt_from _ t) (below_less m e.name (map pair es) t (first_true _ _ rise))
    by Equal t go = subst (λ x. AreAbove x es) (sym (exact_bytes m e.name t)) (first_true _ _ rise)
    by Greater t go = go

behind-rise : (m : Name) (es : List Entry) → Rise es → Rise (entries_behind m es)
behind-rise m [] rise = tt
behind-rise m (e ∷ es) rise = by (slice_cmp nat_cmp m e.name) (behind-rise m es (second_true _ _ rise))
  where
    by : (r : Ordering) → Rise (entries_behind m es) → Rise (behind_by r e es (entries_behind m es))
    by Less go = rise
    by Equal go = second_true _ _ rise
    by Greater go = go

behind-still : (x m : Name) (es : List Entry) → AreAbove x es → AreAbove x (entries_behind m es)
behind-still x m [] h = tt
behind-still x m (e ∷ es) h = by (slice_cmp nat_cmp m e.name) (behind-still x m es (second_true _ _ h))
  where
    by : (r : Ordering) → AreAbove x (entries_behind m es) → AreAbove x (behind_by r e es (entries_behind m es))
    by Less go = h
    by Equal go = second_true _ _ h
    by Greater go = go

-- ---- all of it

made-above : (x m : Name) (o : Option ℕ) (zs : List Entry) → slice_cmp nat_cmp x m ≡ Less → AreAbove x zs → AreAbove x (entry_made m o ++ zs)
made-above x m None zs less h = h
made-above x m (Some id) zs less h = both _ _ (lt_from _ less) h

zipped-above : (x : Name) (cs : AllMade) (es : List Entry) → T (below_all (slice_cmp nat_cmp) x cs) → AreAbove x es → AreAbove x (zipped cs es)
zipped-above x [] es h k = k
zipped-above x (c ∷ cs) es h k = above-append x (entries_before c.0 es) _ (before-above x c.0 es k) (made-above x c.0 c.1 _ (less_from _ (first_true _ _ h)) (zipped-above x cs (entries_behind c.0 es) (second_true _ _ h) (behind-still x c.0 es k)))

zipped-rise : (cs : AllMade) (es : List Entry) → T (is_sorted (slice_cmp nat_cmp) cs) → Rise es → Rise (zipped cs es)
zipped-rise [] es h rise = rise
zipped-rise (c ∷ cs) es h rise =
    let rest = entries_behind c.0 es in
    let above : AreAbove c.0 (zipped cs rest) = zipped-above c.0 cs rest (first_true _ _ h) (behind-above c.0 es rise) in
    before-rise c.0 es (entry_made c.0 c.1 ++ zipped cs rest) rise (with_made c.1 above (zipped-rise cs rest (second_true _ _ h) (behind-rise c.0 es rise)))
    (λ x less. made-above x c.0 c.1 (zipped cs rest) less (below_less x c.0 (map pair (zipped cs rest)) less above))
  where
    with_made : (o : Option ℕ) → AreAbove c.0 (zipped cs (entries_behind c.0 es)) → Rise (zipped cs (entries_behind c.0 es)) → Rise (entry_made c.0 o ++ zipped cs (entries_behind c.0 es))
    with_made None above go = go
    with_made (Some id) above go = both _ _ above go

zipped-finds : (cs : AllMade) (es : List Entry) → T (is_sorted (slice_cmp nat_cmp) cs) → Rise es → (n : Name) → child n (zipped cs es) ≡ or_made (made_at cs n) (child n es)
zipped-finds [] es h rise n = refl
zipped-finds (c ∷ cs) es h rise n = child-append n (entries_before c.0 es) (entry_made c.0 c.1 ++ zipped cs (entries_behind c.0 es)) ∙ by (slice_cmp nat_cmp n c.0) refl (zipped-finds cs (entries_behind c.0 es) (second_true _ _ h) (behind-rise c.0 es rise) n)
  where
    rest : List Entry
    rest = zipped cs (entries_behind c.0 es)

    above : AreAbove c.0 (zipped cs (entries_behind c.0 es))
    above = zipped-above c.0 cs (entries_behind c.0 es) (first_true _ _ h) (behind-above c.0 es rise)

    or_none : (o : Option ℕ) → or_else o None ≡ o
    or_none None = refl
    or_none (Some x) = refl

    here : (o : Option ℕ) → slice_cmp nat_cmp n c.0 ≡ Equal → child n (entry_made c.0 o ++ zipped cs (entries_behind c.0 es)) ≡ o
    here None t = find_below n (map pair (zipped cs (entries_behind c.0 es))) (subst (λ x. AreAbove x (zipped cs (entries_behind c.0 es))) (sym (exact_bytes n c.0 t)) above)
    here (Some id) t = ap (λ r. cond (is_eq r) (Some id) (child n (zipped cs (entries_behind c.0 es)))) t

    past : (o : Option ℕ) → slice_cmp nat_cmp n c.0 ≡ Greater → child n (entry_made c.0 o ++ zipped cs (entries_behind c.0 es)) ≡ child n (zipped cs (entries_behind c.0 es))
    past None t = refl
    past (Some id) t = ap (λ r. cond (is_eq r) (Some id) (child n (zipped cs (entries_behind c.0 es)))) t

    by : (r : Ordering) → slice_cmp nat_cmp n c.0 ≡ r → child n (zipped cs (entries_behind c.0 es)) ≡ or_made (made_at cs n) (child n (entries_behind c.0 es))
        → or_else (child n (entries_before c.0 es)) (child n (entry_made c.0 c.1 ++ zipped cs (entries_behind c.0 es))) ≡ or_made (cond (is_eq r) (Some c.1) (made_at cs n)) (child n es)
    by Less t go =
        ap (λ o. or_else o (child n (entry_made c.0 c.1 ++ zipped cs (entries_behind c.0 es)))) (before-less n c.0 es t rise)
        ∙ ap (or_else (child n es)) (find_below n (map pair (entry_made c.0 c.1 ++ zipped cs (entries_behind c.0 es))) (made-above n c.0 c.1 (zipped cs (entries_behind c.0 es)) t (below_less n c.0 (map pair (zipped cs (entries_behind c.0 es))) t above)))
        ∙ or_none (child n es)
        ∙ sym (ap (λ o. or_made o (child n es)) (find_below n cs (below_less n c.0 cs t (first_true _ _ h))))
    by Equal t go = ap (λ o. or_else o (child n (entry_made c.0 c.1 ++ zipped cs (entries_behind c.0 es)))) (before-not n c.0 es (λ l. let f : Less ≡ Equal = sym l ∙ t in cc f)) ∙ here c.1 t
    by Greater t go =
        ap (λ o. or_else o (child n (entry_made c.0 c.1 ++ zipped cs (entries_behind c.0 es)))) (before-not n c.0 es (λ l. let f : Less ≡ Greater = sym l ∙ t in cc f))
        ∙ past c.1 t ∙ go ∙ ap (or_made (made_at cs n)) (behind-greater n c.0 es t)

-- ---- for the code

pub behind_rises : (m : Name) (es rest : List Entry) → rest ≡ entries_behind m es → IsTrue (is_sorted (slice_cmp nat_cmp) (map pair es)) → IsTrue (is_sorted (slice_cmp nat_cmp) (map pair rest))
behind_rises m es rest is rise = subst (λ xs. IsTrue (is_sorted (slice_cmp nat_cmp) (map pair xs))) (sym is) (from_T _ (behind-rise m es (T_from _ rise)))

pub zipped_merged : (cs : AllMade) (es all : List Entry) → IsTrue (is_sorted (slice_cmp nat_cmp) cs) → IsTrue (is_sorted (slice_cmp nat_cmp) (map pair es)) → all ≡ zipped cs es → AreMerged cs es all
zipped_merged cs es all h rise is = subst (λ xs. AreMerged cs es xs) (sym is) (record {
  sorted = from_T _ (zipped-rise cs es (T_from _ h) (T_from _ rise));
  finds = zipped-finds cs es (T_from _ h) (T_from _ rise);
})

-- one change of those that are left
pub merged_more : (changes : AllMade) (i : ℕ) (c : List ℕ × Option ℕ) (old new rest after all : List Entry) → i < length changes → c ≡ get_or changes i c → old ++ zipped (drop i changes) rest ≡ all
    → new ≡ (old ++ entries_before c.0 rest) ++ entry_made c.0 c.1 → after ≡ entries_behind c.0 rest → new ++ zipped (drop (i + 1) changes) after ≡ all
merged_more changes i c old new rest after all less is so new_is after_is =
    ap (λ xs. xs ++ zipped (drop (i + 1) changes) after) new_is
    ∙ ap (λ xs. ((old ++ entries_before c.0 rest) ++ entry_made c.0 c.1) ++ zipped (drop (i + 1) changes) xs) after_is
    ∙ append_assoc (old ++ entries_before c.0 rest) (entry_made c.0 c.1) (zipped (drop (i + 1) changes) (entries_behind c.0 rest))
    ∙ append_assoc old (entries_before c.0 rest) (entry_made c.0 c.1 ++ zipped (drop (i + 1) changes) (entries_behind c.0 rest))
    ∙ ap (λ cs. old ++ zipped cs rest) (ap (λ (x : List ℕ × Option ℕ). x ∷ drop (i + 1) changes) is ∙ sym (drop_more changes i c less))
    ∙ so

-- at the end the entries that are left follow
pub merged_all : (changes : AllMade) (entries old rest all : List Entry) (i : ℕ) → length changes ≤ i → old ++ zipped (drop i changes) rest ≡ zipped changes entries → all ≡ old ++ rest → all ≡ zipped changes entries
merged_all changes entries old rest all i past so all_is = all_is ∙ ap (λ cs. old ++ zipped cs rest) (sym (drop_all i changes past)) ∙ so
