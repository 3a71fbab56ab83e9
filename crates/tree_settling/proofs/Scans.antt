-- What was made in one directory, as it is gone through in byte order of the paths.
use Rattle.std.proofs.Common.{◌≡◌, ℕ, suc, ◌+◌, ◌-◌, ◌≤◌, Bool, true, false, cond, T, List, [], ◌∷◌, ◌++◌, Option, None, Some, length, take, drop, get_or, reverse, nat_eq, refl, sym, ap, subst, ◌∙◌, arith, append-nil}
use Rattle.std.specs.Prelude.{if◌then◌else◌}
use Rattle.std.specs.List.{list_all, starts_with}
use Rattle.std.specs.Option.{option_map_or}
use Rattle.std.specs.Str.{bytes_eq}
use Rattle.std.specs.FinMap.{is_sorted, nat_cmp-IsAntisymmetric}
use Rattle.std.specs.FinMap.Entries.{below_all}
use Rattle.std.specs.Ordering.{nat_cmp, is_eq, eq_by_cmp, ordering_then, ordering_reverse}
use Rattle.std.specs.declared.cmp.Ordering.{Ordering}
use Rattle.std.specs.declared.cmp.Ordering.TheVariants.{Less, Equal, Greater}
use Rattle.std.specs.Cmp.{tied_itself, nat_cmp_total}
use Rattle.std.specs.Cmp.Lexicographic.{slice_cmp}
use Rattle.std.proofs.lemmas.Bool.{and_parts, and_from, eqb-true, eq-eqb}
use Rattle.std.proofs.lemmas.Map.Lookups.{exact_bytes}
use Rattle.dsv_base.specs.Paths.{is_path, is_component, name_of, parent_text, join_text, front_of, root_text}
use Rattle.dsv_base.proofs.Joins.{join_parent, name_is_component, parent_joined}
use Rattle.rev_nodes.specs.Entries.{is_child}
use Rattle.rev_nodes.proofs.Below.{same_from, equal_itself, parent_from}
use Rattle.rev_nodes.proofs.Search.{first_true, second_true, less_from}
use Rattle.node_table.specs.Ways.{Name}
use Rattle.node_table.proofs.Ways.{join-front}
use Rattle.tree_settling.specs.Merged.{AllMade, made_at}
use Rattle.tree_settling.specs.Listed.{AreBehind, AreListed, listed_in}
use Rattle.tree_settling.proofs.Rising.{both, T_from, from_T, lt_from, find_less}
use Rattle.tree_settling.proofs.Lists.{last_first}

-- ---- texts with one front

-- behind one front texts stand as what follows it does
same_front : (front xs ys : List ℕ) → slice_cmp nat_cmp (front ++ xs) (front ++ ys) ≡ slice_cmp nat_cmp xs ys
same_front [] xs ys = refl
same_front (f ∷ fs) xs ys = ap (λ r. ordering_then r (slice_cmp nat_cmp (fs ++ xs) (fs ++ ys))) (tied_itself nat_cmp_total f) ∙ same_front fs xs ys

pub join_order : (k n m : List ℕ) → slice_cmp nat_cmp (join_text k n) (join_text k m) ≡ slice_cmp nat_cmp n m
join_order k n m =
    ap (λ x. slice_cmp nat_cmp x (join_text k m)) (join-front k n)
    ∙ ap (λ y. slice_cmp nat_cmp (front_of k ++ 47 ∷ n) y) (join-front k m)
    ∙ same_front (front_of k) (47 ∷ n) (47 ∷ m)
    ∙ same_front (47 ∷ []) n m

-- between a text and one that begins with it all begin with it
between : (k p q : List ℕ) → slice_cmp nat_cmp k p ≡ Less → slice_cmp nat_cmp p q ≡ Less → starts_with nat_eq q k ≡ true → starts_with nat_eq p k ≡ true
between [] p q l m s = refl
between (a ∷ k) [] q l m s = absurd (cc l)
between (a ∷ k) (b ∷ p) [] l m s = absurd (cc s)
between (a ∷ k) (b ∷ p) (c ∷ q) l m s = by (nat_cmp a b) refl l (between k p q)
  where
    parts : (nat_eq a c ≡ true) × (starts_with nat_eq q k ≡ true)
    parts = and_parts (nat_eq a c) (starts_with nat_eq q k) s

    same : a ≡ c
    same = eqb-true a c parts.0

    by : (r : Ordering) → nat_cmp a b ≡ r → ordering_then r (slice_cmp nat_cmp k p) ≡ Less → (slice_cmp nat_cmp k p ≡ Less → slice_cmp nat_cmp p q ≡ Less → starts_with nat_eq q k ≡ true → starts_with nat_eq p k ≡ true)
        → starts_with nat_eq (b ∷ p) (a ∷ k) ≡ true
    by Less t u go =
        let back : nat_cmp b c ≡ Greater = ap (nat_cmp b) (sym same) ∙ nat_cmp_total.antisymm b a ∙ ap ordering_reverse t in
        let f : Greater ≡ Less = sym (ap (λ r. ordering_then r (slice_cmp nat_cmp p q)) back) ∙ m in
        absurd (cc f)
    by Equal t u go =
        let one : a ≡ b = nat_cmp-IsAntisymmetric a b t in
        let tie : nat_cmp b c ≡ Equal = ap (λ x. nat_cmp x c) (sym one) ∙ ap (λ x. nat_cmp x c) same ∙ tied_itself nat_cmp_total c in
        and_from (nat_eq a b) (starts_with nat_eq p k) (eq-eqb a b one) (go u (sym (ap (λ r. ordering_then r (slice_cmp nat_cmp p q)) tie) ∙ m) parts.1)
    by Greater t u go = absurd (cc u)

begins : (k xs : List ℕ) → starts_with nat_eq (k ++ xs) k ≡ true
begins [] xs = refl
begins (a ∷ k) xs = and_from (nat_eq a a) (starts_with nat_eq (k ++ xs) k) (eq-eqb a a refl) (begins k xs)

-- a name behind a path begins with it
join-begins : (k n : List ℕ) → starts_with nat_eq (join_text k n) k ≡ true
join-begins k n = ap (λ t. starts_with nat_eq t k) (join-front k n) ∙ by (bytes_eq k root_text) refl
  where
    by : (b : Bool) → bytes_eq k root_text ≡ b → starts_with nat_eq ((if b then [] else k) ++ 47 ∷ n) k ≡ true
    by true e = ap (λ t. starts_with nat_eq (47 ∷ n) t) (same_from k root_text e)
    by false e = begins k (47 ∷ n)

-- ---- what stands right in a directory

pub record IsIn (k p : List ℕ) : Type 0 where
  pub joined : p ≡ join_text k (name_of p)
  pub parent : parent_text p ≡ Some k
  pub name : is_component (name_of p) ≡ true

pub in_from : (k p : List ℕ) → is_path p ≡ true → is_child k p ≡ true → IsIn k p
in_from k p one child = by (parent_text p) refl child
  where
    by : (o : Option (List ℕ)) → parent_text p ≡ o → option_map_or (bytes_eq k) o false ≡ true → IsIn k p
    by None e h = absurd (cc h)
    by (Some q) e h =
        let same : k ≡ q = same_from k q h in
        record {
          joined = sym (join_parent p q one e) ∙ ap (λ x. join_text x (name_of p)) (sym same);
          parent = e ∙ ap (λ (x : List ℕ). Some x) (sym same);
          name = name_is_component p one (parent_from p q e).0;
        }

child_joined : (k n : List ℕ) → is_path k ≡ true → is_component n ≡ true → is_child k (join_text k n) ≡ true
child_joined k n one named = ap (λ o. option_map_or (bytes_eq k) o false) (parent_joined k n one named) ∙ equal_itself k

-- what was made in a directory, up to the first path that doesn't begin with it
abbrev pub scan : List ℕ → AllMade → AllMade
scan k [] = []
scan k (m ∷ ms) = if starts_with nat_eq m.0 k then listed_in k m ++ scan k ms else []

-- in the directory, behind a name in it
scan-above : (k a p : List ℕ) (ms : AllMade) → p ≡ join_text k a → list_all (λ m. is_path m.0) ms ≡ true → T (below_all (slice_cmp nat_cmp) p ms) → T (below_all (slice_cmp nat_cmp) a (scan k ms))
scan-above k a p [] is paths h = tt
scan-above k a p (m ∷ ms) is paths h = by (starts_with nat_eq m.0 k) (is_child k m.0) refl (scan-above k a p ms is (and_parts (is_path m.0) _ paths).1 (second_true _ _ h))
  where
    by : (b c : Bool) → is_child k m.0 ≡ c → T (below_all (slice_cmp nat_cmp) a (scan k ms)) → T (below_all (slice_cmp nat_cmp) a (if b then (if c then (name_of m.0, m.1) ∷ [] else []) ++ scan k ms else []))
    by false c e go = tt
    by true false e go = go
    by true true e go =
        let in_ = in_from k m.0 (and_parts (is_path m.0) _ paths).0 e in
        both _ _ (lt_from _ (sym (join_order k a (name_of m.0)) ∙ ap (λ x. slice_cmp nat_cmp x (join_text k (name_of m.0))) (sym is) ∙ ap (slice_cmp nat_cmp p) (sym in_.joined) ∙ less_from _ (first_true _ _ h))) go

scan-rise : (k : List ℕ) (ms : AllMade) → list_all (λ m. is_path m.0) ms ≡ true → T (is_sorted (slice_cmp nat_cmp) ms) → T (is_sorted (slice_cmp nat_cmp) (scan k ms))
scan-rise k [] paths h = tt
scan-rise k (m ∷ ms) paths h = by (starts_with nat_eq m.0 k) (is_child k m.0) refl (scan-rise k ms (and_parts (is_path m.0) _ paths).1 (second_true _ _ h))
  where
    by : (b c : Bool) → is_child k m.0 ≡ c → T (is_sorted (slice_cmp nat_cmp) (scan k ms)) → T (is_sorted (slice_cmp nat_cmp) (if b then (if c then (name_of m.0, m.1) ∷ [] else []) ++ scan k ms else []))
    by false c e go = tt
    by true false e go = go
    by true true e go =
        let in_ = in_from k m.0 (and_parts (is_path m.0) _ paths).0 e in
        both _ _ (scan-above k (name_of m.0) m.0 ms in_.joined (and_parts (is_path m.0) _ paths).1 (first_true _ _ h)) go

scan-named : (k : List ℕ) (ms : AllMade) → list_all (λ m. is_path m.0) ms ≡ true → (n : Name) (id : Option ℕ) → made_at (scan k ms) n ≡ Some id → is_component n ≡ true
scan-named k [] paths n id found = absurd (cc found)
scan-named k (m ∷ ms) paths n id found = by (starts_with nat_eq m.0 k) (is_child k m.0) refl found (scan-named k ms (and_parts (is_path m.0) _ paths).1 n id)
  where
    at : (r : Ordering) → slice_cmp nat_cmp n (name_of m.0) ≡ r → is_child k m.0 ≡ true → cond (is_eq r) (Some m.1) (made_at (scan k ms) n) ≡ Some id → (made_at (scan k ms) n ≡ Some id → is_component n ≡ true) → is_component n ≡ true
    at Less t e f go = go f
    at Equal t e f go = ap is_component (exact_bytes n (name_of m.0) t) ∙ (in_from k m.0 (and_parts (is_path m.0) _ paths).0 e).name
    at Greater t e f go = go f

    by : (b c : Bool) → is_child k m.0 ≡ c → made_at (if b then (if c then (name_of m.0, m.1) ∷ [] else []) ++ scan k ms else []) n ≡ Some id → (made_at (scan k ms) n ≡ Some id → is_component n ≡ true) → is_component n ≡ true
    by false c e f go = absurd (cc f)
    by true false e f go = go f
    by true true e f go = at (slice_cmp nat_cmp n (name_of m.0)) refl e f go

-- behind a text that doesn't begin with a path, behind which it stands, nothing does
scan-end : (k : List ℕ) (m : List ℕ × Option ℕ) (ms : AllMade) (n : Name) → slice_cmp nat_cmp k m.0 ≡ Less → T (below_all (slice_cmp nat_cmp) m.0 ms) → starts_with nat_eq m.0 k ≡ false → made_at (m ∷ ms) (join_text k n) ≡ None
scan-end k m ms n less later not = by (slice_cmp nat_cmp (join_text k n) m.0) refl (made_at ms (join_text k n)) refl
  where
    clash : starts_with nat_eq m.0 k ≡ true → ⊥
    clash t = let f : true ≡ false = sym t ∙ not in cc f

    beyond : (o : Option (Option ℕ)) → made_at ms (join_text k n) ≡ o → o ≡ None
    beyond None e = refl
    beyond (Some v) e = absurd (clash (between k m.0 (join_text k n) less (find_less m.0 (join_text k n) ms v later e) (join-begins k n)))

    by : (r : Ordering) → slice_cmp nat_cmp (join_text k n) m.0 ≡ r → (o : Option (Option ℕ)) → made_at ms (join_text k n) ≡ o → cond (is_eq r) (Some m.1) (made_at ms (join_text k n)) ≡ None
    by Less t o e = beyond (made_at ms (join_text k n)) refl
    by Equal t o e = absurd (clash (ap (λ x. starts_with nat_eq x k) (sym (exact_bytes (join_text k n) m.0 t)) ∙ join-begins k n))
    by Greater t o e = beyond (made_at ms (join_text k n)) refl

scan-finds : (k : List ℕ) (ms : AllMade) → is_path k ≡ true → list_all (λ m. is_path m.0) ms ≡ true → T (is_sorted (slice_cmp nat_cmp) ms) → T (below_all (slice_cmp nat_cmp) k ms) → (n : Name) → is_component n ≡ true → made_at (scan k ms) n ≡ made_at ms (join_text k n)
scan-finds k [] one paths h later n named = refl
scan-finds k (m ∷ ms) one paths h later n named = by (starts_with nat_eq m.0 k) refl (is_child k m.0) refl (scan-finds k ms one (and_parts (is_path m.0) _ paths).1 (second_true _ _ h) (second_true _ _ later) n named)
  where
    other : is_child k m.0 ≡ false → (r : Ordering) → slice_cmp nat_cmp (join_text k n) m.0 ≡ r → is_eq r ≡ false
    other e Less t = refl
    other e Equal t = absurd (let f : true ≡ false = sym (child_joined k n one named) ∙ ap (is_child k) (exact_bytes (join_text k n) m.0 t) ∙ e in cc f)
    other e Greater t = refl

    by : (b : Bool) → starts_with nat_eq m.0 k ≡ b → (c : Bool) → is_child k m.0 ≡ c → made_at (scan k ms) n ≡ made_at ms (join_text k n)
        → made_at (if b then (if c then (name_of m.0, m.1) ∷ [] else []) ++ scan k ms else []) n ≡ made_at (m ∷ ms) (join_text k n)
    by false s c e go = sym (scan-end k m ms n (less_from _ (first_true _ _ later)) (first_true _ _ h) s)
    by true s false e go = go ∙ sym (ap (λ b. cond b (Some m.1) (made_at ms (join_text k n))) (other e (slice_cmp nat_cmp (join_text k n) m.0) refl))
    by true s true e go =
        let in_ = in_from k m.0 (and_parts (is_path m.0) _ paths).0 e in
        ap (λ o. cond (eq_by_cmp (slice_cmp nat_cmp) n (name_of m.0)) (Some m.1) o) go
        ∙ ap (λ r. cond (is_eq r) (Some m.1) (made_at ms (join_text k n))) (sym (join_order k n (name_of m.0)) ∙ ap (slice_cmp nat_cmp (join_text k n)) (sym in_.joined))

-- ---- for the code

pub scan_listed : (k : List ℕ) (ms names : AllMade) → AreBehind k ms → names ≡ scan k ms → AreListed k ms names
scan_listed k ms names are is = subst (λ xs. AreListed k ms xs) (sym is) (record {
  sorted = from_T _ (scan-rise k ms are.paths (T_from _ are.sorted));
  finds = scan-finds k ms are.one are.paths (T_from _ are.sorted) (T_from _ are.later);
  named = scan-named k ms are.paths;
})

-- what is left to be gone through, from its end
pub record IsScanned (k : List ℕ) (made rest names : AllMade) : Type 0 where
  pub so : names ++ scan k (reverse rest) ≡ scan k (reverse made)
  pub paths : list_all (λ m. is_path m.0) (reverse rest) ≡ true

pub scan_ends : (k : List ℕ) (made names : AllMade) (n : ℕ) → n ≡ 0 → IsScanned k made (take n made) names → names ≡ scan k (reverse made)
scan_ends k made names n none so = sym (append-nil names) ∙ ap (λ m. names ++ scan k (reverse (take m made))) (sym none) ∙ so.so

module _ (k : List ℕ) (made names : AllMade) (n : ℕ) (first : List ℕ × Option ℕ) (some : 1 ≤ n) (within : n ≤ length made) (is : first ≡ get_or made (n - 1) first) (so : IsScanned k made (take n made) names) where
  cut : reverse (take n made) ≡ first ∷ reverse (take (n - 1) made)
  cut = last_first made n first some within is

  pub scan_stops : starts_with nat_eq first.0 k ≡ false → names ≡ scan k (reverse made)
  scan_stops not =
      sym (append-nil names)
      ∙ ap (λ xs. names ++ xs) (sym (ap (scan k) cut ∙ ap (λ b. if b then listed_in k first ++ scan k (reverse (take (n - 1) made)) else []) not))
      ∙ so.so

-- a name in its path
pub name_cut : (k p : List ℕ) → is_path p ≡ true → parent_text p ≡ Some k → p ≡ front_of k ++ 47 ∷ name_of p
name_cut k p one parent = sym (join_parent p k one parent) ∙ join-front k (name_of p)

behind_front : (front name : List ℕ) → drop (length front + 1) (front ++ 47 ∷ name) ≡ name
behind_front [] name = refl
behind_front (b ∷ bs) name = let more : suc (length bs) + 1 ≡ suc (length bs + 1) = omega arith in ap (λ n. drop n (b ∷ (bs ++ 47 ∷ name))) more ∙ behind_front bs name

pub name_behind : (k p name : List ℕ) (n : ℕ) → is_path p ≡ true → parent_text p ≡ Some k → n ≡ length (front_of k) → name ≡ drop (n + 1) p → name ≡ name_of p
name_behind k p name n one parent n_is name_is =
    name_is ∙ ap (λ m. drop (m + 1) p) n_is ∙ ap (drop (length (front_of k) + 1)) (name_cut k p one parent) ∙ behind_front (front_of k) (name_of p)
