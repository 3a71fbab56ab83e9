-- What stands at a path or under it is among the locks from the first one on that isn't before the path's text, as
-- long as paths begin with it.
use Rattle.std.proofs.Common.{Ordering, Less, Equal, Greater, ◌≡◌, ℕ, ◌<◌, Bool, true, false, ◌&&◌, ◌||◌, not, cond, List, [], ◌∷◌, ◌++◌, length, map, nat_eq, refl, sym, ap, ◌∙◌, arith}
use Rattle.std.specs.Prelude.{filter, if◌then◌else◌}
use Rattle.std.specs.List.{starts_with, AllByRecursion}
use Rattle.std.specs.List.Sorted.{IsStrictlySortedBy}
use Rattle.std.specs.Map.{keys_of}
use Rattle.std.specs.Str.{bytes_eq}
use Rattle.std.specs.Ordering.{nat_cmp, is_le, ordering_then}
use Rattle.std.specs.Cmp.Lexicographic.{slice_cmp}
use Rattle.std.proofs.lemmas.Bool.{and_parts, and_from}
use Rattle.std.proofs.lemmas.Bool.Decides.{nat_tests}
use Rattle.std.proofs.lemmas.Cmp.{ranked, nat_eq_equiv}
use Rattle.std.proofs.lemmas.Slice.Eq.{bytes_eq-Decides}
use Rattle.dsv_base.specs.Paths.{is_under, front_of, root_text}
use Rattle.dsv_base.proofs.Under.{starts_with-slash, slash_at}
use Rattle.path_locks.specs.LockStates.{Lock, locks_under}
use Rattle.path_locks.specs.Kept.{locks_in, seen_locks, stand_at_paths, run_of, those_under}

-- ---- texts that begin with a text

unequal : (x z : ℕ) → x < z → (b : Bool) → (nat_eq x z && b) ≡ false
unequal x z less b = grind (arith, nat_tests)

unequal_back : (x z : ℕ) → z < x → (b : Bool) → (nat_eq x z && b) ≡ false
unequal_back x z less b = grind (arith, nat_tests)

behind : (x y : ℕ) → x ≡ y → (b : Bool) → (nat_eq x y && b) ≡ false → b ≡ false
behind x y same b not_so = grind (arith, nat_tests)

right_false : (a b : Bool) → b ≡ false → (a && b) ≡ false
right_false true b not_so = not_so
right_false false b not_so = refl

-- none before it does
before_text : (q p : List ℕ) → is_le (slice_cmp nat_cmp q p) ≡ false → starts_with nat_eq p q ≡ false
before_text [] [] h = absurd (cc h)
before_text [] (y ∷ ys) h = absurd (cc h)
before_text (x ∷ xs) [] h = refl
before_text (x ∷ xs) (y ∷ ys) h = by (nat_cmp x y) refl h (λ k. before_text xs ys k)
  where
    by : (o : Ordering) → nat_cmp x y ≡ o → is_le (ordering_then o (slice_cmp nat_cmp xs ys)) ≡ false → (is_le (slice_cmp nat_cmp xs ys) ≡ false → starts_with nat_eq ys xs ≡ false) → (nat_eq x y && starts_with nat_eq ys xs) ≡ false
    by Less e h go = absurd (cc h)
    by Equal e h go = right_false (nat_eq x y) (starts_with nat_eq ys xs) (go h)
    by Greater e h go = unequal_back x y (ranked x y Greater (sym e)) (starts_with nat_eq ys xs)

-- nor does one behind the first that doesn't
behind_text : (q p r : List ℕ) → is_le (slice_cmp nat_cmp q p) ≡ true → starts_with nat_eq p q ≡ false → slice_cmp nat_cmp p r ≡ Less → starts_with nat_eq r q ≡ false
behind_text [] p r from not_so less = absurd (cc not_so)
behind_text (x ∷ xs) [] r from not_so less = absurd (cc from)
behind_text (x ∷ xs) (y ∷ ys) [] from not_so less = refl
behind_text (x ∷ xs) (y ∷ ys) (z ∷ zs) from not_so less = by (nat_cmp x y) refl (nat_cmp y z) refl from less (λ a b c. behind_text xs ys zs a b c)
  where
    trans : x < y → y < z → x < z
    trans a b = omega (arith, a, b)

    later : x < y → y ≡ z → x < z
    later a b = omega (arith, a, b)

    sooner : x ≡ y → y < z → x < z
    sooner a b = omega (arith, a, b)

    by : (o : Ordering) → nat_cmp x y ≡ o → (u : Ordering) → nat_cmp y z ≡ u → is_le (ordering_then o (slice_cmp nat_cmp xs ys)) ≡ true → ordering_then u (slice_cmp nat_cmp ys zs) ≡ Less
        → (is_le (slice_cmp nat_cmp xs ys) ≡ true → starts_with nat_eq ys xs ≡ false → slice_cmp nat_cmp ys zs ≡ Less → starts_with nat_eq zs xs ≡ false) → (nat_eq x z && starts_with nat_eq zs xs) ≡ false
    by Greater e u f from less go = absurd (cc from)
    by Less e Less f from less go = unequal x z (trans (ranked x y Less (sym e)) (ranked y z Less (sym f))) (starts_with nat_eq zs xs)
    by Less e Equal f from less go = unequal x z (later (ranked x y Less (sym e)) (ranked y z Equal (sym f))) (starts_with nat_eq zs xs)
    by Less e Greater f from less go = absurd (cc less)
    by Equal e Less f from less go = unequal x z (sooner (ranked x y Equal (sym e)) (ranked y z Less (sym f))) (starts_with nat_eq zs xs)
    by Equal e Equal f from less go = right_false (nat_eq x z) (starts_with nat_eq zs xs) (go from (behind x y (ranked x y Equal (sym e)) (starts_with nat_eq ys xs) not_so) less)
    by Equal e Greater f from less go = absurd (cc less)

starts_itself : (p : List ℕ) → starts_with nat_eq p p ≡ true
starts_itself [] = refl
starts_itself (x ∷ xs) = and_from (nat_eq x x) (starts_with nat_eq xs xs) (nat_eq_equiv.refl x) (starts_itself xs)

-- what is at a path or under it begins with what is before its children
not_under : (p q : List ℕ) → starts_with nat_eq p (front_of q) ≡ false → is_under p q ≡ false
unfolding is_under
not_under p q not_so = either (bytes_eq q root_text) refl not_so
  where
    other : starts_with nat_eq p q ≡ false → (b : Bool) → bytes_eq p q ≡ b → b ≡ false
    other not_so true e = absurd (let same = ap (λ t. starts_with nat_eq t q) ((bytes_eq-Decides p q).0 e) in let itself = starts_itself q in cc (same, itself, not_so))
    other not_so false e = refl

    either : (b : Bool) → bytes_eq q root_text ≡ b → starts_with nat_eq p (if b then [] else q) ≡ false → (bytes_eq p q || b || starts_with nat_eq p (q ++ 47 ∷ [])) ≡ false
    either true e not_so = absurd (cc not_so)
    either false e not_so =
        ap (λ a. a || false || starts_with nat_eq p (q ++ 47 ∷ [])) (other not_so (bytes_eq p q) refl)
        ∙ starts_with-slash q p ∙ ap (λ a. a && slash_at p (length q)) not_so

-- ---- entries of a map

taken : (b : Bool) (t : List ℕ) (x : Lock) (us : List Lock) (es : List (List ℕ × Lock)) → us ≡ map (λ e. e.1) es → cond b (x ∷ us) us ≡ map (λ e. e.1) (cond b ((t, x) ∷ es) es)
taken true t x us es go = ap (λ ls. x ∷ ls) go
taken false t x us es go = go

module _ {K : Type 0} (text : K → List ℕ) (path : List ℕ) where
  abbrev order : K → K → Ordering
  order x y = slice_cmp nat_cmp (text x) (text y)

  -- an entry whose path doesn't begin with the text counts for nothing
  passed : (e : K × Lock) (es : List (K × Lock)) → starts_with nat_eq (text e.0) (front_of path) ≡ false → locks_under path (seen_locks text (e ∷ es)) ≡ locks_under path (seen_locks text es)
  passed e es not_so = ap (λ b. map (λ (x : List ℕ × Lock). x.1) (cond b ((text e.0, e.1) ∷ filter (λ (x : List ℕ × Lock). is_under x.0 path) (locks_in text es)) (filter (λ (x : List ℕ × Lock). is_under x.0 path) (locks_in text es)))) (not_under (text e.0) path not_so)

  none_behind : (k : K) → is_le (slice_cmp nat_cmp (front_of path) (text k)) ≡ true → starts_with nat_eq (text k) (front_of path) ≡ false → (es : List (K × Lock)) → AllByRecursion (λ y. order k y ≡ Less) (keys_of es) → locks_under path (seen_locks text es) ≡ []
  none_behind k from not_so [] all = refl
  none_behind k from not_so (e ∷ es) all = passed e es (behind_text (front_of path) (text k) (text e.0) from not_so all.0) ∙ none_behind k from not_so es all.1

  pub run_is : (key : K) → text key ≡ front_of path → (es : List (K × Lock)) → IsStrictlySortedBy order (keys_of es) → stand_at_paths text es ≡ true
      → those_under path (run_of (front_of path) (filter (λ (e : K × Lock). is_le (order key e.0) && not false) es)) ≡ locks_under path (seen_locks text es)
  unfolding IsStrictlySortedBy
  run_is key is [] sorted named = refl
  run_is key is (e ∷ es) sorted named =
      let p = and_parts (bytes_eq e.1.path (text e.0)) (stand_at_paths text es) named in
      by (is_le (order key e.0)) (ap (λ t. is_le (slice_cmp nat_cmp t (text e.0))) (sym is)) ((bytes_eq-Decides e.1.path (text e.0)).0 p.0) (run_is key is es sorted.1 p.1)
    where
      rest : List (K × Lock)
      rest = filter (λ (x : K × Lock). is_le (order key x.0) && not false) es

      in_run : (s : Bool) → starts_with nat_eq e.1.path (front_of path) ≡ s → is_le (slice_cmp nat_cmp (front_of path) (text e.0)) ≡ true → e.1.path ≡ text e.0
          → those_under path (run_of (front_of path) rest) ≡ locks_under path (seen_locks text es)
          → those_under path (if s then e.1 ∷ run_of (front_of path) rest else []) ≡ locks_under path (seen_locks text (e ∷ es))
      in_run true begins from same go =
          ap (λ t. cond (is_under t path) (e.1 ∷ those_under path (run_of (front_of path) rest)) (those_under path (run_of (front_of path) rest))) same
          ∙ taken (is_under (text e.0) path) (text e.0) e.1 (those_under path (run_of (front_of path) rest)) (filter (λ (x : List ℕ × Lock). is_under x.0 path) (locks_in text es)) go
      in_run false begins from same go =
          let not_so = ap (λ t. starts_with nat_eq t (front_of path)) (sym same) ∙ begins in
          sym (passed e es not_so ∙ none_behind e.0 from not_so es sorted.0)

      by : (b : Bool) → is_le (slice_cmp nat_cmp (front_of path) (text e.0)) ≡ b → e.1.path ≡ text e.0
          → those_under path (run_of (front_of path) rest) ≡ locks_under path (seen_locks text es)
          → those_under path (run_of (front_of path) (cond (b && not false) (e ∷ rest) rest)) ≡ locks_under path (seen_locks text (e ∷ es))
      by true from same go = in_run (starts_with nat_eq e.1.path (front_of path)) refl from same go
      by false from same go = go ∙ sym (passed e es (before_text (front_of path) (text e.0) from))
