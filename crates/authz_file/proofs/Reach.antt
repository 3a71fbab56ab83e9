-- A search that goes on until nothing is added finds what is reached.
use Rattle.std.proofs.Common.{◌≡◌, ℕ, zero, suc, ◌+◌, ◌<◌, ◌≤◌, Bool, true, false, cond, ◌||◌, ◌⊎◌, inl, inr, ⊎_elim, List, [], ◌∷◌, ◌++◌, length, take, drop, drop-cons, get_or, nat_eq, refl, ap, sym, ◌∙◌, subst, arith, append_assoc, ◌-◌, length-append}
use Rattle.std.specs.Prelude.{if◌then◌else◌}
use Rattle.std.specs.List.{list_any, flat_map, IsDistinct}
use Rattle.std.specs.BTreeSet.{BTreeSet, contains}
use Rattle.std.specs.Ordering.{nat_cmp, is_eq}
use Rattle.std.proofs.lemmas.Cmp.{nat_eq_equiv}
use Rattle.std.proofs.lemmas.Map.Keys.{IsDistinct-push}
use Rattle.std.proofs.lemmas.Bool.{false≢true}
use Rattle.std.proofs.lemmas.Bool.Decides.{nat_tests}
use Rattle.std.proofs.lemmas.List.{take_more, append-nil, take-append-le, take-append-drop, take_all}
use Rattle.std.proofs.lemmas.List.Folds.{list_any-append}
use Rattle.std.proofs.lemmas.Map.Steps.{length-le_from_distinct_below}
use Rattle.authz_file.specs.Groups.{named_at, reached, reached_by}
use Rattle.authz_file.specs.Searching.{with_place, with_places, Has, IsGraph, IsSeen}

pub or_true : (a b : Bool) → (a || b) ≡ true → (a ≡ true) ⊎ (b ≡ true)
or_true true b h = inl refl
or_true false b h = inr h

pub or_left : (a b : Bool) → a ≡ true → (a || b) ≡ true
or_left true b h = refl
or_left false b h = cc

pub or_right : (a b : Bool) → b ≡ true → (a || b) ≡ true
or_right true b h = refl
or_right false b h = h

pub or_none : (b : Bool) → (b || false) ≡ b
or_none true = refl
or_none false = refl

pub same : (a b : Bool) → (a ≡ true → b ≡ true) → (b ≡ true → a ≡ true) → a ≡ b
same true b f g = sym (f refl)
same false true f g = g refl
same false false f g = refl

pub has_front : (xs ys : List ℕ) (q : ℕ) → Has xs q → Has (xs ++ ys) q
has_front xs ys q h = list_any-append (nat_eq q) xs ys ∙ or_left (list_any (nat_eq q) xs) (list_any (nat_eq q) ys) h

pub has_back : (xs ys : List ℕ) (q : ℕ) → Has ys q → Has (xs ++ ys) q
has_back xs ys q h = list_any-append (nat_eq q) xs ys ∙ or_right (list_any (nat_eq q) xs) (list_any (nat_eq q) ys) h

pub has_either : (xs ys : List ℕ) (q : ℕ) → Has (xs ++ ys) q → Has xs q ⊎ Has ys q
has_either xs ys q h = or_true (list_any (nat_eq q) xs) (list_any (nat_eq q) ys) (sym (list_any-append (nat_eq q) xs ys) ∙ h)

pub equal : (q x : ℕ) → nat_eq q x ≡ true → q ≡ x
equal q x h = grind (arith, nat_tests)

-- ---- what a list of places names
has_flat : (graph : List (List ℕ)) (xs : List ℕ) (p r : ℕ) → Has xs p → Has (named_at graph p) r → Has (flat_map (named_at graph) xs) r
has_flat graph [] p r h n = cc
has_flat graph (x ∷ xs) p r h n = ⊎_elim
    (λ e. has_front (named_at graph x) (flat_map (named_at graph) xs) r (ap (λ i. list_any (nat_eq r) (named_at graph i)) (sym (equal p x e)) ∙ n))
    (λ e. has_back (named_at graph x) (flat_map (named_at graph) xs) r (has_flat graph xs p r e n))
    (or_true (nat_eq p x) (list_any (nat_eq p) xs) h)

-- what holds of the places and goes on to what they name holds of that
flat_within : (graph : List (List ℕ)) (P : ℕ → Type 0) → ((p r : ℕ) → P p → Has (named_at graph p) r → P r)
    → (xs : List ℕ) → ((p : ℕ) → Has xs p → P p) → (r : ℕ) → Has (flat_map (named_at graph) xs) r → P r
flat_within graph P closed [] h r n = absurd (false≢true n)
flat_within graph P closed (x ∷ xs) h r n = ⊎_elim
    (λ e. closed x r (h x (or_left (nat_eq x x) (list_any (nat_eq x) xs) (grind (arith, nat_tests)))) e)
    (λ e. flat_within graph P closed xs (λ p k. h p (or_right (nat_eq p x) (list_any (nat_eq p) xs) k)) r e)
    (has_either (named_at graph x) (flat_map (named_at graph) xs) r n)

-- ---- reached in so many steps
pub reached_start : (graph : List (List ℕ)) (n : ℕ) (xs : List ℕ) (q : ℕ) → Has xs q → Has (reached graph n xs) q
unfolding reached
reached_start graph zero xs q h = h
reached_start graph (suc n) xs q h = has_front xs (reached graph n (flat_map (named_at graph) xs)) q h

more_once : (graph : List (List ℕ)) (n : ℕ) (xs : List ℕ) (q : ℕ) → Has (reached graph n xs) q → Has (reached graph (suc n) xs) q
unfolding reached
more_once graph zero xs q h = has_front xs (flat_map (named_at graph) xs) q h
more_once graph (suc n) xs q h = ⊎_elim
    (λ e. has_front xs (reached graph (suc n) (flat_map (named_at graph) xs)) q e)
    (λ e. has_back xs (reached graph (suc n) (flat_map (named_at graph) xs)) q (more_once graph n (flat_map (named_at graph) xs) q e))
    (has_either xs (reached graph n (flat_map (named_at graph) xs)) q h)

more_by : (graph : List (List ℕ)) (xs : List ℕ) (q : ℕ) (k n m : ℕ) → m ≡ n + k → Has (reached graph n xs) q → Has (reached graph m xs) q
more_by graph xs q zero n m e h = let f : n ≡ m = omega arith in subst (λ i. Has (reached graph i xs) q) f h
more_by graph xs q (suc k) n m e h =
    let f : suc (n + k) ≡ m = omega arith in
    subst (λ i. Has (reached graph i xs) q) f (more_once graph (n + k) xs q (more_by graph xs q k n (n + k) refl h))

pub more : (graph : List (List ℕ)) (xs : List ℕ) (q n m : ℕ) → n ≤ m → Has (reached graph n xs) q → Has (reached graph m xs) q
more graph xs q n m le h = more_by graph xs q (m - n) n m (omega arith) h

one_step : (graph : List (List ℕ)) (n : ℕ) (xs : List ℕ) (p r : ℕ) → Has (reached graph n xs) p → Has (named_at graph p) r → Has (reached graph (suc n) xs) r
unfolding reached
one_step graph zero xs p r h n = has_back xs (flat_map (named_at graph) xs) r (has_flat graph xs p r h n)
one_step graph (suc k) xs p r h n = has_back xs (reached graph (suc k) (flat_map (named_at graph) xs)) r (⊎_elim
    (λ e. reached_start graph (suc k) (flat_map (named_at graph) xs) r (has_flat graph xs p r e n))
    (λ e. one_step graph k (flat_map (named_at graph) xs) p r e n)
    (has_either xs (reached graph k (flat_map (named_at graph) xs)) p h))

-- and of all that is reached
pub reached_within : (graph : List (List ℕ)) (P : ℕ → Type 0) → ((p r : ℕ) → P p → Has (named_at graph p) r → P r)
    → (n : ℕ) (xs : List ℕ) → ((p : ℕ) → Has xs p → P p) → (q : ℕ) → Has (reached graph n xs) q → P q
unfolding reached
reached_within graph P closed zero xs h q r = h q r
reached_within graph P closed (suc n) xs h q r = ⊎_elim
    (λ e. h q e)
    (λ e. reached_within graph P closed n (flat_map (named_at graph) xs) (flat_within graph P closed xs h) q e)
    (has_either xs (reached graph n (flat_map (named_at graph) xs)) q r)

-- ---- places added to others, each once
with_place-any : (xs : List ℕ) (y q : ℕ) → list_any (nat_eq q) (with_place xs y) ≡ (list_any (nat_eq q) xs || nat_eq q y)
with_place-any xs y q = either (list_any (nat_eq y) xs) refl
  where
    there : list_any (nat_eq y) xs ≡ true → list_any (nat_eq q) xs ≡ (list_any (nat_eq q) xs || nat_eq q y)
    there h = same (list_any (nat_eq q) xs) (list_any (nat_eq q) xs || nat_eq q y) (or_left (list_any (nat_eq q) xs) (nat_eq q y)) (λ k. back (or_true (list_any (nat_eq q) xs) (nat_eq q y) k))
      where
        back : (list_any (nat_eq q) xs ≡ true) ⊎ (nat_eq q y ≡ true) → list_any (nat_eq q) xs ≡ true
        back (inl e) = e
        back (inr e) = ap (λ i. list_any (nat_eq i) xs) (equal q y e) ∙ h

    either : (b : Bool) → list_any (nat_eq y) xs ≡ b → list_any (nat_eq q) (if b then xs else xs ++ y ∷ []) ≡ (list_any (nat_eq q) xs || nat_eq q y)
    either true h = there h
    either false h = list_any-append (nat_eq q) xs (y ∷ []) ∙ ap (λ b. list_any (nat_eq q) xs || b) (or_none (nat_eq q y))

or_assoc : (a b c : Bool) → ((a || b) || c) ≡ (a || (b || c))
or_assoc true b c = refl
or_assoc false b c = refl

pub with_places-any : (ys xs : List ℕ) (q : ℕ) → list_any (nat_eq q) (with_places xs ys) ≡ (list_any (nat_eq q) xs || list_any (nat_eq q) ys)
with_places-any [] xs q = sym (or_none (list_any (nat_eq q) xs))
with_places-any (y ∷ ys) xs q = with_places-any ys (with_place xs y) q ∙ ap (λ b. b || list_any (nat_eq q) ys) (with_place-any xs y q) ∙ or_assoc (list_any (nat_eq q) xs) (nat_eq q y) (list_any (nat_eq q) ys)

-- what was there stays in front
place_behind : (xs : List ℕ) (y : ℕ) → (added : List ℕ) × (with_place xs y ≡ xs ++ added)
place_behind xs y = either (list_any (nat_eq y) xs)
  where
    either : (b : Bool) → (added : List ℕ) × ((if b then xs else xs ++ y ∷ []) ≡ xs ++ added)
    either true = ([], sym (append-nil xs))
    either false = (y ∷ [], refl)

pub behind : (ys xs : List ℕ) → (added : List ℕ) × (with_places xs ys ≡ xs ++ added)
behind [] xs = ([], sym (append-nil xs))
behind (y ∷ ys) xs =
    let one = place_behind xs y in
    let others = behind ys (with_place xs y) in
    (one.0 ++ others.0, others.1 ∙ ap (λ front. front ++ others.0) one.1 ∙ append_assoc xs one.0 others.0)

-- ---- a search, as far as it has come: the places found, and how many of them were looked at
pub record Search (graph : List (List ℕ)) (start found : List ℕ) (done : ℕ) : Type 0 where
  pub within : done ≤ length found
  pub distinct : IsDistinct nat_eq found
  pub below : (q : ℕ) → Has found q → q < length graph
  pub first : (q : ℕ) → Has start q → Has found q
  pub closed : (p r : ℕ) → Has (take done found) p → Has (named_at graph p) r → Has found r
  pub sound : (q : ℕ) → Has found q → Has (reached graph (length found) start) q

pub few : (graph : List (List ℕ)) (start found : List ℕ) (done : ℕ) → Search graph start found done → length found ≤ length graph
few graph start found done s = length-le_from_distinct_below found (length graph) s.distinct s.below

added_either : (found named : List ℕ) (q : ℕ) → Has (with_places found named) q → Has found q ⊎ Has named q
added_either found named q h = or_true (list_any (nat_eq q) found) (list_any (nat_eq q) named) (sym (with_places-any named found q) ∙ h)

added_front : (found named : List ℕ) (q : ℕ) → Has found q → Has (with_places found named) q
added_front found named q h = with_places-any named found q ∙ or_left (list_any (nat_eq q) found) (list_any (nat_eq q) named) h

added_back : (found named : List ℕ) (q : ℕ) → Has named q → Has (with_places found named) q
added_back found named q h = with_places-any named found q ∙ or_right (list_any (nat_eq q) found) (list_any (nat_eq q) named) h

pub longer : (found named : List ℕ) → length found ≤ length (with_places found named)
longer found named = let b = behind named found in omega (arith, ap length b.1 ∙ length-append found b.0)

front_stays : (found named : List ℕ) (i : ℕ) → i ≤ length found → take i (with_places found named) ≡ take i found
front_stays found named i h = let b = behind named found in ap (take i) b.1 ∙ take-append-le i found b.0 h

new_longer : (found added : List ℕ) (q : ℕ) → Has (found ++ added) q → (Has found q → ⊥) → length found + 1 ≤ length (found ++ added)
new_longer found [] q h absent = absurd (absent (ap (list_any (nat_eq q)) (sym (append-nil found)) ∙ h))
new_longer found (x ∷ added) q h absent = omega (arith, length-append found (x ∷ added))

grows : (found named : List ℕ) (q : ℕ) → Has (with_places found named) q → (Has found q → ⊥) → length found + 1 ≤ length (with_places found named)
grows found named q h absent =
    let b = behind named found in
    let there : Has (found ++ b.0) q = ap (list_any (nat_eq q)) (sym b.1) ∙ h in
    let long : length found + 1 ≤ length (found ++ b.0) = new_longer found b.0 q there absent in
    omega (arith, ap length b.1)

has_at : (xs : List ℕ) (i : ℕ) → i < length xs → Has xs (get_or xs i 0)
has_at xs i h =
    let whole : xs ≡ take i xs ++ (get_or xs i 0 ∷ drop (suc i) xs) = sym (take-append-drop i xs) ∙ ap (λ rest. take i xs ++ rest) (drop-cons xs i 0 h) in
    ap (list_any (nat_eq (get_or xs i 0))) whole ∙ has_back (take i xs) (get_or xs i 0 ∷ drop (suc i) xs) (get_or xs i 0) (or_left (nat_eq (get_or xs i 0) (get_or xs i 0)) (list_any (nat_eq (get_or xs i 0)) (drop (suc i) xs)) (grind (arith, nat_tests)))

pub has_one : (p x : ℕ) → Has (x ∷ []) p → p ≡ x
has_one p x h = equal p x (sym (or_none (nat_eq p x)) ∙ h)

cases : (b : Bool) → (b ≡ true) ⊎ (b ≡ true → ⊥)
cases true = inl refl
cases false = inr (λ h. cc)

pub search_start : (graph : List (List ℕ)) (start : List ℕ) → IsDistinct nat_eq (with_places [] start) → ((q : ℕ) → Has start q → q < length graph) → Search graph start (with_places [] start) 0
search_start graph start distinct below = record {
  within = omega arith;
  distinct = distinct;
  below = (λ q h. below q (sym (with_places-any start [] q) ∙ h));
  first = (λ q h. with_places-any start [] q ∙ h);
  closed = (λ p r h n. cc);
  sound = (λ q h. reached_start graph (length (with_places [] start)) start q (sym (with_places-any start [] q) ∙ h));
}

pub search_step : (graph : List (List ℕ)) (start found : List ℕ) (done : ℕ) → IsGraph graph → Search graph start found done → done < length found
    → IsDistinct nat_eq (with_places found (named_at graph (get_or found done 0))) → Search graph start (with_places found (named_at graph (get_or found done 0))) (done + 1)
search_step graph start found done in_range s within distinct =
    let place : ℕ = get_or found done 0 in
    let named : List ℕ = named_at graph place in
    let all : List ℕ = with_places found named in
    let here : Has found place = has_at found done within in
    record {
      within = omega (arith, longer found named);
      distinct = distinct;
      below = (λ q h. ⊎_elim (s.below q) (in_range place q) (added_either found named q h));
      first = (λ q h. added_front found named q (s.first q h));
      closed = (λ p r h n. ⊎_elim
          (λ e. added_front found named r (s.closed p r e n))
          (λ e. added_back found named r (ap (λ i. list_any (nat_eq r) (named_at graph i)) (sym (has_one p place e)) ∙ n))
          (has_either (take done found) (place ∷ []) p (ap (list_any (nat_eq p)) (sym (front_stays found named (done + 1) (omega arith) ∙ take_more found done 0 within)) ∙ h)));
      sound = (λ q h. ⊎_elim
          (λ e. more graph start q (length found) (length all) (longer found named) (s.sound q e))
          (λ absent. more graph start q (suc (length found)) (length all) (omega (arith, grows found named q h absent)) (one_step graph (length found) start place q (s.sound place here)
          (⊎_elim (λ e. absurd (absent e)) (λ e. e) (added_either found named q h))))
          (cases (list_any (nat_eq q) found)));
    }

-- a search that looked at all places found what is reached
pub search_end : (graph : List (List ℕ)) (start found : List ℕ) (done : ℕ) → length found ≤ done → Search graph start found done → (q : ℕ) → list_any (nat_eq q) found ≡ list_any (nat_eq q) (reached_by graph start)
search_end graph start found done over s q =
    let whole : take done found ≡ found = take_all done found over in
    same (list_any (nat_eq q) found) (list_any (nat_eq q) (reached_by graph start))
    (λ h. more graph start q (length found) (length graph) (few graph start found done s) (s.sound q h))
    (λ h. reached_within graph (λ p. Has found p) (λ p r k n. s.closed p r (ap (list_any (nat_eq p)) whole ∙ k) n) (length graph) start s.first q h)

tied : (x y : ℕ) → is_eq (nat_cmp x y) ≡ nat_eq y x
tied x y = grind (arith, nat_tests)

either_or : (a b c d : Bool) → a ≡ b → c ≡ d → cond a true c ≡ (d || (b || false))
either_or true b true d e f = rw (← e, ← f) refl
either_or true b false d e f = rw (← e, ← f) refl
either_or false b true d e f = rw (← e, ← f) refl
either_or false b false d e f = rw (← e, ← f) refl

-- a set with one more place
pub seen-push : (old new : BTreeSet ℕ) (places : List ℕ) (place : ℕ) → IsSeen old places → list_any (nat_eq place) places ≡ false
    → ((q : ℕ) → contains nat_cmp new q ≡ cond (is_eq (nat_cmp place q)) true (contains nat_cmp old q)) → IsSeen new (places ++ place ∷ [])
seen-push old new places place s absent updates = (
  (λ q. updates q ∙ either_or (is_eq (nat_cmp place q)) (nat_eq q place) (contains nat_cmp old q) (list_any (nat_eq q) places) (tied place q) (s.0 q) ∙ sym (list_any-append (nat_eq q) places (place ∷ []))),
  IsDistinct-push nat_eq_equiv places place s.1 absent,
)

-- a set of nothing
pub seen-none : (seen : BTreeSet ℕ) (places : List ℕ) → seen.keys ≡ [] → places ≡ [] → IsSeen seen places
unfolding IsDistinct
seen-none seen places e f = subst (λ xs. IsSeen seen xs) (sym f) ((λ q. ap (list_any (λ k. is_eq (nat_cmp q k))) e), tt)

-- a search begins, and goes on
pub search_begins : (graph : List (List ℕ)) (start old found : List ℕ) → old ≡ [] → found ≡ with_places old start → IsDistinct nat_eq found → ((q : ℕ) → Has start q → q < length graph) → Search graph start found 0
search_begins graph start old found none made distinct below =
    let e : found ≡ with_places [] start = made ∙ ap (λ xs. with_places xs start) none in
    subst (λ xs. Search graph start xs 0) (sym e) (search_start graph start (subst (λ xs. IsDistinct nat_eq xs) e distinct) below)

pub search_goes_on : (graph : List (List ℕ)) (start found more_found : List ℕ) (done : ℕ) → IsGraph graph → Search graph start found done → done < length found
    → more_found ≡ with_places found (named_at graph (get_or found done 0)) → IsDistinct nat_eq more_found → Search graph start more_found (done + 1)
search_goes_on graph start found more_found done in_range s within made distinct =
    subst (λ xs. Search graph start xs (done + 1)) (sym made) (search_step graph start found done in_range s within (subst (λ xs. IsDistinct nat_eq xs) made distinct))
