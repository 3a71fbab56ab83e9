-- From stations of the passes of one start to the doors that they served.
use Rattle.std.proofs.Common.{◌≡◌, ℕ, zero, suc, ◌+◌, ◌<◌, ◌≤◌, ◌==◌, Bool, true, false, List, [], ◌∷◌, ◌++◌, length, map, Option, refl, sym, ap, ◌∙◌, subst, arith, slice_index_or}
use Rattle.std.proofs.lemmas.Bool.{eqb-true}
use Rattle.std.proofs.lemmas.List.{length-map}
use Rattle.dsv_outside.specs.DoorStates.{DoorState}
use Rattle.http_front.specs.declared.user.User.{User}
use Rattle.dav_machine.specs.Histories.{HistoryEntry, own, one_if}
use Rattle.dav_machine.specs.Origins.{Origin}
use Rattle.dav_serve.specs.declared.station.Station.{Station}
use Rattle.dav_serve.specs.SideBySide.{OfEachTwo}
use Rattle.dav_serve.specs.Stations.{told_by, turn_of, door_of, StationState}
use Rattle.dav_serve.specs.Visits.{Stationed}
use Rattle.hub_turn.specs.Cores.{CoreTold}
use Rattle.hub_turn.specs.Passes.{PassState, IsStart, passes_from, members_of, AreOf, OfOneStart, AreFew, EndsOver, Ended}
use Rattle.hub_turn.specs.Views.{Follow, AllBelow, AllOf, times}
use Rattle.davsvn_run.specs.ServedDoors.{ServedEach, ServedDoors, clock_of, limit_of}

-- ---- passes

pub length_passes : (n : ℕ) (origin : Origin) (k : ℕ) → length (passes_from n origin k) ≡ n
length_passes zero origin k = refl
length_passes (suc n) origin k = ap suc (length_passes n origin (k + 1))

one_start : (origin : Origin) (passes : List PassState) → AreOf origin passes → OfOneStart passes
one_start origin [] of = tt
one_start origin (p ∷ ps) of = subst (λ (o : Origin). AreOf o ps) (sym of.0) of.1

not_few : (origin : Origin) (passes : List PassState) → AreOf origin passes → length passes ≡ origin.passes → 1 ≤ length passes → AreFew passes → ⊥
not_few origin [] of all some few = absurd (omega arith)
not_few origin (p ∷ ps) of all some few =
    let less : length (p ∷ ps) < origin.passes = subst (λ (o : Origin). length (p ∷ ps) < o.passes) of.0 few in
    absurd (omega arith)

ends_over : {H : Type 0} (tells : H → CoreTold) (origin : Origin) (passes : List PassState) (after : H) → AreOf origin passes → Ended tells passes after → EndsOver tells origin passes after
ends_over tells origin [] after of ended = absurd ended
ends_over tells origin (p ∷ ps) after of ended = subst (λ (o : Origin). EndsOver tells o (p ∷ ps) after) of.0 ended

-- ---- stations of passes

module _ {D C : Type 0} (state : D → DoorState) (faults : D → ℕ) (readings : C → Option (List ℕ)) (users : List User) (origin : Origin) (limit : Option ℕ) where
  abbrev tells_of : Station PassState D C → StationState
  tells_of station = told_by (λ (p : PassState). p.opening) (λ (p : PassState). p.number) (λ (p : PassState). p.origin) (λ (p : PassState). p.front) state faults readings station

  abbrev Became : Station PassState D C → Station PassState D C → Type 0
  Became old new = Stationed users (tells_of old) (tells_of new)

  abbrev pass_at : ℕ → PassState
  pass_at k = record { opening = origin.opening; number = k; origin = origin; front = origin.history }

  none_left : (s : PassState) (ss : List PassState) → s ∷ ss ≡ [] → ⊥
  none_left s ss is = let e : suc (length ss) ≡ 0 = ap length is in absurd (omega arith)

  first_is : (n k : ℕ) (s : PassState) (ss : List PassState) → s ∷ ss ≡ pass_at k ∷ passes_from n origin (k + 1) → s ≡ pass_at k
  first_is n k s ss is = cc

  rest_is : (n k : ℕ) (s : PassState) (ss : List PassState) → s ∷ ss ≡ pass_at k ∷ passes_from n origin (k + 1) → ss ≡ passes_from n origin (k + 1)
  rest_is n k s ss is = cc

  are_of : (n k : ℕ) (stations later : List (Station PassState D C)) → map turn_of stations ≡ passes_from n origin k → OfEachTwo Became stations later → AreOf origin (map turn_of later)
  are_of n k [] [] is each = tt
  are_of n k [] (t ∷ ts) is each = absurd each
  are_of n k (s ∷ ss) [] is each = absurd each
  are_of zero k (s ∷ ss) (t ∷ ts) is each = absurd (none_left s.turn (map turn_of ss) is)
  are_of (suc n) k (s ∷ ss) (t ∷ ts) is each =
      (each.0.attended.origin ∙ ap (λ (p : PassState). p.origin) (first_is n k s.turn (map turn_of ss) is), are_of n (k + 1) ss ts (rest_is n k s.turn (map turn_of ss) is) each.1)

  length_later : (n k : ℕ) (stations later : List (Station PassState D C)) → map turn_of stations ≡ passes_from n origin k → OfEachTwo Became stations later → length (map turn_of later) ≡ n
  length_later zero k [] [] is each = refl
  length_later (suc n) k [] [] is each = absurd (none_left (pass_at k) (passes_from n origin (k + 1)) (sym is))
  length_later n k [] (t ∷ ts) is each = absurd each
  length_later n k (s ∷ ss) [] is each = absurd each
  length_later zero k (s ∷ ss) (t ∷ ts) is each = absurd (none_left s.turn (map turn_of ss) is)
  length_later (suc n) k (s ∷ ss) (t ∷ ts) is each = ap suc (length_later n (k + 1) ss ts (rest_is n k s.turn (map turn_of ss) is) each.1)

  numbers_below : (x n k : ℕ) (stations later : List (Station PassState D C)) → map turn_of stations ≡ passes_from n origin k → OfEachTwo Became stations later
      → 0 < times x (members_of (map turn_of later)) → x < k + n
  numbers_below x n k [] [] is each some = absurd (omega arith)
  numbers_below x n k [] (t ∷ ts) is each some = absurd each
  numbers_below x n k (s ∷ ss) [] is each some = absurd each
  numbers_below x zero k (s ∷ ss) (t ∷ ts) is each some = absurd (none_left s.turn (map turn_of ss) is)
  numbers_below x (suc n) k (s ∷ ss) (t ∷ ts) is each some =
      either (t.turn.number == x) (eqb-true t.turn.number x) (each.0.attended.pass ∙ ap (λ (p : PassState). p.number) (first_is n k s.turn (map turn_of ss) is))
      (numbers_below x n (k + 1) ss ts (rest_is n k s.turn (map turn_of ss) is) each.1) some where
        either : (here : Bool) → (here ≡ true → t.turn.number ≡ x) → t.turn.number ≡ k → (0 < times x (members_of (map turn_of ts)) → x < k + 1 + n)
            → 0 < one_if here + times x (members_of (map turn_of ts)) → x < k + suc n
        either true same number below some = let e : t.turn.number ≡ x = same refl in omega arith
        either false same number below some = let less : x < k + 1 + n = below (omega arith) in omega arith

  all_below : (n : ℕ) (stations later : List (Station PassState D C)) → map turn_of stations ≡ passes_from n origin 0 → OfEachTwo Became stations later
      → (rest : List HistoryEntry) → AllOf (members_of (map turn_of later)) rest → AllBelow n rest
  all_below n stations later is each [] authors = tt
  all_below n stations later is each (entry ∷ entries) authors = (
    let less : entry.event.pass < 0 + n = numbers_below entry.event.pass n 0 stations later is each authors.0 in omega arith,
    all_below n stations later is each entries authors.1,
  )

  served_each : (n k : ℕ) (stations later : List (Station PassState D C)) (history : List HistoryEntry)
      → map turn_of stations ≡ passes_from n origin k
      → ((i : ℕ) (d : Station PassState D C) → i < length stations → limit_of (slice_index_or stations i d) ≡ limit)
      → OfEachTwo Became stations later → Follow history (members_of (map turn_of later))
      → ServedEach state faults readings users origin limit history k (map door_of stations) (map clock_of stations) (map door_of later)
  served_each n k [] [] history is limits each follow = tt
  served_each n k [] (t ∷ ts) history is limits each follow = absurd each
  served_each n k (s ∷ ss) [] history is limits each follow = absurd each
  served_each zero k (s ∷ ss) (t ∷ ts) history is limits each follow = absurd (none_left s.turn (map turn_of ss) is)
  served_each (suc n) k (s ∷ ss) (t ∷ ts) history is limits each follow =
      let first : s.turn ≡ pass_at k = first_is n k s.turn (map turn_of ss) is in
      let limited : s.limit ≡ limit = limits 0 s (omega arith) in
      let number : t.turn.number ≡ k = each.0.attended.pass ∙ ap (λ (p : PassState). p.number) first in
      let at : PassState × Option ℕ → StationState = λ (z : PassState × Option ℕ). record {
        opening = z.0.opening;
        pass = z.0.number;
        origin = z.0.origin;
        standing = record { history = z.0.front; readings = readings s.clock };
        door = state s.door;
        faults = faults s.door;
        limit = z.1;
      } in
      let path : ◌≡◌ {A = PassState × Option ℕ} (s.turn, s.limit) (pass_at k, limit) = λ i. (first i, limited i) in (
        record {
          later = tells_of t;
          stationed = subst (λ (z : PassState × Option ℕ). Stationed users (at z) (tells_of t)) path each.0;
          door_is = refl;
          faults_are = refl;
          beginning = follow.0;
          owned = subst (λ (m : ℕ). own m history ≡ own m t.turn.front) number follow.1;
        },
        served_each n (k + 1) ss ts history (rest_is n k s.turn (map turn_of ss) is) (λ i d below. limits (suc i) d (omega arith)) each.1 follow.2,
      )

  -- the turns are of one start
  pub turns_one_start : (n : ℕ) (stations later : List (Station PassState D C)) (turns : List PassState)
      → map turn_of stations ≡ passes_from n origin 0 → OfEachTwo Became stations later → turns ≡ map turn_of later → OfOneStart turns
  turns_one_start n stations later turns is each back =
      subst OfOneStart (sym back) (one_start origin (map turn_of later) (are_of n 0 stations later is each))

  -- and are all that it gave
  pub turns_not_few : (n : ℕ) (stations later : List (Station PassState D C)) (turns : List PassState)
      → map turn_of stations ≡ passes_from n origin 0 → OfEachTwo Became stations later → turns ≡ map turn_of later
      → origin.passes ≡ n → 1 ≤ n → AreFew turns → ⊥
  turns_not_few n stations later turns is each back all some few =
      let size : length (map turn_of later) ≡ n = length_later n 0 stations later is each in
      not_few origin (map turn_of later) (are_of n 0 stations later is each) (size ∙ sym all) (omega arith) (subst AreFew back few)

  pub doors_served : {H : Type 0} (tells : H → CoreTold) (machine after : H) (n : ℕ) (stations later : List (Station PassState D C)) (turns : List PassState) (doors : List D) (clocks : List C) (others : List D)
      → IsStart tells machine n origin → map turn_of stations ≡ passes_from n origin 0
      → ((i : ℕ) (d : Station PassState D C) → i < length stations → limit_of (slice_index_or stations i d) ≡ limit)
      → map door_of stations ≡ doors → map clock_of stations ≡ clocks
      → OfEachTwo Became stations later → turns ≡ map turn_of later → others ≡ map door_of later
      → Ended tells turns after
      → ServedDoors tells state faults readings users limit n machine doors clocks others after
  doors_served tells machine after n stations later turns doors clocks others begins is limits same_doors same_clocks each turns_back doors_back ended =
      let ends = ends_over tells origin (map turn_of later) after (are_of n 0 stations later is each) (subst (λ (ts : List PassState). Ended tells ts after) turns_back ended) in
      let served = served_each n 0 stations later (tells after).history is limits each ends.follow in
      record {
        origin = origin;
        opened = begins.opening;
        begun = begins.history;
        each = subst (λ (os : List D). ServedEach state faults readings users origin limit (tells after).history 0 doors clocks os) (sym doors_back)
            (subst (λ (cs : List C). ServedEach state faults readings users origin limit (tells after).history 0 doors cs (map door_of later)) same_clocks
            (subst (λ (ds : List D). ServedEach state faults readings users origin limit (tells after).history 0 ds (map clock_of stations) (map door_of later)) same_doors served));
        opening = ends.opening ∙ begins.opening;
        first = λ i. record { faults = (ends.faults ∙ begins.faults) i; kept = (ends.first_kept ∙ begins.kept) i };
        added = (ends.rest, ends.begins ∙ ap (λ (h : List HistoryEntry). h ++ ends.rest) begins.history, all_below n stations later is each ends.rest ends.authors);
        holds = ends.holds;
      }

-- ---- stations that were put together

-- what was made of items that were put behind none
pub behind_none : {X Y : Type 0} (f : X → Y) (first all : List X) (made : List Y) → first ≡ [] → map f all ≡ map f first ++ made → map f all ≡ made
behind_none {X} {Y} f first all made none is = is ∙ ap (λ (l : List X). map f l ++ made) none

none_behind : {X : Type 0} (P : X → Type 0) (xs : List X) → xs ≡ [] → (i : ℕ) (d : X) → i < length xs → P (slice_index_or xs i d)
none_behind P xs none i d below = let size : length xs ≡ 0 = ap length none in absurd (omega arith)

pub limits_of_none : {T D C : Type 0} (limit : Option ℕ) (first : List (Station T D C)) → first ≡ [] → (i : ℕ) (d : Station T D C) → i < length first → limit_of (slice_index_or first i d) ≡ limit
limits_of_none {T} {D} {C} limit first none = none_behind (λ (s : Station T D C). limit_of s ≡ limit) first none

index_map : {X Y : Type 0} (f : X → Y) (xs : List X) (i : ℕ) (d : X) → slice_index_or (map f xs) i (f d) ≡ f (slice_index_or xs i d)
index_map f [] i d = refl
index_map f (x ∷ xs) zero d = refl
index_map f (x ∷ xs) (suc i) d = index_map f xs i d

-- no station's door has a connection out
pub none_out_of : {T D C : Type 0} (state : D → DoorState) (stations : List (Station T D C)) (doors : List D) → map door_of stations ≡ doors
    → ((i : ℕ) (d : D) → i < length doors → (state (slice_index_or doors i d)).out ≡ false)
    → (i : ℕ) (d : Station T D C) → i < length stations → (state (slice_index_or stations i d).door).out ≡ false
none_out_of {T} {D} {C} state stations doors same none i d below =
    let size : length doors ≡ length stations = sym (ap length same) ∙ length-map stations door_of in
    subst (λ (x : D). (state x).out ≡ false) (ap (λ (ds : List D). slice_index_or ds i (door_of d)) (sym same) ∙ index_map door_of stations i d)
    (none i (door_of d) (omega arith))
