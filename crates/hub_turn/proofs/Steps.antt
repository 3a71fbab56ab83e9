-- Each step keeps the rule.
use Rattle.std.proofs.Common.{◌≡◌, ◌≢◌, ℕ, zero, suc, ◌+◌, ◌%◌, ◌==◌, ◌≤◌, ◌<◌, List, [], ◌∷◌, ◌++◌, length, get_or, set, Option, Some, None, sym, refl, ap, ◌∙◌, subst, arith, ⊎_elim, length-append, append-nil, append_assoc}
use mathlib.Core.Logic.{dite}
use mathlib.Core.Option.{some, none, some-injective, some-ne-none}
use native.Mathlib.Decide.{ℕ_discrete}
use lib.ListN.{get_elem?}
use Rattle.atomic_table.specs.Table.{State, Me, Act, keeps, takes as takes_slot, gives, step, stepped, Valid, homes_after, carried_after, Allows, Splits, Joins}
use Rattle.atomic_table.proofs.Lists.{at_snoc, set_again, set_else, one_turn}
use Rattle.dav_machine.specs.Histories.{one_if, HistoryEntry}
use Rattle.hub_turn.specs.Cores.{CoreTold}
use Rattle.hub_turn.specs.Views.{Start, Member, Stage, Founding, Idle, Queued, Served, SeatView, with_stage, ticket_of, at_front, times, has_ticket, has_any, is_served, total, below, Follow}
use Rattle.hub_turn.specs.Rule.{Stands, Homes, IsServing, Knows, Begun, Ruled}
use Rattle.hub_turn.specs.Plays.{HasAll, opened, took, Looked, looked, at_history, counted, passed, IsOfFirst, Grows, first_alone, rest_of, all_but_first, first_only, joined_view, spent}
use Rattle.hub_turn.proofs.Totals.{total-set, total-snoc, term_le, two_le, total_le, total_lt, alone_le, each_set}
use Rattle.hub_turn.proofs.Counts.{same_yes, below_le, below_zero, below_one, below_yes, below_more, has_queued, has_served, served_has, not_serving, times-append, times_le, first_times}
use Rattle.hub_turn.proofs.Fronts.{follow_more, follow-append, all_below-push}

abbrev M : ℕ
M = 18446744073709551616

module _ {H : Type 0} (tells : H → CoreTold) (about : Start) where
  abbrev S : Type 0
  S = Option H

  abbrev St : Type 0
  St = State S SeatView

  abbrev Rule : St → Type 0
  Rule = Ruled tells about

  abbrev Home : List HistoryEntry → List (mathlib.Core.Option.Option S) → Type 0
  Home one homes = (hub : H) × (homes ≡ some (Some hub) ∷ []) × Stands tells about one hub

  -- a step after which a view has as many members as before, each with its number
  changed : (s : St) (r : Rule s) (id : ℕ) (v w : SeatView) (ws : List ℕ) (hs : List (mathlib.Core.Option.Option S)) (one : List HistoryEntry) (taken served : ℕ)
      → get_elem? s.views id ≡ some v
      → ws ≡ taken % M ∷ served % M ∷ length one ∷ []
      → ((k : ℕ) → times k w.members ≡ times k v.members) → length w.members ≡ length v.members
      → Knows about hs one served w → ((j : ℕ) (u : SeatView) → j ≢ id → get_elem? s.views j ≡ some u → Knows about hs one served u)
      → Begun about one
      → ((t : ℕ) → has_ticket t w.stage + below t served + below t r.taken ≡ has_ticket t v.stage + below t r.served + below t taken)
      → served + r.taken + has_any w.stage ≡ r.served + taken + has_any v.stage
      → (total (λ u. is_served u.stage) (set s.views id w) ≡ 0 → Home one hs)
      → Rule record { words = ws; homes = hs; views = set s.views id w }
  changed s r id v w ws hs one taken served at words numbers long mine others begun tickets waiting home = record {
    one = one;
    taken = taken;
    served = served;
    words = words;
    each = each_set (Knows about hs one served) s.views id w mine others;
    begun = begun;
    numbers = λ k. omega (arith, total-set (λ u. times k u.members) s.views id v w at, numbers k, r.numbers k);
    counted = omega (arith, total-set (λ u. length u.members) s.views id v w at, long, r.counted);
    few = r.few;
    tickets = λ t. omega (arith, total-set (λ u. has_ticket t u.stage) s.views id v w at, tickets t, r.tickets t);
    waiting = omega (arith, total-set (λ u. has_any u.stage) s.views id v w at, waiting, r.waiting);
    home = home;
  }

  -- a load of the word i changes no word
  loaded : (s : St) (r : Rule s) (i : ℕ) → set s.words i (get_or s.words i 0) ≡ s.words
  loaded s r i = lib.Seq.set-get_or s.words i 0

  -- nothing changes
  unchanged : (s : St) (r : Rule s) (i id : ℕ) (me : Me S SeatView) → get_elem? s.views id ≡ some me.0 → Rule (stepped s i (get_or s.words i 0) id me.1 me.0 keeps)
  unchanged s r i id me at = subst (λ (z : List ℕ × List SeatView). Rule record { words = z.0; homes = s.homes; views = z.1 })
      (λ i'. (sym (loaded s r i) i', sym (set_again s.views id me.0 at) i')) r

  set_again_here : (vs : List SeatView) (i : ℕ) (v w : SeatView) → get_elem? vs i ≡ some v → get_elem? (set vs i w) i ≡ some w
  set_again_here [] i v w e = absurd (some-ne-none v (sym e))
  set_again_here (x ∷ xs) zero v w e = refl
  set_again_here (x ∷ xs) (suc i) v w e = set_again_here xs i v w e

  -- beside a view that has found its ticket served, no other has
  others_wait : (s : St) (r : Rule s) (id : ℕ) (v : SeatView) → get_elem? s.views id ≡ some v → has_ticket r.served v.stage ≡ 1
      → (j : ℕ) (u : SeatView) → j ≢ id → get_elem? s.views j ≡ some u → is_served u.stage ≡ 0
  others_wait s r id v at has j u ne e =
      let two = two_le (λ (x : SeatView). has_ticket r.served x.stage) s.views j id u v ne e at in
      let sum = r.tickets r.served in
      let few = below_le r.served r.taken in
      let le = served_has about s.homes r.one r.served u.stage (r.each j u e).serving in
      omega arith

  -- ---- the first view takes the empty slot
  pub opens_up : (slots id : ℕ) (me : Me S SeatView) → me.0.stage ≡ Founding → 0 < length me.0.members → me.1 ≡ [] → Allows Rule slots id me 1 (λ n. n) (opened (step slots 1 0 0 none) me)
  opens_up slots id me founding some_members empty s r _ at _ =
      let v = me.0 in
      let k = r.each id v at in
      let w = with_stage v (Served 0 v.about.history) in
      let sv : IsServing about s.homes r.one r.served Founding = subst (IsServing about s.homes r.one r.served) founding k.serving in
      let has : has_ticket r.served v.stage ≡ 1 = ap (has_ticket r.served) founding ∙ same_yes 0 r.served sv.0 in
      let wait = others_wait s r id v at has in
      let any : has_any v.stage ≡ 1 = ap has_any founding in (
        w,
        takes_slot 0 None,
        ap (λ (hs : List (mathlib.Core.Option.Option S)). get_elem? hs 0) sv.1,
        changed s r id v w (set s.words 1 (get_or s.words 1 0)) (set s.homes 0 none) r.one r.taken r.served at
            (loaded s r 1 ∙ r.words)
            (λ n. refl) refl
            (record { of = k.of; follow = k.follow; serving = (sv.0, ap (λ (a : Start). a.history) (k.of some_members) ∙ sym sv.2); some = omega arith })
            (λ j u ne e. let ku = r.each j u e in record { of = ku.of; follow = ku.follow; serving = not_serving about (set s.homes 0 none) r.one r.served u.stage (wait j u ne e); some = ku.some })
            r.begun
            (λ n. let h : has_ticket n v.stage ≡ one_if (0 == n) = ap (has_ticket n) founding in omega arith)
            (omega arith)
            (λ z. absurd (let le = term_le (λ (u : SeatView). is_served u.stage) (set s.views id w) id w (set_again_here s.views id v w at) in omega arith)),
        ap (λ (l : List (ℕ × S)). (w, (0, None) ∷ l)) empty,
      )

  -- ---- take a ticket
  pub takes : (slots id : ℕ) (me : Me S SeatView) → me.0.stage ≡ Idle → 0 < length me.0.members → Allows Rule slots id me 0 (λ n. (n + 1) % M) (took (step slots 0 1 0 none) me)
  takes slots id me idle some_members s r _ at _ =
      let v = me.0 in
      let w = with_stage v (Queued r.taken) in
      let k = r.each id v at in
      let no_ticket : (t : ℕ) → has_ticket t v.stage ≡ 0 = λ t. ap (has_ticket t) idle in
      let none_any : has_any v.stage ≡ 0 = ap has_any idle in
      let none_served : is_served v.stage ≡ 0 = ap is_served idle in (
        w,
        keeps,
        tt,
        changed s r id v w (set s.words 0 ((get_or s.words 0 0 + 1) % M)) s.homes r.one (r.taken + 1) r.served at
            (ap (λ (ws : List ℕ). set ws 0 ((get_or ws 0 0 + 1) % M)) r.words ∙ ap (λ (n : ℕ). n ∷ r.served % M ∷ length r.one ∷ []) (omega arith))
            (λ k. refl) refl
            (record { of = k.of; follow = k.follow; serving = tt; some = omega arith })
            (λ j u _ e. r.each j u e)
            r.begun
            (λ t. omega (arith, no_ticket t, below_more t r.taken))
            (omega arith)
            (λ z. r.home (omega (arith, total-set (λ (u : SeatView). is_served u.stage) s.views id v w at))),
        (r.taken, ap (λ (ws : List ℕ). get_or ws 0 0) r.words, refl),
      )

  -- ---- look whether the ticket is served

  -- a view's ticket is one of those that are out
  out : (s : St) (r : Rule s) (id : ℕ) (v : SeatView) (t : ℕ) → get_elem? s.views id ≡ some v → has_ticket t v.stage ≡ 1 → (r.served ≤ t) × (t < r.taken)
  out s r id v t at has =
      let le = term_le (λ (u : SeatView). has_ticket t u.stage) s.views id v at in
      let sum = r.tickets t in
      let few = below_le t r.taken in
      (below_zero t r.served (omega arith), below_one t r.taken (omega arith))

  -- no more tickets are out than there are members
  near : (s : St) (r : Rule s) → r.taken ≤ r.served + 64
  near s r =
      let le = total_le (λ (u : SeatView). has_any u.stage) (λ (u : SeatView). length u.members) s.views (λ i u e. (r.each i u e).some) in
      let sum = r.waiting in
      let all = r.counted in
      let few = r.few in
      omega arith

  -- where a view's ticket is served and it hasn't found it so, no view has
  none_served : (s : St) (r : Rule s) (id : ℕ) (v : SeatView) → get_elem? s.views id ≡ some v → has_ticket r.served v.stage ≡ 1 → is_served v.stage ≡ 0 → total (λ u. is_served u.stage) s.views ≡ 0
  none_served s r id v at has waits =
      let lt = total_lt (λ (u : SeatView). is_served u.stage) (λ (u : SeatView). has_ticket r.served u.stage) s.views id v
      (λ j u e. served_has about s.homes r.one r.served u.stage (r.each j u e).serving) at (omega arith) in
      let sum = r.tickets r.served in
      let few = below_le r.served r.taken in
      omega arith

  -- a view with all members is the only one that holds a ticket
  only : (s : St) (r : Rule s) (id : ℕ) (v : SeatView) (t : ℕ) → get_elem? s.views id ≡ some v → v.stage ≡ Queued t → about.passes ≤ length v.members → t ≡ r.served
  only s r id v t at queued all =
      let o = out s r id v t at (has_queued t v.stage queued) in
      let o₀ = o.0 in
      let o₁ = o.1 in
      let any : has_any v.stage ≡ 1 = ap has_any queued in
      let le = alone_le (λ (u : SeatView). has_any u.stage) (λ (u : SeatView). length u.members) s.views id v (λ i u e. (r.each i u e).some) at in
      let sum = r.waiting in
      let c = r.counted in
      omega arith

  -- each number below the count of passes is a member's of a view with all members
  members_all : (s : St) (r : Rule s) (id : ℕ) (v : SeatView) → get_elem? s.views id ≡ some v → about.passes ≤ length v.members → (k : ℕ) → k < about.passes → 0 < times k v.members
  members_all s r id v at all k h =
      let le = alone_le (λ (u : SeatView). times k u.members) (λ (u : SeatView). length u.members) s.views id v (λ i u e. times_le k u.members) at in
      let sum = r.numbers k in
      let one = below_yes k about.passes h in
      let c = r.counted in
      omega arith

  same_word : (a b : ℕ) → a ≤ b → b ≤ a + 64 → a % M ≡ b % M → a ≡ b
  same_word a b le near e = one_turn a b M le (omega arith) e

  pub looks : (slots id : ℕ) (me : Me S SeatView) (t : ℕ) → me.0.stage ≡ Queued t → 0 < length me.0.members → me.1 ≡ [] → Allows Rule slots id me 1 (λ n. n) (looked tells (step slots 1 0 0 none) me)
  looks slots id me t queued some_members empty s r _ at _ =
      let v = me.0 in
      let k = r.each id v at in
      let word : get_or s.words 1 0 ≡ r.served % M = ap (λ (ws : List ℕ). get_or ws 1 0) r.words in
      let o = out s r id v t at (has_queued t v.stage queued) in
      let o₀ = o.0 in
      let o₁ = o.1 in
      let few = near s r in
      let alone : HasAll v → get_or s.words 1 0 ≡ t % M = λ whole. word ∙ ap (λ (n : ℕ). n % M) (sym (only s r id v t at queued (subst (λ (a : Start). a.passes ≤ length v.members) (k.of some_members) whole))) in
      let Goal = λ (ticket : ℕ). (w : SeatView) × (a : Act S) × Valid s.homes me.1 a × Rule (stepped s 1 (get_or s.words 1 0) id me.1 w a) × Looked tells me (get_or s.words 1 0) ticket (w, carried_after me.1 a) in
      subst Goal (sym (ap ticket_of queued)) (dite (ℕ_discrete (get_or s.words 1 0) (t % M))
      (λ found.
      let is : t ≡ r.served = sym (same_word r.served t o₀ (omega arith) (sym word ∙ found)) in
      let has : has_ticket r.served v.stage ≡ 1 = ap (λ (n : ℕ). has_ticket n v.stage) (sym is) ∙ has_queued t v.stage queued in
      let waits : is_served v.stage ≡ 0 = ap is_served queued in
      let none_yet = none_served s r id v at has waits in
      let home = r.home none_yet in
      let w = with_stage v (Served t r.one) in
      let any : has_any v.stage ≡ 1 = ap has_any queued in
      let ab = k.of some_members in (
        w,
        takes_slot 0 (Some home.0),
        ap (λ (hs : List (mathlib.Core.Option.Option S)). get_elem? hs 0) home.1,
        changed s r id v w (set s.words 1 (get_or s.words 1 0)) (set s.homes 0 none) r.one r.taken r.served at
            (loaded s r 1 ∙ r.words)
            (λ n. refl) refl
            (record { of = k.of; follow = k.follow; serving = (is, refl); some = omega arith })
            (λ j u _ e. let ku = r.each j u e in record {
              of = ku.of;
              follow = ku.follow;
              serving = not_serving about (set s.homes 0 none) r.one r.served u.stage (let le = term_le (λ (x : SeatView). is_served x.stage) s.views j u e in omega arith);
              some = ku.some;
            })
            r.begun
            (λ n. let h : has_ticket n v.stage ≡ has_ticket n (Queued t) = ap (has_ticket n) queued in omega arith)
            (omega arith)
            (λ z. absurd (let le = term_le (λ (u : SeatView). is_served u.stage) (set s.views id w) id w (set_again_here s.views id v w at) in omega arith)),
        record {
          found = λ _. record {
            one = r.one;
            hub = home.0;
            now = ap (λ (l : List (ℕ × S)). (w, (0, Some home.0) ∷ l)) empty;
            stands = subst (λ (a : Start). Stands tells a r.one home.0) (sym ab) home.2;
            follow = k.follow;
            begun = subst (λ (a : Start). Begun a r.one) (sym ab) r.begun;
            whole = λ all n h. members_all s r id v at (subst (λ (a : Start). a.passes ≤ length v.members) ab all) n (subst (λ (a : Start). n < a.passes) ab h);
          };
          not_found = λ no. absurd (no found);
          alone = alone;
        },
      ))
      (λ other. (
        v,
        keeps,
        tt,
        unchanged s r 1 id me at,
        record {
          found = λ found. absurd (other found);
          not_found = λ _. refl;
          alone = alone;
        },
      )))

  -- ---- count the entry

  hub_in : H → List (ℕ × S) → H
  hub_in h [] = h
  hub_in h (x ∷ xs) = elim x.1 as (λ _. H) [ None ↦ h | Some y ↦ y ]

  same_hub : (h i : H) → ◌≡◌ {A = List (ℕ × S)} ((0, Some h) ∷ []) ((0, Some i) ∷ []) → h ≡ i
  unfolding hub_in
  same_hub h i e = ap (hub_in h) e

  -- beside a view with this member, no other has it
  others_differ : (s : St) (r : Rule s) (id : ℕ) (v : SeatView) (k : ℕ) → get_elem? s.views id ≡ some v → 0 < times k v.members
      → (j : ℕ) (u : SeatView) → j ≢ id → get_elem? s.views j ≡ some u → times k u.members ≡ 0
  others_differ s r id v k at has j u ne e =
      let two = two_le (λ (x : SeatView). times k x.members) s.views j id u v ne e at in
      let sum = r.numbers k in
      let few = below_le k about.passes in
      omega arith

  -- a member's number is below the count of passes
  member_below : (s : St) (r : Rule s) (id : ℕ) (v : SeatView) (k : ℕ) → get_elem? s.views id ≡ some v → 0 < times k v.members → k < about.passes
  member_below s r id v k at has =
      let le = term_le (λ (x : SeatView). times k x.members) s.views id v at in
      let sum = r.numbers k in
      below_one k about.passes (omega arith)

  is_serving : (homes : Homes H) (one : List HistoryEntry) (served t : ℕ) (seen : List HistoryEntry) (stage : Stage) → stage ≡ Served t seen → IsServing about homes one served stage → (t ≡ served) × (seen ≡ one)
  is_serving homes one served t seen stage is k = subst (IsServing about homes one served) is k

  at_front_times : (history : List HistoryEntry) (x : Member) (members : List Member) → members ≡ x ∷ [] → (k : ℕ) → times k (at_front history members) ≡ times k members
  at_front_times history x members is k = subst (λ (ms : List Member). times k (at_front history ms) ≡ times k ms) (sym is) refl

  at_front_length : (history : List HistoryEntry) (x : Member) (members : List Member) → members ≡ x ∷ [] → length (at_front history members) ≡ length members
  at_front_length history x members is = subst (λ (ms : List Member). length (at_front history ms) ≡ length ms) (sym is) refl

  at_front_follow : (history : List HistoryEntry) (members : List Member) → Follow history (at_front history members)
  at_front_follow history [] = tt
  at_front_follow history (x ∷ xs) = (([], sym (append-nil history)), refl, tt)

  counts_to : (s : St) (r : Rule s) (id : ℕ) (me : Me S SeatView) (t : ℕ) (one : List HistoryEntry) (x : Member) (hub : H) (more : ℕ)
      → get_elem? s.views id ≡ some me.0 → me.0.stage ≡ Served t one → me.0.members ≡ x ∷ [] → me.1 ≡ (0, Some hub) ∷ []
      → Grows me.0.members one more (tells hub).history → length (tells hub).history < M
      → Begun about (tells hub).history → ((j : ℕ) (u : SeatView) → j ≢ id → get_elem? s.views j ≡ some u → Knows about s.homes (tells hub).history r.served u)
      → Rule (stepped s 2 ((get_or s.words 2 0 + more) % M) id me.1 (at_history me.0 (tells hub).history) keeps)
  counts_to s r id me t one x hub more at serving single in_hand grows room begun others =
      let v = me.0 in
      let k = r.each id v at in
      let sv = is_serving s.homes r.one r.served t one v.stage serving k.serving in
      let w = at_history v (tells hub).history in
      let ticket : ticket_of v.stage ≡ t = ap ticket_of serving in
      let any : has_any v.stage ≡ 1 = ap has_any serving in
      let len : length (tells hub).history ≡ length r.one + more = ⊎_elim
      (λ (g : (more ≡ 0) × ((tells hub).history ≡ one)). let a = g.0 in let b = ap length (g.1 ∙ sv.1) in omega arith)
      (λ (g : (more ≡ 1) × ((entry : HistoryEntry) × ((tells hub).history ≡ one ++ entry ∷ []) × IsOfFirst entry.event.pass v.members)). let a = g.0 in
      let b : length (tells hub).history ≡ length one + 1 = ap length g.1.1 ∙ length-append one (g.1.0 ∷ []) in
      let c : length one ≡ length r.one = ap length sv.1 in omega arith) grows in
      changed s r id v w (set s.words 2 ((get_or s.words 2 0 + more) % M)) s.homes (tells hub).history r.taken r.served at
      (ap (λ (ws : List ℕ). set ws 2 ((get_or ws 2 0 + more) % M)) r.words ∙ ap (λ (n : ℕ). r.taken % M ∷ r.served % M ∷ n ∷ []) (omega arith))
      (at_front_times (tells hub).history x v.members single) (at_front_length (tells hub).history x v.members single)
      (record {
        of = λ h. k.of (subst (λ (n : ℕ). 0 < n) (at_front_length (tells hub).history x v.members single) h);
        follow = at_front_follow (tells hub).history v.members;
        serving = (ticket ∙ sv.0, refl);
        some = let l = at_front_length (tells hub).history x v.members single in let l₁ : length v.members ≡ 1 = ap length single in omega arith;
      })
      others
      begun
      (λ n. let h : has_ticket n v.stage ≡ has_ticket n w.stage = ap (has_ticket n) serving ∙ ap (λ (z : ℕ). one_if (z == n)) (sym ticket) in omega arith)
      (omega arith)
      (λ z. absurd (let le = term_le (λ (u : SeatView). is_served u.stage) (set s.views id w) id w (set_again_here s.views id v w at) in omega arith))

  pub counts : (slots id : ℕ) (me : Me S SeatView) (t : ℕ) (one : List HistoryEntry) (x : Member) (hub : H) (more : ℕ)
      → me.0.stage ≡ Served t one → me.0.members ≡ x ∷ [] → me.1 ≡ (0, Some hub) ∷ [] → Grows me.0.members one more (tells hub).history → length (tells hub).history < M
      → Allows Rule slots id me 2 (λ n. (n + more) % M) (counted tells (step slots 2 more 0 none) me)
  counts slots id me t one x hub more serving single in_hand grows room s r _ at _ =
      let v = me.0 in
      let k = r.each id v at in
      let sv = is_serving s.homes r.one r.served t one v.stage serving k.serving in
      let has : has_ticket r.served v.stage ≡ 1 = ap (λ (n : ℕ). has_ticket n v.stage) (sym sv.0) ∙ has_served t one v.stage serving in
      let wait = others_wait s r id v at has in
      let hub_of : (h : H) → me.1 ≡ (0, Some h) ∷ [] → hub ≡ h = λ h e. same_hub hub h (sym in_hand ∙ e) in (
        at_history v (tells hub).history,
        keeps,
        tt,
        ⊎_elim
            (λ (g : (more ≡ 0) × ((tells hub).history ≡ one)).
            let same : (tells hub).history ≡ r.one = g.1 ∙ sv.1 in
            counts_to s r id me t one x hub more at serving single in_hand grows room
            (subst (Begun about) (sym same) r.begun)
            (λ j u _ e. subst (λ (h : List HistoryEntry). Knows about s.homes h r.served u) (sym same) (r.each j u e)))
            (λ (g : (more ≡ 1) × ((entry : HistoryEntry) × ((tells hub).history ≡ one ++ entry ∷ []) × IsOfFirst entry.event.pass v.members)).
            let e₀ = g.1.0 in
            let same : (tells hub).history ≡ r.one ++ e₀ ∷ [] = g.1.1 ∙ ap (λ (h : List HistoryEntry). h ++ e₀ ∷ []) sv.1 in
            let mine = first_times e₀.event.pass v.members g.1.2 in
            counts_to s r id me t one x hub more at serving single in_hand grows room
            (record {
              rest = r.begun.rest ++ e₀ ∷ [];
              begins = same ∙ ap (λ (h : List HistoryEntry). h ++ e₀ ∷ []) r.begun.begins ∙ append_assoc about.history r.begun.rest (e₀ ∷ []);
              authors = all_below-push about.passes r.begun.rest e₀ r.begun.authors (member_below s r id v e₀.event.pass at mine);
            })
            (λ j u ne e. let ku = r.each j u e in record {
              of = ku.of;
              follow = subst (λ (h : List HistoryEntry). Follow h u.members) (sym same) (follow_more r.one e₀ u.members (others_differ s r id v e₀.event.pass at mine j u ne e) ku.follow);
              serving = not_serving about s.homes (tells hub).history r.served u.stage (wait j u ne e);
              some = ku.some;
            })) grows,
        λ h e. ap (λ (z : H). (at_history v (tells z).history, me.1)) (hub_of h e),
      )

  -- ---- give the hub, and pass on

  one_home : (hs : List (mathlib.Core.Option.Option S)) (x : mathlib.Core.Option.Option S) → length hs ≡ 1 → set hs 0 x ≡ x ∷ []
  one_home [] x e = absurd (omega arith)
  one_home (h ∷ []) x e = refl
  one_home (h ∷ i ∷ hs) x e = absurd (omega arith)

  pub passes_on : (slots id : ℕ) (me : Me S SeatView) (t : ℕ) (one : List HistoryEntry) (hub : H)
      → me.0.stage ≡ Served t one → 0 < length me.0.members → me.1 ≡ (0, Some hub) ∷ [] → Stands tells me.0.about one hub → slots ≡ 1
      → Allows Rule slots id me 1 (λ n. (n + 1) % M) (passed (step slots 1 1 0 none) me)
  passes_on slots id me t one hub serving some_members in_hand stands one_slot s r wide at _ =
      let v = me.0 in
      let k = r.each id v at in
      let sv = is_serving s.homes r.one r.served t one v.stage serving k.serving in
      let has : has_ticket r.served v.stage ≡ 1 = ap (λ (n : ℕ). has_ticket n v.stage) (sym sv.0) ∙ has_served t one v.stage serving in
      let wait = others_wait s r id v at has in
      let w = with_stage v Idle in
      let any : has_any v.stage ≡ 1 = ap has_any serving in (
        w,
        gives,
        tt,
        changed s r id v w (set s.words 1 ((get_or s.words 1 0 + 1) % M)) (homes_after s.homes me.1 gives) r.one r.taken (r.served + 1) at
            (ap (λ (ws : List ℕ). set ws 1 ((get_or ws 1 0 + 1) % M)) r.words ∙ ap (λ (n : ℕ). r.taken % M ∷ n ∷ length r.one ∷ []) (omega arith))
            (λ n. refl) refl
            (record { of = k.of; follow = k.follow; serving = tt; some = omega arith })
            (λ j u ne e. let ku = r.each j u e in record { of = ku.of; follow = ku.follow; serving = not_serving about (homes_after s.homes me.1 gives) r.one (r.served + 1) u.stage (wait j u ne e); some = ku.some })
            r.begun
            (λ n. let h : has_ticket n v.stage ≡ one_if (r.served == n) = ap (has_ticket n) serving ∙ ap (λ (z : ℕ). one_if (z == n)) sv.0 in omega (arith, below_more n r.served))
            (omega arith)
            (λ _. (
              hub,
              ap (λ (c : List (ℕ × S)). homes_after s.homes c gives) in_hand ∙ one_home s.homes (some (Some hub)) (wide ∙ one_slot),
              subst (λ (z : Start × List HistoryEntry). Stands tells z.0 z.1 hub) (λ i. (k.of some_members i, sv.1 i)) stands,
            )),
        ap (λ (c : List (ℕ × S)). (w, carried_after c gives)) in_hand,
      )

  -- ---- split and join

  two_members : (members : List Member) → 1 < length members → (x : Member) × (y : Member) × (ys : List Member) × (members ≡ x ∷ y ∷ ys)
  two_members [] h = absurd (omega arith)
  two_members (x ∷ []) h = absurd (omega arith)
  two_members (x ∷ y ∷ ys) h = (x, y, ys, refl)

  split_times : (members : List Member) (k : ℕ) → times k (rest_of members) + times k (first_alone members) ≡ times k members
  split_times [] k = refl
  split_times (x ∷ xs) k = omega arith

  split_length : (members : List Member) → length (rest_of members) + length (first_alone members) ≡ length members
  split_length [] = refl
  split_length (x ∷ xs) = omega arith

  split_follow : (one : List HistoryEntry) (members : List Member) → Follow one members → Follow one (rest_of members) × Follow one (first_alone members)
  split_follow one [] f = (tt, tt)
  split_follow one (x ∷ xs) f = (f.2, (f.0, f.1, tt))

  pub splits : (id : ℕ) (v : SeatView) → v.stage ≡ Idle → 0 < length v.members → Splits Rule id v (all_but_first v) (first_only v)
  splits id v idle some_members s r at =
      let k = r.each id v at in
      let left = all_but_first v in
      let right = first_only v in
      let f = split_follow r.one v.members k.follow in
      let P = Knows about s.homes r.one r.served in
      let no_ticket : (t : ℕ) → has_ticket t v.stage ≡ 0 = λ t. ap (has_ticket t) idle in
      let none_any : has_any v.stage ≡ 0 = ap has_any idle in
      let none_served : is_served v.stage ≡ 0 = ap is_served idle in
      record {
        one = r.one;
        taken = r.taken;
        served = r.served;
        words = r.words;
        each = λ j u e. ⊎_elim
            (each_set P s.views id left (record { of = λ h. k.of some_members; follow = f.0; serving = k.serving; some = omega arith }) (λ i x _ d. r.each i x d) j u)
            (λ (t : right ≡ u). subst P t (record { of = λ h. k.of some_members; follow = f.1; serving = tt; some = omega arith }))
            (at_snoc (set s.views id left) right u j e);
        begun = r.begun;
        numbers = λ n. omega (arith, total-snoc (λ (u : SeatView). times n u.members) (set s.views id left) right, total-set (λ (u : SeatView). times n u.members) s.views id v left at, r.numbers n, split_times v.members n);
        counted = omega (arith, total-snoc (λ (u : SeatView). length u.members) (set s.views id left) right, total-set (λ (u : SeatView). length u.members) s.views id v left at, r.counted, split_length v.members);
        few = r.few;
        tickets = λ t. omega (arith, total-snoc (λ (u : SeatView). has_ticket t u.stage) (set s.views id left) right, total-set (λ (u : SeatView). has_ticket t u.stage) s.views id v left at, r.tickets t);
        waiting = omega (arith, total-snoc (λ (u : SeatView). has_any u.stage) (set s.views id left) right, total-set (λ (u : SeatView). has_any u.stage) s.views id v left at, r.waiting);
        home = λ z. r.home (omega (arith, total-snoc (λ (u : SeatView). is_served u.stage) (set s.views id left) right, total-set (λ (u : SeatView). is_served u.stage) s.views id v left at));
      }

  pub joins : (id : ℕ) (v : SeatView) (other : ℕ) (w : SeatView) → v.stage ≡ Idle → w.stage ≡ Idle → 0 < length v.members → Joins Rule id v other w (joined_view v w) spent
  joins id v other w idle idle' some_members s r at apart there' =
      let k = r.each id v at in
      let both = joined_view v w in
      let there : get_elem? s.views other ≡ some w = sym (set_else s.views id other both apart) ∙ there' in
      let k' = r.each other w there in
      let vs = set s.views id both in
      let P = Knows about s.homes r.one r.served in
      let no_ticket : (t : ℕ) → has_ticket t v.stage ≡ 0 = λ t. ap (has_ticket t) idle in
      let none_any : has_any v.stage ≡ 0 = ap has_any idle in
      let none_served : is_served v.stage ≡ 0 = ap is_served idle in
      let no_ticket' : (t : ℕ) → has_ticket t w.stage ≡ 0 = λ t. ap (has_ticket t) idle' in
      let none_any' : has_any w.stage ≡ 0 = ap has_any idle' in
      let none_served' : is_served w.stage ≡ 0 = ap is_served idle' in
      record {
        one = r.one;
        taken = r.taken;
        served = r.served;
        words = r.words;
        each = each_set P vs other spent (record { of = λ h. absurd (omega arith); follow = tt; serving = tt; some = omega arith })
            (λ j u _ e. each_set P s.views id both
            (record { of = λ h. k.of some_members; follow = follow-append r.one w.members v.members k'.follow k.follow; serving = k.serving; some = omega arith })
            (λ i x _ d. r.each i x d) j u e);
        begun = r.begun;
        numbers = λ n. omega (arith, total-set (λ (u : SeatView). times n u.members) vs other w spent there', total-set (λ (u : SeatView). times n u.members) s.views id v both at, r.numbers n, times-append n w.members v.members);
        counted = omega (arith, total-set (λ (u : SeatView). length u.members) vs other w spent there', total-set (λ (u : SeatView). length u.members) s.views id v both at, r.counted, length-append w.members v.members);
        few = r.few;
        tickets = λ t. omega (arith, no_ticket t, no_ticket' t, total-set (λ (u : SeatView). has_ticket t u.stage) vs other w spent there', total-set (λ (u : SeatView). has_ticket t u.stage) s.views id v both at, r.tickets t);
        waiting = omega (arith, total-set (λ (u : SeatView). has_any u.stage) vs other w spent there', total-set (λ (u : SeatView). has_any u.stage) s.views id v both at, r.waiting);
        home = λ z. r.home (omega (arith, total-set (λ (u : SeatView). is_served u.stage) vs other w spent there', total-set (λ (u : SeatView). is_served u.stage) s.views id v both at));
      }
