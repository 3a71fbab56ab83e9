-- A seat on its way to the hub and back.
use Rattle.std.proofs.Common.{◌≡◌, ◌≢◌, ℕ, ◌+◌, ◌%◌, ◌<◌, List, [], ◌∷◌, length, Option, Some, None, sym, refl, ap, ◌∙◌, subst, arith}
use mathlib.Core.Option.{none}
use Rattle.atomic_table.specs.Table.{Me, step, rest, Allows}
use Rattle.hub_turn.specs.Cores.{CoreTold}
use Rattle.hub_turn.specs.Views.{Start, Member, Idle, Queued, Served, SeatView, with_stage, ticket_of, at_front}
use Rattle.hub_turn.specs.Rule.{Stands, Ruled}
use Rattle.hub_turn.specs.Plays.{took, Found, Looked, counted, passed, at_history}
use Rattle.hub_turn.specs.Holding.{IsIdle, IsFounding, HoldsHub, MayGive, given_back}
use Rattle.hub_turn.proofs.Steps.{counts, passes_on}

abbrev M : ℕ
M = 18446744073709551616

module _ {H : Type 0} (tells : H → CoreTold) where
  abbrev S : Type 0
  S = Option H

  -- a seat that waits with the ticket that the word n was
  pub record IsQueued (v : SeatView) (n : ℕ) (m : Me S SeatView) : Type 0 where
    pub ticket : ℕ
    pub word : n ≡ ticket % M
    pub now : m ≡ (with_stage v (Queued ticket), [])

  pub queues : (m m' : Me S SeatView) (n : ℕ) → IsIdle m → took (step 1 0 1 0 none) m n m' → IsQueued m.0 n m'
  queues m m' n idle t = record { ticket = t.0; word = t.1; now = t.2 ∙ ap (λ (l : List (ℕ × S)). (with_stage m.0 (Queued t.0), l)) idle.empty }

  pub queued_stage : (v : SeatView) (n : ℕ) (m : Me S SeatView) (q : IsQueued v n m) → m.0.stage ≡ Queued q.ticket
  queued_stage v n m q = ap (λ (z : Me S SeatView). z.0.stage) q.now

  pub queued_some : (v : SeatView) (n : ℕ) (m : Me S SeatView) → IsQueued v n m → 0 < length v.members → 0 < length m.0.members
  queued_some v n m q h = subst (λ (z : Me S SeatView). 0 < length z.0.members) (sym q.now) h

  pub queued_empty : (v : SeatView) (n : ℕ) (m : Me S SeatView) → IsQueued v n m → m.1 ≡ []
  queued_empty v n m q = ap (λ (z : Me S SeatView). z.1) q.now

  -- where the word is not the ticket, the seat waits on
  pub queued_on : (v : SeatView) (n : ℕ) (m m' : Me S SeatView) (served : ℕ) → IsQueued v n m → Looked tells m served (ticket_of m.0.stage) m' → served ≢ n → IsQueued v n m'
  queued_on v n m m' served q looked ne =
      let e : ticket_of m.0.stage ≡ q.ticket = ap ticket_of (queued_stage v n m q) in
      record { ticket = q.ticket; word = q.word; now = looked.not_found (λ is. ne (is ∙ ap (λ (t : ℕ). t % M) e ∙ sym q.word)) ∙ q.now }

  pub found_of : (v : SeatView) (n : ℕ) (m m' : Me S SeatView) (served : ℕ) (q : IsQueued v n m) → Looked tells m served (ticket_of m.0.stage) m' → served ≡ n
      → Found tells (with_stage v (Queued q.ticket)) q.ticket m'
  found_of v n m m' served q looked is =
      let e : ticket_of m.0.stage ≡ q.ticket = ap ticket_of (queued_stage v n m q) in
      subst (λ (z : Me S SeatView). Found tells z.0 (ticket_of z.0.stage) m') q.now (looked.found (is ∙ q.word ∙ ap (λ (t : ℕ). t % M) (sym e)))

  -- the slot is in hand
  pub hand_of : (v : SeatView) (t : ℕ) (m' : Me S SeatView) → Found tells v t m' → (old : S) × (m'.1 ≡ (0, old) ∷ rest m'.1)
  hand_of v t m' f = let e : m'.1 ≡ (0, Some f.hub) ∷ [] = ap (λ (z : Me S SeatView). z.1) f.now in
      (Some f.hub, e ∙ ap (λ (l : List (ℕ × S)). (0, Some f.hub) ∷ rest l) (sym e))

  head_of : H → List (ℕ × S) → H
  head_of h [] = h
  head_of h (x ∷ xs) = elim x.1 as (λ _. H) [ None ↦ h | Some y ↦ y ]

  IsHub : List (ℕ × S) → Type 0
  IsHub [] = Unit {0}
  IsHub (x ∷ xs) = elim x.1 as (λ _. Type 0) [ None ↦ ⊥ | Some y ↦ Unit {0} ]

  pub never_none : (v : SeatView) (t : ℕ) (m' : Me S SeatView) → Found tells v t m' → m'.1 ≡ (0, None) ∷ rest m'.1 → ⊥
  unfolding IsHub
  never_none v t m' f e = subst IsHub (sym (ap (λ (z : Me S SeatView). z.1) f.now) ∙ e) tt

  pub holds_of : (v : SeatView) (t : ℕ) (m' m'' : Me S SeatView) (hub : H) → Found tells (with_stage v (Queued t)) t m'
      → m'.1 ≡ (0, Some hub) ∷ rest m'.1 → m'' ≡ (m'.0, (0, None) ∷ rest m'.1) → HoldsHub tells v hub m''
  unfolding head_of
  holds_of v t m' m'' hub f e now =
      let same : f.hub ≡ hub = ap (head_of hub) (sym (ap (λ (z : Me S SeatView). z.1) f.now) ∙ e) in record {
        ticket = t;
        one = f.one;
        now = now ∙ ap (λ (z : Me S SeatView). (z.0, (0, None) ∷ rest z.1)) f.now;
        stands = subst (Stands tells v.about f.one) same f.stands;
        follow = f.follow;
        begun = f.begun;
        whole = f.whole;
      }

  -- ---- giving back

  pub in_hand_again : (m m' : Me S SeatView) (hub : H) (more : ℕ) → MayGive tells m hub more → m' ≡ (m.0, (0, Some hub) ∷ rest m.1) → m' ≡ (m.0, (0, Some hub) ∷ [])
  in_hand_again m m' hub more may e = e ∙ ap (λ (l : List (ℕ × S)). (m.0, (0, Some hub) ∷ rest l)) may.in_hand

  pub told_of : (m m' m'' : Me S SeatView) (hub : H) (n k : ℕ) → m' ≡ (m.0, (0, Some hub) ∷ []) → counted tells (step 1 2 k 0 none) m' n m''
      → m'' ≡ (at_history m.0 (tells hub).history, (0, Some hub) ∷ [])
  told_of m m' m'' hub n k e c = c hub (ap (λ (z : Me S SeatView). z.1) e) ∙ ap (λ (z : Me S SeatView). (at_history z.0 (tells hub).history, z.1)) e

  pub passed_of : (m m' m'' : Me S SeatView) (hub : H) → m' ≡ (at_history m.0 (tells hub).history, (0, Some hub) ∷ []) → m'' ≡ (with_stage m'.0 Idle, []) → m'' ≡ (given_back m.0 (tells hub).history, [])
  passed_of m m' m'' hub e p = p ∙ ap (λ (z : Me S SeatView). (with_stage z.0 Idle, [])) e

  -- ---- putting the hub in

  pub open_hand : (m m' : Me S SeatView) → m' ≡ (with_stage m.0 (Served 0 m.0.about.history), (0, None) ∷ []) → (old : S) × (m'.1 ≡ (0, old) ∷ rest m'.1)
  open_hand m m' e = (None, subst (λ (z : Me S SeatView). z.1 ≡ (0, None) ∷ rest z.1) (sym e) refl)

  pub put_hand : (m m' m'' : Me S SeatView) (hub : H) → m' ≡ (with_stage m.0 (Served 0 m.0.about.history), (0, None) ∷ []) → m'' ≡ (m'.0, (0, Some hub) ∷ rest m'.1)
      → m'' ≡ (with_stage m.0 (Served 0 m.0.about.history), (0, Some hub) ∷ [])
  put_hand m m' m'' hub e p = p ∙ ap (λ (z : Me S SeatView). (z.0, (0, Some hub) ∷ rest z.1)) e

  pub put_idle : (m m' m'' : Me S SeatView) (hub : H) → m' ≡ (with_stage m.0 (Served 0 m.0.about.history), (0, Some hub) ∷ []) → m'' ≡ (with_stage m'.0 Idle, []) → m'' ≡ (with_stage m.0 Idle, [])
  put_idle m m' m'' hub e p = p ∙ ap (λ (z : Me S SeatView). (with_stage z.0 Idle, [])) e

  module _ (about : Start) (slots id : ℕ) where
    pub put_passes : (m m' : Me S SeatView) (hub : H) → IsFounding m → Stands tells m.0.about m.0.about.history hub → m' ≡ (with_stage m.0 (Served 0 m.0.about.history), (0, Some hub) ∷ []) → slots ≡ 1
        → Allows (Ruled tells about) slots id m' 1 (λ n. (n + 1) % M) (passed (step slots 1 1 0 none) m')
    put_passes m m' hub founding stands e one_slot = subst (λ (z : Me S SeatView). Allows (Ruled tells about) slots id z 1 (λ n. (n + 1) % M) (passed (step slots 1 1 0 none) z)) (sym e)
        (passes_on tells about slots id (with_stage m.0 (Served 0 m.0.about.history), (0, Some hub) ∷ []) 0 m.0.about.history hub refl founding.some refl stands one_slot)

    pub give_counts : (m m' : Me S SeatView) (hub : H) (more : ℕ) → MayGive tells m hub more → m' ≡ (m.0, (0, Some hub) ∷ []) → length (tells hub).history < M
        → Allows (Ruled tells about) slots id m' 2 (λ n. (n + more) % M) (counted tells (step slots 2 more 0 none) m')
    give_counts m m' hub more may e room = subst (λ (z : Me S SeatView). Allows (Ruled tells about) slots id z 2 (λ n. (n + more) % M) (counted tells (step slots 2 more 0 none) z)) (sym e)
        (counts tells about slots id (m.0, (0, Some hub) ∷ []) may.ticket may.one may.member hub more may.stage may.single refl may.grows room)

    pub give_passes : (m m' : Me S SeatView) (hub : H) (more : ℕ) → MayGive tells m hub more → m' ≡ (at_history m.0 (tells hub).history, (0, Some hub) ∷ []) → slots ≡ 1
        → Allows (Ruled tells about) slots id m' 1 (λ n. (n + 1) % M) (passed (step slots 1 1 0 none) m')
    give_passes m m' hub more may e one_slot = subst (λ (z : Me S SeatView). Allows (Ruled tells about) slots id z 1 (λ n. (n + 1) % M) (passed (step slots 1 1 0 none) z)) (sym e)
        (passes_on tells about slots id (at_history m.0 (tells hub).history, (0, Some hub) ∷ []) (ticket_of m.0.stage) (tells hub).history hub refl
        (subst (λ (ms : List Member). 0 < length (at_front (tells hub).history ms)) (sym may.single) (omega arith)) refl may.stands one_slot)
