-- What a seat at the table knows.
use Rattle.std.specs.Prelude.{ℕ, ◌≡◌, ◌+◌, ◌<◌, ◌==◌, nat_lt, List, [], ◌∷◌}
use Rattle.dav_machine.specs.Histories.{HistoryEntry, own, IsPrefix, one_if}
use Rattle.dav_machine.specs.States.{State as Repository}
use Rattle.hub_turn.specs.Cores.{KeeperTold}

-- what a start began with: the state that its hub opened with, the hub's history so far, what the hub's first keeper tells,
-- and how many passes it gave
pub record Start : Type 0 where
  pub opening : Repository
  pub history : List HistoryEntry
  pub first : KeeperTold
  pub passes : ℕ

-- a pass's number, and the history at its last call's point
pub record Member : Type 0 where
  pub number : ℕ
  pub front : List HistoryEntry

-- Founding: with the first ticket, which is served, and the slot still empty; Idle: without a ticket; Queued: with one;
-- Served: it has found it served, and what the one history is then
pub data Stage : Type 0 where
  Founding : Stage
  Idle : Stage
  Queued : ℕ → Stage
  Served : ℕ → List HistoryEntry → Stage

-- what a seat knows: the passes that it stands for, its stage, and its start; without members it is spent
pub record SeatView : Type 0 where
  pub members : List Member
  pub stage : Stage
  pub about : Start

-- the same view at another stage
abbrev pub with_stage : SeatView → Stage → SeatView
with_stage v stage = record { members = v.members; stage = stage; about = v.about }

-- the ticket that is held at a stage
abbrev pub ticket_of : Stage → ℕ
ticket_of Founding = 0
ticket_of Idle = 0
ticket_of (Queued t) = t
ticket_of (Served t one) = t

-- the first member with another front, alone
abbrev pub at_front : List HistoryEntry → List Member → List Member
at_front history [] = []
at_front history (x ∷ xs) = record { number = x.number; front = history } ∷ []

-- how many members have this number
abbrev pub times : ℕ → List Member → ℕ
times number [] = 0
times number (member ∷ members) = one_if (member.number == number) + times number members

-- 1 where this ticket is held
abbrev pub has_ticket : ℕ → Stage → ℕ
has_ticket ticket Founding = one_if (0 == ticket)
has_ticket ticket Idle = 0
has_ticket ticket (Queued t) = one_if (t == ticket)
has_ticket ticket (Served t one) = one_if (t == ticket)

-- 1 where any ticket is held
abbrev pub has_any : Stage → ℕ
has_any Founding = 1
has_any Idle = 0
has_any (Queued t) = 1
has_any (Served t one) = 1

-- 1 where the ticket that is held was found served
abbrev pub is_served : Stage → ℕ
is_served Founding = 1
is_served Idle = 0
is_served (Queued t) = 0
is_served (Served t one) = 1

-- the sum over the views
abbrev pub total : (SeatView → ℕ) → List SeatView → ℕ
total f [] = 0
total f (v ∷ vs) = f v + total f vs

-- 1 where k is below n
abbrev pub below : ℕ → ℕ → ℕ
below k n = one_if (nat_lt k n)

-- each member's front is a beginning of the history, and holds all of the member's entries
abbrev pub Follow : List HistoryEntry → List Member → Type 0
Follow one [] = Unit {0}
Follow one (member ∷ members) = IsPrefix member.front one × (own member.number one ≡ own member.number member.front) × Follow one members

-- these entries have numbers below n
abbrev pub AllBelow : ℕ → List HistoryEntry → Type 0
AllBelow n [] = Unit {0}
AllBelow n (entry ∷ entries) = (entry.event.pass < n) × AllBelow n entries

-- these entries have numbers of the members
abbrev pub AllOf : List Member → List HistoryEntry → Type 0
AllOf members [] = Unit {0}
AllOf members (entry ∷ entries) = (0 < times entry.event.pass members) × AllOf members entries
