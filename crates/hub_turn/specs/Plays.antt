-- What each step tells the view that makes it.
use Rattle.std.specs.Prelude.{ℕ, ◌≡◌, ◌≢◌, ◌⊎◌, ◌%◌, ◌<◌, ◌≤◌, List, [], ◌∷◌, ◌++◌, length, Option, Some, None}
use Rattle.atomic_table.specs.Table.{Me, Step}
use Rattle.dav_machine.specs.Histories.{HistoryEntry}
use Rattle.hub_turn.specs.Cores.{CoreTold}
use Rattle.dav_machine.specs.States.{opening_state}
use Rattle.hub_turn.specs.Views.{Start, Member, Idle, Queued, Served, SeatView, with_stage, ticket_of, at_front, times, Follow}
use Rattle.hub_turn.specs.Rule.{Stands, Begun}

-- the view has all members of the start
abbrev pub HasAll : SeatView → Type 0
HasAll v = v.about.passes ≤ length v.members

-- what the slot holds
abbrev Slot : Type 0 → Type 0
Slot H = Option H

-- the first view took the empty slot
abbrev pub opened : {H : Type 0} → Step (Slot H) → Me (Slot H) SeatView → ℕ → Me (Slot H) SeatView → Type 0
opened st m n m' = m' ≡ (with_stage m.0 (Served 0 m.0.about.history), (0, None) ∷ [])

-- a ticket was taken
abbrev pub took : {H : Type 0} → Step (Slot H) → Me (Slot H) SeatView → ℕ → Me (Slot H) SeatView → Type 0
took st m n m' = (t : ℕ) × (n ≡ t % 18446744073709551616) × (m' ≡ (with_stage m.0 (Queued t), m.1))

-- the ticket is served, and the hub was taken
pub record Found {H : Type 0} (tells : H → CoreTold) (v : SeatView) (t : ℕ) (m' : Me (Slot H) SeatView) : Type 0 where
  pub one : List HistoryEntry
  pub hub : H
  pub now : m' ≡ (with_stage v (Served t one), (0, Some hub) ∷ [])
  pub stands : Stands tells v.about one hub
  pub follow : Follow one v.members
  pub begun : Begun v.about one
  pub whole : HasAll v → (k : ℕ) → k < v.about.passes → 0 < times k v.members

-- n is the number that the look found, and t the seat's ticket: the ticket is served where the rests modulo 2^64 are
-- equal; else the seat knows no more than before. A seat with all members is served at its first look
pub record Looked {H : Type 0} (tells : H → CoreTold) (m : Me (Slot H) SeatView) (n t : ℕ) (m' : Me (Slot H) SeatView) : Type 0 where
  pub found : n ≡ t % 18446744073709551616 → Found tells m.0 t m'
  pub not_found : n ≢ t % 18446744073709551616 → m' ≡ m
  pub alone : HasAll m.0 → n ≡ t % 18446744073709551616

-- the seat looked whether its ticket is served
abbrev pub looked : {H : Type 0} → (H → CoreTold) → Step (Slot H) → Me (Slot H) SeatView → ℕ → Me (Slot H) SeatView → Type 0
looked tells st m n m' = Looked tells m n (ticket_of m.0.stage) m'

-- the seat's member is at this history, which is now the one history
abbrev pub at_history : SeatView → List HistoryEntry → SeatView
at_history v history = record { members = at_front history v.members; stage = Served (ticket_of v.stage) history; about = v.about }

-- the history of the hub in hand was counted
abbrev pub counted : {H : Type 0} → (H → CoreTold) → Step (Slot H) → Me (Slot H) SeatView → ℕ → Me (Slot H) SeatView → Type 0
counted {H} tells st m n m' = (hub : H) → m.1 ≡ (0, Some hub) ∷ [] → m' ≡ (at_history m.0 (tells hub).history, m.1)

-- the hub went home, and the turn was passed on
abbrev pub passed : {H : Type 0} → Step (Slot H) → Me (Slot H) SeatView → ℕ → Me (Slot H) SeatView → Type 0
passed st m n m' = m' ≡ (with_stage m.0 Idle, [])

-- the first member, where there is one
abbrev pub first_alone : List Member → List Member
first_alone [] = []
first_alone (x ∷ xs) = x ∷ []

-- all members but the first
abbrev pub rest_of : List Member → List Member
rest_of [] = []
rest_of (x ∷ xs) = xs

-- a view gives up its first member
abbrev pub all_but_first : SeatView → SeatView
all_but_first v = record { members = rest_of v.members; stage = v.stage; about = v.about }

-- .. which is the view of a new seat
abbrev pub first_only : SeatView → SeatView
first_only v = record { members = first_alone v.members; stage = Idle; about = v.about }

-- the other's members stand before the view's own
abbrev pub joined_view : SeatView → SeatView → SeatView
joined_view v w = record { members = w.members ++ v.members; stage = v.stage; about = v.about }

-- what a spent view has for its start
abbrev no_start : Start
no_start = record {
  opening = opening_state (record { name = []; uuid = []; revisions = [] }) [];
  history = [];
  first = record { faults = 0; kept = None };
  passes = 0;
}

-- a view that has nothing more to do with the table
abbrev pub spent : SeatView
spent = record { members = []; stage = Idle; about = no_start }

-- the number is that of the first member
abbrev pub IsOfFirst : ℕ → List Member → Type 0
IsOfFirst number [] = ⊥
IsOfFirst number (x ∷ xs) = x.number ≡ number

-- the later history is this one, or has one entry more, of the first member's
abbrev pub Grows : List Member → List HistoryEntry → ℕ → List HistoryEntry → Type 0
Grows members one more later =
    ((more ≡ 0) × (later ≡ one)) ⊎ ((more ≡ 1) × ((entry : HistoryEntry) × (later ≡ one ++ entry ∷ []) × IsOfFirst entry.event.pass members))
