-- A seat that has the hub in hand.
use Rattle.std.specs.Prelude.{ℕ, ◌≡◌, ◌<◌, List, [], ◌∷◌, length, Option, None}
use Rattle.atomic_table.specs.Table.{Me}
use Rattle.dav_machine.specs.Histories.{HistoryEntry}
use Rattle.hub_turn.specs.Cores.{CoreTold}
use Rattle.hub_turn.specs.Views.{Member, Founding, Idle, Served, SeatView, with_stage, at_front, times, Follow}
use Rattle.hub_turn.specs.Rule.{Stands, Begun}
use Rattle.hub_turn.specs.Plays.{HasAll, Grows}

-- a seat without a ticket, and with no slot in hand
pub record IsIdle {S : Type 0} (m : Me S SeatView) : Type 0 where
  pub idle : m.0.stage ≡ Idle
  pub some : 0 < length m.0.members
  pub empty : m.1 ≡ []

-- the first seat, before the hub is in the slot
pub record IsFounding {S : Type 0} (m : Me S SeatView) : Type 0 where
  pub founding : m.0.stage ≡ Founding
  pub some : 0 < length m.0.members
  pub empty : m.1 ≡ []

-- the hub was taken out of the slot
pub record HoldsHub {H : Type 0} (tells : H → CoreTold) (v : SeatView) (hub : H) (m' : Me (Option H) SeatView) : Type 0 where
  pub ticket : ℕ
  pub one : List HistoryEntry
  pub now : m' ≡ (with_stage v (Served ticket one), (0, None) ∷ [])
  pub stands : Stands tells v.about one hub
  pub follow : Follow one v.members
  pub begun : Begun v.about one
  pub whole : HasAll v → (k : ℕ) → k < v.about.passes → 0 < times k v.members

-- a seat of one pass has found its ticket served, the slot in its hand is empty, and this hub may be given back
pub record MayGive {H : Type 0} (tells : H → CoreTold) (m : Me (Option H) SeatView) (hub : H) (more : ℕ) : Type 0 where
  pub ticket : ℕ
  pub one : List HistoryEntry
  pub member : Member
  pub stage : m.0.stage ≡ Served ticket one
  pub single : m.0.members ≡ member ∷ []
  pub in_hand : m.1 ≡ (0, None) ∷ []
  pub grows : Grows m.0.members one more (tells hub).history
  pub stands : Stands tells m.0.about (tells hub).history hub

-- the view after the hub was given back
abbrev pub given_back : SeatView → List HistoryEntry → SeatView
given_back v history = record { members = at_front history v.members; stage = Idle; about = v.about }
