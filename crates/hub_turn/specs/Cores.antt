-- What passes share, as contracts see it.
use Rattle.std.specs.Prelude.{ℕ, List, Option}
use Rattle.dav_machine.specs.Histories.{HistoryEntry}
use Rattle.dav_machine.specs.Hubs.{HubState, present_state}
use Rattle.dav_machine.specs.States.{State}

-- what a keeper tells: its count of faults, and the numbers with their texts that it keeps, where it tells these
pub record KeeperTold : Type 0 where
  pub faults : ℕ
  pub kept : Option (List (ℕ × List ℕ))

-- what a machine tells: the state that it opened with, what was done since, the state as it is now, and its keeper as it
-- was at first and as it is now
pub record CoreTold : Type 0 where
  pub opening : State
  pub history : List HistoryEntry
  pub state : State
  pub first : KeeperTold
  pub now : KeeperTold

-- what a keeper tells, by what it counts and what it keeps
abbrev pub keeper_told : {K : Type 0} → (K → ℕ) → (K → Option (List (ℕ × List ℕ))) → K → KeeperTold
keeper_told faults kept keeper = record { faults = faults keeper; kept = kept keeper }

-- what a hub tells
abbrev pub hub_told : {K : Type 0} → (K → ℕ) → (K → Option (List (ℕ × List ℕ))) → HubState K → CoreTold
hub_told faults kept hub = record {
  opening = hub.opening;
  history = hub.history;
  state = present_state hub;
  first = keeper_told faults kept hub.first_keeper;
  now = keeper_told faults kept hub.keeper;
}
