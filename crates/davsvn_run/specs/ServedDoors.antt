-- Doors that were served side by side, each by one pass over one machine.
use Rattle.std.specs.Prelude.{ℕ, ◌≡◌, ◌+◌, ⊤, List, [], ◌∷◌, ◌++◌, Option}
use Rattle.dsv_outside.specs.DoorStates.{DoorState}
use Rattle.http_front.specs.declared.user.User.{User}
use Rattle.dav_machine.specs.Histories.{HistoryEntry, own, IsPrefix}
use Rattle.dav_machine.specs.Hubs.{IsHubOf}
use Rattle.dav_machine.specs.Origins.{Origin}
use Rattle.dav_serve.specs.declared.station.Station.{Station}
use Rattle.dav_serve.specs.Stations.{StationState}
use Rattle.dav_serve.specs.Visits.{Stationed}
use Rattle.hub_turn.specs.Cores.{CoreTold}
use Rattle.hub_turn.specs.Views.{AllBelow}

-- a station before its first connection: the pass of this number of a start, which stands where the start began, with a
-- door that tells this and has this count of faults, a clock that has these readings, and this limit
abbrev pub station_at : Origin → ℕ → DoorState → ℕ → Option (List ℕ) → Option ℕ → StationState
station_at origin number door faults readings limit = record {
  opening = origin.opening;
  pass = number;
  origin = origin;
  standing = record { history = origin.history; readings = readings };
  door = door;
  faults = faults;
  limit = limit;
}

-- a door was served to its end as a station of the pass of this number; the history at that pass's last call is a
-- beginning of the one history, and holds all entries of the pass
pub record ServedDoor (users : List User) (start : StationState) (door : DoorState) (faults : ℕ) (history : List HistoryEntry) : Type 0 where
  pub later : StationState
  pub stationed : Stationed users start later
  pub door_is : later.door ≡ door
  pub faults_are : later.faults ≡ faults
  pub beginning : IsPrefix later.standing.history history
  pub owned : own start.pass history ≡ own start.pass later.standing.history

-- the clock of a station
abbrev pub clock_of : {T D C : Type 0} → Station T D C → C
clock_of station = station.clock

-- the limit of a station
abbrev pub limit_of : {T D C : Type 0} → Station T D C → Option ℕ
limit_of station = station.limit

module _ {D C : Type 0} (state : D → DoorState) (faults : D → ℕ) (readings : C → Option (List ℕ)) (users : List User) (origin : Origin) (limit : Option ℕ) (history : List HistoryEntry) where
  -- each door was served by the pass of its place, counted from this number, and by the clock of that place; the last
  -- list has the doors as they are then
  abbrev pub ServedEach : ℕ → List D → List C → List D → Type 0
  ServedEach number [] [] [] = ⊤
  ServedEach number (door ∷ doors) (clock ∷ clocks) (later ∷ others) =
      ServedDoor users (station_at origin number (state door) (faults door) (readings clock) limit) (state later) (faults later) history
      × ServedEach (number + 1) doors clocks others
  ServedEach number _ _ _ = ⊥

-- doors were served over a machine side by side, so many at once, and this is the machine then: it opened as it did, its
-- state is what its history makes of that, each door was served by its pass, and what was added is of these passes
pub record ServedDoors {H D C : Type 0}
    (tells : H → CoreTold) (state : D → DoorState) (faults : D → ℕ) (readings : C → Option (List ℕ))
    (users : List User) (limit : Option ℕ) (workers : ℕ)
    (machine : H) (doors : List D) (clocks : List C) (others : List D) (after : H)
    : Type 0 where
  pub origin : Origin
  pub opened : origin.opening ≡ (tells machine).opening
  pub begun : origin.history ≡ (tells machine).history
  pub each : ServedEach state faults readings users origin limit (tells after).history 0 doors clocks others
  pub opening : (tells after).opening ≡ (tells machine).opening
  pub first : (tells after).first ≡ (tells machine).first
  pub added : (rest : List HistoryEntry) × ((tells after).history ≡ (tells machine).history ++ rest) × AllBelow workers rest
  pub holds : IsHubOf (tells after).opening (tells after).state (tells after).history (tells after).first.faults (tells after).now.faults
