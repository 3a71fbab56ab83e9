-- What a station tells.
use Rattle.std.specs.Prelude.{ℕ, List, Option}
use Rattle.dsv_outside.specs.DoorStates.{DoorState}
use Rattle.dav_machine.specs.Histories.{HistoryEntry}
use Rattle.dav_machine.specs.Origins.{Origin}
use Rattle.dav_machine.specs.States.{State}
use Rattle.dav_serve.specs.declared.station.Station.{Station}

-- the history at the turn's last call, and the clock's readings where they are told
pub record Standing : Type 0 where
  pub history : List HistoryEntry
  pub readings : Option (List ℕ)

-- what a station's turn, door and clock tell, and its limit of connections: the state that the turn's history begins
-- with, the number of its pass and the start that it is of; how far it stands; the door's state and its count of faults
pub record StationState : Type 0 where
  pub opening : State
  pub pass : ℕ
  pub origin : Origin
  pub standing : Standing
  pub door : DoorState
  pub faults : ℕ
  pub limit : Option ℕ

-- what the station tells, by what turns, doors and clocks tell
abbrev pub told_by : {T D C : Type 0} → (T → State) → (T → ℕ) → (T → Origin) → (T → List HistoryEntry) → (D → DoorState) → (D → ℕ) → (C → Option (List ℕ)) → Station T D C → StationState
told_by opening pass origin front state faults readings station = record {
  opening = opening station.turn;
  pass = pass station.turn;
  origin = origin station.turn;
  standing = record { history = front station.turn; readings = readings station.clock };
  door = state station.door;
  faults = faults station.door;
  limit = station.limit;
}

-- a station's turn
abbrev pub turn_of : {T D C : Type 0} → Station T D C → T
turn_of station = station.turn

-- its door
abbrev pub door_of : {T D C : Type 0} → Station T D C → D
door_of station = station.door
