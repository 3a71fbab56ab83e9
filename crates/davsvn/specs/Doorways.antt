-- A listener of std as a door.
use Rattle.std.specs.Prelude.{ℕ, ◌≡◌, false, List, All, length, Option, None, Some, ⊤}
use Rattle.dsv_outside.specs.DoorStates.{PairState, DoorState}
use Rattle.dsv_outside.specs.declared.accepted.Accepted.{Accepted}
use Rattle.dsv_outside.specs.declared.accepted.Accepted.TheVariants.{Pair, End, Failed}
use Rattle.davsvn_run.specs.Services.{Service}
use Rattle.davsvn.specs.AdapterStates.{ReadingState, WritingState, ListeningState}

-- what it tells as a door: it is never shut, and tells neither the connections to come nor those that went back
abbrev pub door_state : ListeningState → DoorState
door_state door = record { given = door.given; shut = false; out = door.out; coming = None; returned = None }

-- what a connection tells: of its bytes what the reader knows is left, and none of those that were put
abbrev pub pair_state : {T : Type 0} → (T → Option (List ℕ)) → ReadingState T → WritingState T → PairState
pair_state remaining source sink = record {
  left = remaining source.inner;
  over = source.over;
  source_faults = source.faults;
  taken = None;
  sink_faults = sink.faults;
}

-- a connection that isn't over and has no fault yet
pub record IsNewConnection {T : Type 0} (source : ReadingState T) (sink : WritingState T) : Type 0 where
  pub goes_on : source.over ≡ false
  pub read : source.faults ≡ 0
  pub written : sink.faults ≡ 0

-- a connection that a door gives is new
abbrev pub IsNewPair : {T : Type 0} → Accepted (ReadingState T) (WritingState T) → Type 0
IsNewPair (Pair source sink) = IsNewConnection source sink
IsNewPair End = ⊤
IsNewPair Failed = ⊤

-- how many stations are asked for, by words that ask for a service or for none
abbrev pub workers_asked : Option Service → ℕ
workers_asked None = 0
workers_asked (Some service) = service.workers

-- the doors and the clocks of so many stations; no door has a connection out
pub record AreReady {C : Type 0} (number : ℕ) (doors : List ListeningState) (clocks : List C) : Type 0 where
  pub free : All (λ door. door.out ≡ false) doors
  pub doors_counted : length doors ≡ number
  pub clocks_counted : length clocks ≡ number
