-- All stations, each by itself.
use Rattle.std.specs.Prelude.{ℕ, ◌≡◌, ⊤, List, [], ◌∷◌, map, Option}
use Rattle.dsv_outside.specs.DoorStates.{DoorState}
use Rattle.http_front.specs.declared.user.User.{User}
use Rattle.dav_machine.specs.Histories.{HistoryEntry}
use Rattle.dav_machine.specs.Origins.{Origin}
use Rattle.dav_machine.specs.States.{State}
use Rattle.dav_serve.specs.declared.station.Station.{Station}
use Rattle.dav_serve.specs.Stations.{told_by, turn_of, door_of}
use Rattle.dav_serve.specs.Visits.{Stationed}

-- two lists are equally long, and it holds of each two items that stand at one place
abbrev pub OfEachTwo : {X : Type 0} → (X → X → Type 0) → List X → List X → Type 0
OfEachTwo R [] [] = ⊤
OfEachTwo R [] (y ∷ ys) = ⊥
OfEachTwo R (x ∷ xs) [] = ⊥
OfEachTwo R (x ∷ xs) (y ∷ ys) = R x y × OfEachTwo R xs ys

module _ {T D C : Type 0} (opening : T → State) (pass : T → ℕ) (origin : T → Origin) (front : T → List HistoryEntry) (state : D → DoorState) (faults : D → ℕ) (readings : C → Option (List ℕ)) (users : List User) where
  -- one station was served to its end, and was this one before and is that one now
  abbrev pub BecameStation : Station T D C → Station T D C → Type 0
  BecameStation old new =
      Stationed users (told_by opening pass origin front state faults readings old) (told_by opening pass origin front state faults readings new)

  -- each station was served to its end
  abbrev pub EachStation : List (Station T D C) → List (Station T D C) → Type 0
  EachStation old new = OfEachTwo BecameStation old new

  -- each station was served to its end, and these are their turns and doors
  pub record ServedStations (stations : List (Station T D C)) (turns : List T) (doors : List D) : Type 0 where
    pub later : List (Station T D C)
    pub each : EachStation stations later
    pub turns_back : turns ≡ map turn_of later
    pub doors_back : doors ≡ map door_of later
