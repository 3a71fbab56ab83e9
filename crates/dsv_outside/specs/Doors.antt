-- What a door gives, and what it gets back.
use Rattle.std.specs.Prelude.{ℕ, ◌≡◌, Bool, true, false, List, [], ◌∷◌, ◌++◌, Option, None, Some, option_map, ⊤}
use Rattle.dsv_outside.specs.Causes.{next_count}
use Rattle.dsv_outside.specs.DoorStates.{PairState, Returned, DoorState}
use Rattle.dsv_outside.specs.declared.accepted.Accepted.{Accepted}
use Rattle.dsv_outside.specs.declared.accepted.Accepted.TheVariants.{Pair, End, Failed}

-- a door that has given nothing, and tells that pairs with these inputs are to come
abbrev pub new_door : List (List ℕ) → DoorState
new_door inputs = record { given = 0; shut = false; out = false; coming = Some inputs; returned = Some [] }

-- the new pair of a connection with this input
abbrev pub new_pair : List ℕ → PairState
new_pair input = record { left = Some input; over = false; source_faults = 0; taken = Some []; sink_faults = 0 }

-- where the inputs to come are told, the first one is taken away, and the pair is new and has it
abbrev pub TakesInput : Option (List (List ℕ)) → Option (List (List ℕ)) → PairState → Type 0
TakesInput None new pair = ⊤
TakesInput (Some []) new pair = ⊥
TakesInput (Some (input ∷ inputs)) new pair = (new ≡ Some inputs) × (pair ≡ new_pair input)

-- a door that isn't shut gives a pair, which is counted and out; it stays open, and what went back stays
pub record GivesPair (old new : DoorState) (pair : PairState) : Type 0 where
  pub was_open : old.shut ≡ false
  pub is_open : new.shut ≡ false
  pub given : new.given ≡ next_count old.given
  pub out : new.out ≡ true
  pub input : TakesInput old.coming new.coming pair
  pub returned : new.returned ≡ old.returned

-- no pair is to come, where that is told
abbrev pub NoneComes : Option (List (List ℕ)) → Type 0
NoneComes None = ⊤
NoneComes (Some inputs) = inputs ≡ []

-- a door that has answered `End`, and is the same else
abbrev pub shut_door : DoorState → DoorState
shut_door door = record { given = door.given; shut = true; out = door.out; coming = door.coming; returned = door.returned }

-- A pair is given as told. `End` comes only where no pair is to come, and shuts the door. `Failed` changes nothing. A
-- door that is shut answers `End` alone.
abbrev pub Accepts : {S K : Type 0} → (S → K → PairState) → DoorState → DoorState → Accepted S K → Type 0
Accepts pair old new (Pair source sink) = GivesPair old new (pair source sink)
Accepts pair old new End = (new ≡ shut_door old) × NoneComes old.coming
Accepts pair old new Failed = (new ≡ old) × (old.shut ≡ false)

-- a call that failed
abbrev pub is_failed_accept : {S K : Type 0} → Accepted S K → Bool
is_failed_accept (Pair source sink) = false
is_failed_accept End = false
is_failed_accept Failed = true

-- no pair is out any more, and the one that went back is the last of those that did
abbrev pub went_back : DoorState → Returned → DoorState
went_back door last = record {
  given = door.given;
  shut = door.shut;
  out = false;
  coming = door.coming;
  returned = option_map (λ pairs. pairs ++ last ∷ []) door.returned;
}

-- the next input of a door that tells what is to come, or none, by which the door is shut
abbrev pub NextInput : DoorState → DoorState → Option (List ℕ) → Type 0
NextInput old new None = (new ≡ shut_door old) × NoneComes old.coming
NextInput old new (Some input) = GivesPair old new (new_pair input)
