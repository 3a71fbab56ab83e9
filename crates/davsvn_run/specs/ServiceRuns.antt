-- What a run of `serve` does, by what it is given.
use Rattle.std.specs.Prelude.{ℕ, ◌≡◌, List, [], Option, None, Some}
use Rattle.authz_file.specs.declared.rules.Rules.{Rules}
use Rattle.dsv_outside.specs.DoorStates.{DoorState}
use Rattle.http_front.specs.declared.user.User.{User}
use Rattle.dav_machine.specs.Hubs.{HubState}
use Rattle.dav_machine.specs.States.{opening_state}
use Rattle.rev_nodes.specs.Trees.{Repository}
use Rattle.hub_turn.specs.Cores.{hub_told}
use Rattle.davsvn_run.specs.declared.end.End.{End}
use Rattle.davsvn_run.specs.declared.end.End.TheVariants as end
use Rattle.davsvn_run.specs.Opening.{Opens, IsBadFile, IsNextFile}
use Rattle.davsvn_run.specs.ServedDoors.{ServedDoors}
use Rattle.davsvn_run.specs.Services.{Service}
use Rattle.davsvn_run.specs.Worlds.{Contents}

-- a machine that has just opened on what the files give, with this keeper
abbrev pub opens_on : {P : Type 0} → Repository → Rules → P → HubState P → Type 0
opens_on repository rules keeper hub =
    (hub.opening ≡ opening_state repository rules.list) × (hub.history ≡ []) × (hub.first_keeper ≡ keeper)

-- the three files are of their forms, and the doors were served side by side over a machine that opened on what they
-- give, which is this one then
pub record ServedService {P D C : Type 0}
    (faults : P → ℕ) (kept : P → Option (List (ℕ × List ℕ)))
    (state : D → DoorState) (door_faults : D → ℕ) (readings : C → Option (List ℕ))
    (asked : Service) (contents : Contents) (keeper : P) (doors : List D) (clocks : List C) (others : List D) (hub : HubState P)
    : Type 0 where
  pub repository : Repository
  pub rules : Rules
  pub users : List User
  pub opens : Opens contents asked.files repository rules users
  pub opened : HubState P
  pub is_new : opens_on repository rules keeper opened
  pub served : ServedDoors (hub_told faults kept) state door_faults readings users asked.each asked.workers opened doors clocks others hub

-- no door was asked, and none is lost; there is no machine to give back
abbrev pub UnservedDoors : {P D : Type 0} → List D → List D → Option (HubState P) → Type 0
UnservedDoors doors others hub = (others ≡ doors) × (hub ≡ None)

module _ {P D C : Type 0} (faults : P → ℕ) (kept : P → Option (List (ℕ × List ℕ))) (state : D → DoorState) (door_faults : D → ℕ) (readings : C → Option (List ℕ)) where
  -- what is given back with status 0
  abbrev pub GivesServed : Service → Contents → P → List D → List C → List D → Option (HubState P) → Type 0
  GivesServed asked contents keeper doors clocks others None = ⊥
  GivesServed asked contents keeper doors clocks others (Some hub) =
      ServedService faults kept state door_faults readings asked contents keeper doors clocks others hub

  -- what a run of `serve` says of its end: with 0 each door was served to its end; with any other status no door was
  -- asked
  abbrev pub ServiceSays : Service → Contents → Type 0 → P → List D → List C → List D → Option (HubState P) → End → Type 0
  ServiceSays asked contents rose keeper doors clocks others hub end.Well = GivesServed asked contents keeper doors clocks others hub
  ServiceSays asked contents rose keeper doors clocks others hub (end.BadFile name line) =
      IsBadFile contents asked.files name line × UnservedDoors doors others hub
  ServiceSays asked contents rose keeper doors clocks others hub (end.FileFault name) =
      IsNextFile contents asked.files name × rose × UnservedDoors doors others hub
  ServiceSays asked contents rose keeper doors clocks others hub end.NoMemory = UnservedDoors doors others hub
  ServiceSays asked contents rose keeper doors clocks others hub _ = ⊥

  -- the same by the words, which may be those of no service
  abbrev pub ServeSays : Option Service → Contents → Type 0 → P → List D → List C → List D → Option (HubState P) → End → Type 0
  ServeSays None contents rose keeper doors clocks others hub given = (given ≡ end.Usage) × UnservedDoors doors others hub
  ServeSays (Some asked) contents rose keeper doors clocks others hub given =
      ServiceSays asked contents rose keeper doors clocks others hub given

-- there are as many doors and clocks as workers are asked for, where the words are those of a service
abbrev pub IsManned : Option Service → ℕ → ℕ → Type 0
IsManned None doors clocks = Unit {0}
IsManned (Some asked) doors clocks = (doors ≡ asked.workers) × (clocks ≡ asked.workers)
