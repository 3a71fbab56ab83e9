-- What a run of `serve` says that ends well.
use Rattle.std.proofs.Common.{◌≡◌, ℕ, List, length, Option, Some, refl, sym, subst}
use Rattle.dsv_outside.specs.DoorStates.{DoorState}
use Rattle.dav_machine.specs.Hubs.{HubState, new_hub}
use Rattle.hub_turn.specs.Cores.{hub_told}
use Rattle.rev_nodes.specs.Forests.{repository_of}
use Rattle.davsvn_run.specs.declared.end.End.TheVariants as end
use Rattle.davsvn_run.specs.declared.inputs.Inputs.{Inputs}
use Rattle.davsvn_run.specs.Opening.{Opens}
use Rattle.davsvn_run.specs.ServedDoors.{ServedDoors}
use Rattle.davsvn_run.specs.ServiceRuns.{ServeSays}
use Rattle.davsvn_run.specs.Services.{Service}
use Rattle.davsvn_run.specs.Worlds.{Contents}

module _ {P D C : Type 0} (faults : P → ℕ) (kept : P → Option (List (ℕ × List ℕ))) (state : D → DoorState) (door_faults : D → ℕ) (readings : C → Option (List ℕ)) where
  pub well_served : (words : Option Service) (asked : Service) (contents : Contents) (rose : Type 0) (keeper : P) (doors : List D) (clocks : List C) (others : List D) (hub : HubState P) (inputs : Inputs)
      → words ≡ Some asked → length doors ≡ asked.workers
      → Opens contents asked.files (repository_of inputs.trees) inputs.rules inputs.users
      → ServedDoors (hub_told faults kept) state door_faults readings inputs.users asked.each (length doors)
      (new_hub inputs.trees (record { rules = inputs.rules.list; name = inputs.trees.name }) keeper) doors clocks others hub
      → ServeSays faults kept state door_faults readings words contents rose keeper doors clocks others (Some hub) end.Well
  well_served words asked contents rose keeper doors clocks others hub inputs is manned opens served =
      let opened : HubState P = new_hub inputs.trees (record { rules = inputs.rules.list; name = inputs.trees.name }) keeper in
      subst (λ (s : Option Service). ServeSays faults kept state door_faults readings s contents rose keeper doors clocks others (Some hub) end.Well) (sym is) (record {
        repository = repository_of inputs.trees;
        rules = inputs.rules;
        users = inputs.users;
        opens = opens;
        opened = opened;
        is_new = (refl, refl, refl);
        served = subst (λ (n : ℕ). ServedDoors (hub_told faults kept) state door_faults readings inputs.users asked.each n opened doors clocks others hub) manned served;
      })
