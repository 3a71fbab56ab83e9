-- Stations that are made one by one.
use Rattle.std.proofs.Common.{ℕ, ◌≡◌, ◌+◌, false, List, [], ◌∷◌, ◌++◌, Option, None, Some, refl, ap, subst, arith}
use Rattle.std.specs.Option.{option_map}
use Rattle.std.proofs.lemmas.List.Elements.{All-nil, All-push, All-same}
use Rattle.std.proofs.lemmas.List.{length-append}
use Rattle.davsvn.specs.AdapterStates.{ListeningState}
use Rattle.davsvn_run.specs.Services.{Service, address_in}
use Rattle.davsvn.specs.Doorways.{AreReady, workers_asked}

-- none are ready for none
pub none_ready : {C : Type 0} → AreReady {C = C} 0 [] []
none_ready {C} = record { free = All-nil (λ d. d.out ≡ false); doors_counted = refl; clocks_counted = refl }

-- a free door and a clock more
pub one_more :
    {C : Type 0} (number : ℕ) (doors more_doors : List ListeningState) (clocks more_clocks : List C) (door : ListeningState) (clock : C)
    → AreReady number doors clocks
    → more_doors ≡ doors ++ door ∷ []
    → more_clocks ≡ clocks ++ clock ∷ []
    → door.out ≡ false
    → AreReady (number + 1) more_doors more_clocks
one_more {C} number doors more_doors clocks more_clocks door clock ready doors_is clocks_is out = record {
  free = All-same (λ d. d.out ≡ false) more_doors (doors ++ door ∷ []) doors_is (All-push (λ d. d.out ≡ false) doors door ready.free out);
  doors_counted = rw doors_is (omega (arith, length-append doors (door ∷ []), ready.doors_counted));
  clocks_counted = rw clocks_is (omega (arith, length-append clocks (clock ∷ []), ready.clocks_counted));
}

-- what is ready for the number of stations in an address is ready for the service that has this address
pub ready_for :
    {C : Type 0} (asked : Option Service) (host : List ℕ) (port number : ℕ) (doors : List ListeningState) (clocks : List C)
    → Some (host, port, number) ≡ option_map address_in asked
    → AreReady number doors clocks
    → AreReady (workers_asked asked) doors clocks
ready_for None host port number doors clocks same ready = absurd (cc same)
ready_for {C} (Some service) host port number doors clocks same ready =
    let one : (host, port, number) ≡ address_in service = cc same in
    let told : number ≡ service.workers = ap (λ (a : List ℕ × ℕ × ℕ). a.2) one in
    subst (λ n. AreReady {C = C} n doors clocks) told ready
