-- A hub, as contracts see it.
use Rattle.std.specs.Prelude.{ℕ, ◌≡◌, ◌⊎◌, ◌+◌, ◌≤◌, List, [], ◌∷◌}
use Rattle.rev_nodes.specs.Forests.{Forest, repository_of}
use Rattle.authz_file.specs.declared.rule.Rule.{Rule}
use Rattle.authz_check.specs.Policies.{PolicyState}
use Rattle.dsv_outside.specs.Causes.{last_count}
use Rattle.path_locks.specs.LockStates.{LockState, no_locks}
use Rattle.dav_machine.specs.declared.event.Event.{Event}
use Rattle.dav_machine.specs.Histories.{HistoryEntry, replay, commits, failures}
use Rattle.dav_machine.specs.States.{State, opening_state, youngest_of}

-- the state that a hub opened with, its trees, rules and locks as they are now, what was done between the two, its keeper
-- as it was at first and as it is now
pub record HubState (K : Type 0) : Type 0 where
  pub opening : State
  pub trees : Forest
  pub rules : List Rule
  pub locks : LockState
  pub history : List HistoryEntry
  pub first_keeper : K
  pub keeper : K

-- the state of a hub as it is now
abbrev pub present_state : {K : Type 0} → HubState K → State
present_state hub = record { repository = repository_of hub.trees; rules = hub.rules; locks = hub.locks }

-- a hub over these, with no locks and nothing done yet
abbrev pub new_hub : {K : Type 0} → Forest → PolicyState → K → HubState K
new_hub trees policy keeper = record {
  opening = opening_state (repository_of trees) policy.rules;
  trees = trees;
  rules = policy.rules;
  locks = no_locks;
  history = [];
  first_keeper = keeper;
  keeper = keeper;
}

-- what holds of each hub, `first` and `now` being the counts of faults of its keeper at first and now: its state is that
-- which its history makes of the opening one, each commit is a revision, and each entry that tells a failure of the
-- keeper was a fault, as far as the count goes
pub record IsHubOf (opening state : State) (history : List HistoryEntry) (first now : ℕ) : Type 0 where
  pub replayed : state ≡ replay opening history
  pub counted : youngest_of state ≡ youngest_of opening + commits history
  pub failed : (first + failures history ≤ now) ⊎ (last_count ≤ now)

-- the events with the names of their users
abbrev pub entries_by_events : List Event → List (List ℕ) → List HistoryEntry
entries_by_events [] names = []
entries_by_events (event ∷ events) [] = []
entries_by_events (event ∷ events) (name ∷ names) = record { event = event; name = name } ∷ entries_by_events events names

-- the events of a history
abbrev pub events_of : List HistoryEntry → List Event
events_of [] = []
events_of (entry ∷ entries) = entry.event ∷ events_of entries
