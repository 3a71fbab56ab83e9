-- The state of the repository machine.
use Rattle.std.specs.Prelude.{ℕ, ◌-◌, List, length}
use Rattle.rev_nodes.specs.Trees.{Repository}
use Rattle.authz_file.specs.declared.rule.Rule.{Rule}
use Rattle.path_locks.specs.LockStates.{LockState, no_locks}

-- the repository, the rules and the locks; as yet there are no transactions
pub record State : Type 0 where
  pub repository : Repository
  pub rules : List Rule
  pub locks : LockState

-- the state that a script's repository and the rules give: nothing is locked
abbrev pub opening_state : Repository → List Rule → State
opening_state repository rules = record { repository = repository; rules = rules; locks = no_locks }

-- the number of the youngest revision
abbrev pub youngest_of : State → ℕ
youngest_of state = length state.repository.revisions - 1
