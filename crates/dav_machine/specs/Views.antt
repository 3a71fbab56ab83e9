-- What a user may see of a state, and all that a reading reply may depend on.
use Rattle.std.specs.Prelude.{ℕ, List, Option}
use Rattle.authz_check.specs.Access.{can_read}
use Rattle.log_access.specs.Shown.{Shown, shown_of}
use Rattle.path_locks.specs.LockStates.{LockState, shown_locks}
use Rattle.dav_machine.specs.States.{State}

-- what is shown of the repository, with the records of its revisions, and the locks at readable paths
pub record View : Type 0 where
  pub shown : Shown
  pub locks : LockState

-- what a user, who has a name or is nobody, may see
abbrev pub view_of : State → Option (List ℕ) → View
view_of state user = record {
  shown = shown_of state.repository state.rules user;
  locks = shown_locks (can_read state.rules state.repository.name user) state.locks;
}
