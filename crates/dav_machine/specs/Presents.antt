-- The present state, as the program keeps it.
use Rattle.std.specs.Prelude.{ℕ, ◌≡◌, ◌<◌, ⊤, Bool, List, Option, None, Some}
use Rattle.rev_nodes.specs.Forests.{Forest, repository_of}
use Rattle.authz_check.specs.Access.{can_read}
use Rattle.authz_check.specs.Policies.{PolicyState}
use Rattle.authz_file.specs.declared.rule.Rule.{Rule}
use Rattle.dav_names.specs.Targets.{root_of}
use Rattle.log_access.specs.Shown.{Shown, shown_of}
use Rattle.path_locks.specs.LockStates.{LockState, no_locks}
use Rattle.prop_requests.specs.Sights.{SightState}
use Rattle.dav_machine.specs.Chains.{IsReadable}
use Rattle.dav_machine.specs.States.{State}
use Rattle.dav_machine.specs.Views.{View, view_of}

-- trees whose nodes have numbers, the rules and the locks
pub record PresentState : Type 0 where
  pub trees : Forest
  pub rules : List Rule
  pub locks : LockState

-- trees and a policy, as contracts see them together, with no locks yet
abbrev pub present_of : Forest → PolicyState → PresentState
present_of trees policy = record { trees = trees; rules = policy.rules; locks = no_locks }

-- the state of the machine that this is: the numbers are no part of it
abbrev pub state_of : PresentState → State
state_of present = record { repository = repository_of present.trees; rules = present.rules; locks = present.locks }

-- where targets reach the repository
abbrev pub root_in : PresentState → List ℕ
root_in present = root_of present.trees.name

-- whether a user may read a path
abbrev pub may_read : PresentState → Option (List ℕ) → List ℕ → Bool
may_read present user path = can_read present.rules present.trees.name user path

-- the user may read the path, if there is one
abbrev pub MayRead : PresentState → Option (List ℕ) → Option (List ℕ) → Type 0
MayRead present user path = IsReadable present.rules present.trees.name user path

-- what a user is shown of the repository
abbrev pub shown_to : PresentState → Option (List ℕ) → Shown
shown_to present user = shown_of (repository_of present.trees) present.rules user

-- what a user may see
abbrev pub view_to : PresentState → Option (List ℕ) → View
view_to present user = view_of (state_of present) user

-- what a user sees, who asks about properties
abbrev pub sight_to : PresentState → Option (List ℕ) → SightState
sight_to present user = record {
  trees = present.trees;
  rules = present.rules;
  locks = present.locks;
  user = user;
  root = root_in present;
}

-- the revision that is named, if one is, is one of so many
abbrev pub IsThere : ℕ → Option ℕ → Type 0
IsThere count None = ⊤
IsThere count (Some rev) = rev < count

-- the policy is one for the repository of these trees, and this is where targets reach it
pub record IsPresent (trees : Forest) (policy : PolicyState) (root : List ℕ) : Type 0 where
  pub same_name : policy.name ≡ trees.name
  pub is_root : root ≡ root_of trees.name
