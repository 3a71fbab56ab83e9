-- Who asks about properties, and what is there to be asked about.
use Rattle.std.specs.Prelude.{ℕ, ◌≡◌, ◌<◌, ⊤, Bool, true, List, Option, length}
use Rattle.rev_nodes.specs.Forests.{Forest, repository_of}
use Rattle.authz_file.specs.declared.rule.Rule.{Rule}
use Rattle.authz_check.specs.Access.{can_read}
use Rattle.log_access.specs.Shown.{Shown, shown_of, nodes_in, log_in}
use Rattle.path_locks.specs.LockStates.{LockState, shown_locks}
use Rattle.dav_names.specs.declared.resource.Resource.{Resource}
use Rattle.dav_names.specs.declared.resource.Resource.TheVariants.{Public, Me, Rvr, RevOnly, Txr, Txn}
use Rattle.prop_values.specs.Subjects.{PropSources}

-- a repository, its rules and its locks; the user who asks, who has a name or is nobody; and where targets reach the
-- repository
pub record SightState : Type 0 where
  pub trees : Forest
  pub rules : List Rule
  pub locks : LockState
  pub user : Option (List ℕ)
  pub root : List ℕ

-- the user may read a path
abbrev pub sees : SightState → List ℕ → Bool
sees sight path = can_read sight.rules sight.trees.name sight.user path

-- what answers about properties are told from, where a repository that targets reach here is shown so, and these of its
-- locks are: of each revision the shown nodes and the shown record
unfoldable pub sources_of : List ℕ → Shown → LockState → PropSources
sources_of root shown locks = record {
  root = root;
  uuid = shown.uuid;
  youngest = shown.youngest;
  nodes_of = nodes_in shown;
  facts_of = log_in shown;
  locks = locks;
}

-- what answers to the user are told from: what the rules show of the repository, and the locks of readable paths
abbrev pub sources_by : SightState → PropSources
sources_by sight =
    sources_of sight.root (shown_of (repository_of sight.trees) sight.rules sight.user) (shown_locks (sees sight) sight.locks)

-- the resource can be asked about: where it names a path the user may read it, and where it names a revision, there is
-- one of this number
abbrev pub IsAskable : SightState → Resource → Type 0
IsAskable sight (Public path) = sees sight path ≡ true
IsAskable sight Me = ⊤
IsAskable sight (Rvr rev path) = (rev < length sight.trees.revisions) × (sees sight path ≡ true)
IsAskable sight (RevOnly rev) = rev < length sight.trees.revisions
IsAskable sight (Txr name path) = ⊤
IsAskable sight (Txn name) = ⊤
