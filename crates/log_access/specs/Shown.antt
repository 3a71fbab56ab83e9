-- What a user is shown of a repository, by the rules alone: a function of the repository, the rules and the user.
use Rattle.std.specs.Prelude.{ℕ, ◌-◌, Bool, not, ◌&&◌, false, List, [], Option, None, Some, map, filter, length, slice_index_or, if◌then◌else◌}
use Rattle.std.specs.Option.{option_map_or}
use Rattle.std.specs.List.{filter_map}
use Rattle.dsv_base.specs.Paths.{parent_text}
use Rattle.rev_nodes.specs.declared.kind.Kind.{Kind}
use Rattle.rev_nodes.specs.Trees.{TreeNode, Tree, at, Revision, Repository}
use Rattle.authz_file.specs.declared.rule.Rule.{Rule}
use Rattle.authz_check.specs.Access.{can_read}
use Rattle.log_access.specs.declared.level.Level.TheVariants as levels
use Rattle.log_access.specs.Records.{ShownRecord, shown_source, shown_record}

-- ---- a revision, by which paths are readable

-- a readable node, as it is shown
abbrev pub shown_node : (List ℕ → Bool) → TreeNode → TreeNode
shown_node reads found =
    record { node = found.node; line = record { since = found.line.since; source = shown_source reads found.line.source } }

-- the readable nodes, as they are shown
abbrev pub shown_nodes : (List ℕ → Bool) → Tree → Tree
shown_nodes reads tree = map (λ place. (place.0, shown_node reads place.1)) (filter (λ place. reads place.0) tree)

-- an unreadable child of a readable directory, by its path and kind
abbrev pub hidden_child : (List ℕ → Bool) → List ℕ × TreeNode → Option (List ℕ × Kind)
hidden_child reads place =
    if not (reads place.0) && option_map_or reads (parent_text place.0) false
    then Some (place.0, place.1.node.kind)
    else None

-- what is shown of a revision: its readable nodes, the names that are hidden in readable directories, and its record
pub record ShownRevision : Type 0 where
  pub nodes : Tree
  pub hidden : List (List ℕ × Kind)
  pub log : ShownRecord

-- a revision, as it is shown
abbrev pub shown_revision : (List ℕ → Bool) → Revision → ShownRevision
shown_revision reads revision = record {
  nodes = shown_nodes reads revision.tree;
  hidden = filter_map (hidden_child reads) revision.tree;
  log = shown_record reads revision;
}

-- ---- a repository

-- what is shown of a repository; the rules are among it, so that a reader of it can ask them
pub record Shown : Type 0 where
  pub name : List ℕ
  pub uuid : List ℕ
  pub rules : List Rule
  pub youngest : ℕ
  pub revisions : List ShownRevision

-- what a user, who has a name or is nobody, is shown of a repository by these rules
unfoldable pub shown_of : Repository → List Rule → Option (List ℕ) → Shown
shown_of repository rules user = record {
  name = repository.name;
  uuid = repository.uuid;
  rules = rules;
  youngest = length repository.revisions - 1;
  revisions = map (shown_revision (can_read rules repository.name user)) repository.revisions;
}

-- past the youngest revision nothing is shown
abbrev pub shown_nothing : ShownRevision
shown_nothing = record {
  nodes = [];
  hidden = [];
  log = record { level = levels.None; props = []; author = None; moment = None; changed = [] };
}

-- the shown nodes of a revision
abbrev pub nodes_in : Shown → ℕ → Tree
nodes_in shown rev = (slice_index_or shown.revisions rev shown_nothing).nodes

-- the shown node at a path of a revision
abbrev pub node_in : Shown → ℕ → List ℕ → Option TreeNode
node_in shown rev path = at path (nodes_in shown rev)

-- the record of a revision, as it is shown
abbrev pub log_in : Shown → ℕ → ShownRecord
log_in shown rev = (slice_index_or shown.revisions rev shown_nothing).log
