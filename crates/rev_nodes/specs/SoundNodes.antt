-- What every node of a revision's tree has: revisions that are not yet to come, and property names of the
-- grammar.
use Rattle.std.specs.Prelude.{ℕ, ◌≤◌, ◌<◌, Bool, true, ⊤, List, Option, None, Some, IsTrue}
use Rattle.std.specs.List.{list_all, All}
use Rattle.dsv_base.specs.Paths.{is_path}
use Rattle.dsv_base.specs.declared.prop.Prop.{Prop}
use Rattle.rev_nodes.specs.PropertyNames.{is_property_name}
use Rattle.rev_nodes.specs.Trees.{TreeNode}
use Rattle.rev_nodes.specs.Forests.{Forest, tree_of, places_at}

-- what a node was copied from, if it was, is of a revision below this one
abbrev pub IsSourceBelow : ℕ → Option (List ℕ × ℕ) → Type 0
IsSourceBelow r None = ⊤
IsSourceBelow r (Some source) = source.1 < r

-- what a node was copied from, if it was, stands at a path
abbrev pub is_from_path : Option (List ℕ × ℕ) → Bool
is_from_path None = true
is_from_path (Some source) = is_path source.0

-- the properties have names of the grammar
abbrev pub are_named : List Prop → Bool
are_named props = list_all (λ prop. is_property_name prop.name) props

-- a node of the tree of revision r: it was changed last, and began, in that revision or before; its source is a path of an earlier one than it began in; its properties have names of the grammar
pub record IsSoundNode (r : ℕ) (found : TreeNode) : Type 0 where
  pub created : found.node.created ≤ r
  pub since : found.line.since ≤ r
  pub source : IsSourceBelow found.line.since found.line.source
  pub path : IsTrue (is_from_path found.line.source)
  pub names : IsTrue (are_named found.node.props)

-- the node of a place is one of revision r
abbrev pub HasSoundNode : ℕ → List ℕ × TreeNode → Type 0
HasSoundNode r place = IsSoundNode r place.1

-- the nodes of each revision are sound
abbrev pub AreSoundNodes : Forest → Type 0
AreSoundNodes forest = (rev : ℕ) → All (HasSoundNode rev) (tree_of (places_at forest rev))
