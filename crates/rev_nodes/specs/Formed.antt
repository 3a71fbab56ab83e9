-- A tree's form: a directory stands at the root, and at the parent of whatever stands elsewhere; and
-- each node's properties stand in order.
use Rattle.std.specs.Prelude.{ℕ, ◌≡◌, ◌<◌, Bool, true, List, Option, None, Some, length, is_some, IsTrue}
use Rattle.dsv_base.specs.Paths.{is_path, parent_text, root_text}
use Rattle.rev_nodes.specs.Trees.{TreeNode, Tree, at, is_dir}
use Rattle.rev_nodes.specs.PropertyNames.{names_rise}
use Rattle.rev_nodes.specs.Forests.{Forest, tree_of, places_at}

-- the properties of what stands there are in byte order of the name, each name once
abbrev pub has_ordered_props : Option TreeNode → Bool
has_ordered_props None = true
has_ordered_props (Some found) = names_rise found.node.props

-- the root is a directory, whatever stands has a directory as its parent (so nothing stands in a file), all
-- paths are paths, and the properties of each node stand in order
pub record IsFormed (tree : Tree) : Type 0 where
  pub root : IsTrue (is_dir (at root_text tree))
  pub paths : (path : List ℕ) → IsTrue (is_some (at path tree)) → IsTrue (is_path path)
  pub parents : (path : List ℕ) (parent : List ℕ) → IsTrue (is_some (at path tree)) → parent_text path ≡ Some parent → IsTrue (is_dir (at parent tree))
  pub props : (path : List ℕ) → IsTrue (has_ordered_props (at path tree))

-- the tree of each revision is formed
abbrev pub AreFormed : Forest → Type 0
AreFormed forest = (rev : ℕ) → rev < length forest.revisions → IsFormed (tree_of (places_at forest rev))
