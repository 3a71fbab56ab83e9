-- A tree: a list of paths with nodes, in byte order of the path's text, each path once.
use Rattle.std.specs.Prelude.{ℕ, Bool, true, false, not, List, [], ◌∷◌, Option, None, Some, slice_index_or}
use Rattle.std.specs.FinMap.{find}
use Rattle.std.specs.Ordering.{nat_cmp}
use Rattle.std.specs.Cmp.Lexicographic.{slice_cmp}
use Rattle.dsv_base.specs.Paths.{root_text}
use Rattle.rev_nodes.specs.declared.changed.Changed.{Changed}
use Rattle.rev_nodes.specs.declared.commit.Commit.{Commit}
use Rattle.rev_nodes.specs.declared.kind.Kind.{Kind}
use Rattle.rev_nodes.specs.declared.kind.Kind.TheVariants.{File, Dir}
use Rattle.rev_nodes.specs.declared.node.Node.{Node}
use Rattle.rev_nodes.specs.declared.line.Line.{Line}

-- a node of a tree: what is shown of it, and where it began
pub record TreeNode : Type 0 where
  pub node : Node
  pub line : Line

-- a list of paths with nodes, in byte order of the path's text, each path once
abbrev pub Tree : Type 0
Tree = List (List ℕ × TreeNode)

-- the node at a path
abbrev pub at : List ℕ → Tree → Option TreeNode
at path tree = find (slice_cmp nat_cmp) path tree

-- the kind is a directory
abbrev pub is_dir_kind : Kind → Bool
is_dir_kind File = false
is_dir_kind Dir = true

-- a directory stands there
abbrev pub is_dir : Option TreeNode → Bool
is_dir None = false
is_dir (Some found) = is_dir_kind found.node.kind

-- a file stands there
abbrev pub is_file : Option TreeNode → Bool
is_file None = false
is_file (Some found) = not (is_dir_kind found.node.kind)

-- a node that begins in this revision, by no copy
abbrev pub new_line : ℕ → Line
new_line r = record { since = r; source = None }

-- an empty directory that begins in this revision
abbrev pub new_dir : ℕ → TreeNode
new_dir r = record { node = record { kind = Dir; props = []; text = []; created = r }; line = new_line r }

-- a file with this text and without properties that begins in this revision
abbrev pub new_file : List ℕ → ℕ → TreeNode
new_file text r = record { node = record { kind = File; props = []; text = text; created = r }; line = new_line r }

-- what revision 0 has: the root alone
abbrev pub first_tree : Tree
first_tree = (root_text, new_dir 0) ∷ []

-- a revision: its commit, the paths that this changed, and its tree
pub record Revision : Type 0 where
  pub commit : Commit
  pub changed : List Changed
  pub tree : Tree

-- a repository: its name, its uuid and its revisions from 0 on
pub record Repository : Type 0 where
  pub name : List ℕ
  pub uuid : List ℕ
  pub revisions : List Revision

-- the tree of a revision, without any node past the youngest
abbrev pub tree_at : List Tree → ℕ → Tree
tree_at trees rev = slice_index_or trees rev []
