-- The trees of a repository as they are read: each place has a number beside its node. One number
-- may stand at many places, which then are alike.
use Rattle.std.specs.Prelude.{ℕ, ◌≡◌, List, [], Option, Some, map, slice_index_or}
use Rattle.std.specs.Option.{option_map}
use Rattle.std.specs.FinMap.{find}
use Rattle.std.specs.Ordering.{nat_cmp}
use Rattle.std.specs.Cmp.Lexicographic.{slice_cmp}
use Rattle.rev_nodes.specs.declared.cell.Cell.{Cell}
use Rattle.rev_nodes.specs.declared.changed.Changed.{Changed}
use Rattle.rev_nodes.specs.declared.commit.Commit.{Commit}
use Rattle.rev_nodes.specs.declared.line.Line.{Line}
use Rattle.rev_nodes.specs.declared.node.Node.{Node}
use Rattle.rev_nodes.specs.Trees.{TreeNode, Tree, Revision, Repository}

-- a node with its number
pub record Numbered : Type 0 where
  pub id : ℕ
  pub here : TreeNode

-- a revision, whose places stand in byte order of the path's text
pub record ForestRevision : Type 0 where
  pub commit : Commit
  pub changed : List Changed
  pub places : List (List ℕ × Numbered)

-- a repository as it is read: its name, its uuid, its revisions, and all nodes that were ever made, by number; `room` revisions and `node_room` nodes can be pushed before memory is taken
pub record Forest : Type 0 where
  pub name : List ℕ
  pub uuid : List ℕ
  pub revisions : List ForestRevision
  pub nodes : List Cell
  pub room : ℕ
  pub node_room : ℕ

-- the tree of a revision's places, without the numbers
abbrev pub tree_of : List (List ℕ × Numbered) → Tree
tree_of places = map (λ p. (p.0, p.1.here)) places

-- the revision without the numbers of its nodes
abbrev pub without_numbers : ForestRevision → Revision
without_numbers revision = record { commit = revision.commit; changed = revision.changed; tree = tree_of revision.places }

-- the repository without the numbers of its nodes
abbrev pub repository_of : Forest → Repository
repository_of forest = record { name = forest.name; uuid = forest.uuid; revisions = map without_numbers forest.revisions }

-- the commit past the youngest: that of nobody, without changes
abbrev pub no_commit : Commit
no_commit = record { author = []; moment = 0; props = []; changes = [] }

-- what stands past the youngest: nothing
abbrev pub no_revision : ForestRevision
no_revision = record { commit = no_commit; changed = []; places = [] }

-- the revision of this number
abbrev pub revision_at : Forest → ℕ → ForestRevision
revision_at forest rev = slice_index_or forest.revisions rev no_revision

-- the places of a revision
abbrev pub places_at : Forest → ℕ → List (List ℕ × Numbered)
places_at forest rev = (revision_at forest rev).places

-- what stands at a path of a revision, with its number
abbrev pub place_at : Forest → ℕ → List ℕ → Option Numbered
place_at forest rev path = find (slice_cmp nat_cmp) path (places_at forest rev)

-- the number of the node at a path of a revision
abbrev pub id_at : Forest → ℕ → List ℕ → Option ℕ
id_at forest rev path = option_map (λ p. p.id) (place_at forest rev path)

-- where the line of the node at a path of a revision begins
abbrev pub line_at : Forest → ℕ → List ℕ → Option Line
line_at forest rev path = option_map (λ p. p.here.line) (place_at forest rev path)

-- the node at a path of a revision
abbrev pub node_at : Forest → ℕ → List ℕ → Option Node
node_at forest rev path = option_map (λ p. p.here.node) (place_at forest rev path)

-- the number stands somewhere
abbrev pub IsId : Forest → ℕ → Type 0
IsId forest id = (rev : ℕ) × (path : List ℕ) × (id_at forest rev path ≡ Some id)

-- wherever the number stands, this node stands
abbrev pub IsNodeOf : Forest → ℕ → Node → Type 0
IsNodeOf forest id node = (rev : ℕ) (path : List ℕ) → id_at forest rev path ≡ Some id → node_at forest rev path ≡ Some node
