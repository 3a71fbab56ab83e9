-- How a repository is kept: one table of nodes that its revisions share; and for each revision its commit,
-- what this changed, and the number of its root.
use Rattle.std.specs.Prelude.{ℕ, ◌≡◌, ◌-◌, ◌*◌, ◌≤◌, ◌<◌, List, [], ◌∷◌, ◌++◌, Option, None, Some, Result, Ok, Err, length, map, slice_index_or, nat_lt, IsTrue, if◌then◌else◌}
use Rattle.std.specs.List.{All}
use Rattle.rev_nodes.specs.declared.cell.Cell.{Cell}
use Rattle.rev_nodes.specs.declared.change.Change.{Change}
use Rattle.rev_nodes.specs.declared.change.Change.TheVariants.{Put, SetProp, DelProp, Mkdir, Delete, Copy}
use Rattle.rev_nodes.specs.declared.changed.Changed.{Changed}
use Rattle.rev_nodes.specs.declared.commit.Commit.{Commit}
use Rattle.rev_nodes.specs.declared.unfit.Unfit.{Unfit}
use Rattle.rev_nodes.specs.Trees.{Tree, first_tree, tree_at}
use Rattle.rev_nodes.specs.Changes.{apply_from}
use Rattle.rev_nodes.specs.Commits.{IsCommitOf}
use Rattle.rev_nodes.specs.Fitting.{in_order}
use Rattle.rev_nodes.specs.Forests.{ForestRevision, Forest, without_numbers, no_commit}
use Rattle.rev_nodes.specs.Pushes.{tree_after}
use Rattle.rev_nodes.specs.SoundNodes.{HasSoundNode}
use Rattle.node_table.specs.Tables.{cell_at, IsSoundTable}
use Rattle.node_table.specs.Numbers.{numbered}
use Rattle.node_table.specs.Shown.{IsShown}
use Rattle.rev_trees.specs.declared.revision.KeptRevision.{KeptRevision}
use Rattle.rev_trees.specs.Readies.{ReadyRevision}

-- the tree that changes made, or none where one didn't fit
abbrev pub tree_or_none : Result Tree (ℕ × Unfit) → Tree
tree_or_none (Ok tree) = tree
tree_or_none (Err why) = []

-- the youngest of the trees
abbrev pub youngest : List Tree → Tree
youngest trees = tree_at trees (length trees - 1)

-- what a commit makes of the youngest of these trees, or its first change that doesn't fit
abbrev pub made_of : List Tree → Commit → Result Tree (ℕ × Unfit)
made_of trees commit = apply_from 0 commit.changes trees (youngest trees) (length trees)

-- the tree that a commit makes of the youngest of these
abbrev pub after : List Tree → Commit → Tree
after trees commit = tree_or_none (made_of trees commit)

-- the trees, and those that the commits make of them, one after another
abbrev pub trees_from : List Tree → List Commit → List Tree
trees_from trees [] = trees
trees_from trees (commit ∷ commits) = trees_from (trees ++ after trees commit ∷ []) commits

-- the commits of revisions
abbrev pub commits_of : List KeptRevision → List Commit
commits_of revisions = map (λ revision. revision.commit) revisions

-- the trees of revisions: the first has the root alone, and each other is what its commit makes of those before it
abbrev pub trees_in : List KeptRevision → List Tree
trees_in [] = []
trees_in (revision ∷ revisions) = trees_from (first_tree ∷ []) (commits_of revisions)

-- a revision as callers see it
abbrev pub seen_revision : List Cell → KeptRevision → Tree → ForestRevision
seen_revision cells revision tree = record {
  commit = revision.commit;
  changed = revision.changed;
  places = numbered cells revision.root tree;
}

-- revisions as callers see them, each with its tree
abbrev pub seen_revisions : List Cell → List KeptRevision → List Tree → List ForestRevision
seen_revisions cells [] trees = []
seen_revisions cells (revision ∷ revisions) [] = []
seen_revisions cells (revision ∷ revisions) (tree ∷ trees) = seen_revision cells revision tree ∷ seen_revisions cells revisions trees

-- the trees as callers see them
abbrev pub forest_of : List ℕ → List ℕ → List Cell → List KeptRevision → ℕ → ℕ → Forest
forest_of name uuid cells revisions room node_room = record {
  name = name;
  uuid = uuid;
  revisions = seen_revisions cells revisions (trees_in revisions);
  nodes = cells;
  room = room;
  node_room = node_room;
}

-- past the youngest stands nothing
abbrev pub no_kept_revision : KeptRevision
no_kept_revision = record { commit = no_commit; changed = []; root = 0 }

-- the revision of this number
abbrev pub kept_at : List KeptRevision → ℕ → KeptRevision
kept_at revisions rev = slice_index_or revisions rev no_kept_revision

-- the root of the revision of this number, if there is one
abbrev pub kept_root : List KeptRevision → ℕ → Option ℕ
kept_root revisions rev = if nat_lt rev (length revisions) then Some (kept_at revisions rev).root else None

-- the root of the tree that a change copies from, if there is such a revision; none for another change
abbrev pub source_in : List KeptRevision → Change → Option ℕ
source_in revisions (Put path text) = None
source_in revisions (SetProp path name value) = None
source_in revisions (DelProp path name) = None
source_in revisions (Mkdir path) = None
source_in revisions (Delete path) = None
source_in revisions (Copy source rev path) = kept_root revisions rev

-- a root of the table, changed last in the revision of this number or before, shows the tree, whose places stand in order and whose nodes are sound there; and the commit is one of this number
pub record IsKept (cells : List Cell) (rev : ℕ) (tree : Tree) (root : ℕ) (commit : Commit) : Type 0 where
  pub within : root < length cells
  pub created : (cell_at cells root).node.created ≤ rev
  pub shown : IsShown cells root tree
  pub sorted : IsTrue (in_order tree)
  pub nodes : All (HasSoundNode rev) tree
  pub commit_is : IsCommitOf rev commit

-- one revision or more, as many as there are numbers at most, over a sound table; each root shows what its commit made of the trees before it
pub record AreKept (cells : List Cell) (revisions : List KeptRevision) : Type 0 where
  pub some : 1 ≤ length revisions
  pub few : length revisions ≤ 2000000001
  pub sound : IsSoundTable cells
  pub kept : (rev : ℕ) → rev < length revisions → IsKept cells rev (tree_at (trees_in revisions) rev) (kept_at revisions rev).root (kept_at revisions rev).commit

-- the tree that a commit makes of the youngest one of a forest
abbrev pub tree_made : Forest → Commit → Tree
tree_made forest commit = tree_or_none (tree_after (map without_numbers forest.revisions) commit)

-- a revision that was made on these trees, with nodes of its own
abbrev pub ready_of : Forest → Commit → List Changed → List Cell → ReadyRevision
ready_of base commit changed cells = record {
  base = base.revisions;
  nodes = base.nodes;
  needs = 1;
  node_needs = length cells;
  commit = commit;
  changed = changed;
  tree = tree_made base commit;
}

-- what can become the revision of this number of these trees
pub record IsReady (base : Forest) (number : ℕ) (made : KeptRevision) (cells : List Cell) : Type 0 where
  pub next : number ≡ length base.revisions
  pub few : number ≤ 2000000000
  pub sound : IsSoundTable (base.nodes ++ cells)
  pub kept : IsKept (base.nodes ++ cells) number (tree_made base made.commit) made.root made.commit
  pub sparse : length cells ≤ 65 * length made.commit.changes
