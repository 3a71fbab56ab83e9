-- The revisions of a repository, one commit after another.
use Rattle.std.specs.Prelude.{ℕ, ◌-◌, List, [], ◌∷◌, ◌++◌, Result, Ok, map, length, slice_index_or}
use Rattle.dsv_base.specs.Gives.{◌>>=◌}
use Rattle.rev_nodes.specs.declared.commit.Commit.{Commit}
use Rattle.rev_nodes.specs.declared.unfit.Unfit.{Unfit}
use Rattle.rev_nodes.specs.Trees.{Tree, Revision, first_tree}
use Rattle.rev_nodes.specs.Changes.{apply_from}
use Rattle.rev_nodes.specs.ChangedPaths.{changed_paths}

-- the trees of revisions
abbrev pub trees_of : List Revision → List Tree
trees_of revisions = map (λ revision. revision.tree) revisions

-- the tree of the youngest revision, which takes the changes of the next
abbrev pub youngest_tree : List Revision → Tree
youngest_tree revisions = slice_index_or (trees_of revisions) (length revisions - 1) []

-- the tree that the changes of a commit make of the youngest one, or the first that doesn't fit and why
abbrev pub tree_after : List Revision → Commit → Result Tree (ℕ × Unfit)
tree_after revisions commit = apply_from 0 commit.changes (trees_of revisions) (youngest_tree revisions) (length revisions)

-- the revision of a commit without changes: the root alone
abbrev pub first_revision : Commit → Revision
first_revision commit = record { commit = commit; changed = []; tree = first_tree }

-- the revision of a commit that made the one tree of the other
abbrev pub revision_of : Commit → Tree → Tree → Revision
revision_of commit before after = record { commit = commit; changed = changed_paths commit.changes before after; tree = after }

-- the revisions with a commit pushed
unfoldable pub pushed : List Revision → Commit → Result (List Revision) (ℕ × Unfit)
pushed revisions commit = tree_after revisions commit >>= (λ tree. Ok (revisions ++ revision_of commit (youngest_tree revisions) tree ∷ []))
