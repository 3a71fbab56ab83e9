-- Drafts: changes that are to be committed, over the tree of a revision.
use Rattle.std.specs.Prelude.{ℕ, ◌≡◌, Bool, false, ◌||◌, nat_eq, List, Some, Result}
use Rattle.std.specs.List.{list_any}
use Rattle.dsv_base.specs.Paths.{is_under}
use Rattle.rev_nodes.specs.declared.change.Change.{Change}
use Rattle.rev_nodes.specs.declared.change.Change.TheVariants.{Put, SetProp, DelProp, Mkdir, Delete, Copy}
use Rattle.rev_nodes.specs.declared.unfit.Unfit.{Unfit}
use Rattle.rev_nodes.specs.Trees.{TreeNode, Tree, at, tree_at}
use Rattle.rev_nodes.specs.Changes.{apply_from}
use Rattle.rev_nodes.specs.ChangedPaths.{path_of}

-- the number that stands in a draft for that of the revision that is to come: the last number there is
abbrev pub coming : ℕ
coming = 2000000000

-- the tree that the changes of a draft make, one after another, of the tree of the base revision, or the first that doesn't fit and why; copies are taken from these trees
abbrev pub draft_tree : List Tree → ℕ → List Change → Result Tree (ℕ × Unfit)
draft_tree trees base changes = apply_from 0 changes trees (tree_at trees base) coming

-- the change is a copy that puts something at the path: that is the copy's destination, or stands under it
abbrev pub is_copied_to : List ℕ → Change → Bool
is_copied_to path (Copy source rev to) = is_under path to
is_copied_to path (Put named text) = false
is_copied_to path (SetProp named name value) = false
is_copied_to path (DelProp named name) = false
is_copied_to path (Mkdir named) = false
is_copied_to path (Delete named) = false

-- a change touches a path where it names this or a path under it, or is a copy that puts something there
abbrev pub touches : List ℕ → Change → Bool
touches path change = is_under (path_of change) path || is_copied_to path change

-- one of the changes touches the path
abbrev pub is_touched : List ℕ → List Change → Bool
is_touched path changes = list_any (touches path) changes

-- the node was changed last in this revision, or its line began there
abbrev pub is_made_in : ℕ → TreeNode → Bool
is_made_in r found = nat_eq found.node.created r || nat_eq found.line.since r

-- of the places of a tree, the changes touch exactly those whose node was made in this revision
abbrev pub TellsTouched : ℕ → List Change → Tree → Type 0
TellsTouched r changes tree = (path : List ℕ) (found : TreeNode) → at path tree ≡ Some found → is_touched path changes ≡ is_made_in r found
