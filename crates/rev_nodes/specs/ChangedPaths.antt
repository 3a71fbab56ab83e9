-- What a commit changed: each path that one of its changes names, in byte order, once, told by where
-- a node is before and after, and by which changes delete it and copy to it.
use Rattle.std.specs.Prelude.{ℕ, Bool, true, false, List, [], ◌∷◌, Option, None, Some, if◌then◌else◌}
use Rattle.std.specs.List.{list_any, filter_map}
use Rattle.std.specs.FinMap.{put}
use Rattle.std.specs.Ordering.{nat_cmp}
use Rattle.std.specs.Str.{bytes_eq}
use Rattle.std.specs.Cmp.Lexicographic.{slice_cmp}
use Rattle.dsv_base.specs.Paths.{is_under}
use Rattle.rev_nodes.specs.declared.change.Change.{Change}
use Rattle.rev_nodes.specs.declared.change.Change.TheVariants.{Put, SetProp, DelProp, Mkdir, Delete, Copy}
use Rattle.rev_nodes.specs.declared.changed.Changed.{Changed}
use Rattle.rev_nodes.specs.declared.mark.Mark.TheVariants.{Added, Modified, Deleted, Replaced}
use Rattle.rev_nodes.specs.Trees.{TreeNode, Tree, at}

-- the path that a change names, which is never the source of a copy
abbrev pub path_of : Change → List ℕ
path_of (Put path text) = path
path_of (SetProp path name value) = path
path_of (DelProp path name) = path
path_of (Mkdir path) = path
path_of (Delete path) = path
path_of (Copy source rev path) = path

-- the paths that the changes name beside these, in byte order, each once
abbrev pub named_from : List Change → List (List ℕ × Unit {0}) → List (List ℕ × Unit {0})
named_from [] names = names
named_from (change ∷ changes) names = named_from changes (put (slice_cmp nat_cmp) (path_of change) tt names)

-- the paths that changes name, in byte order, each once
abbrev pub named_paths : List Change → List (List ℕ × Unit {0})
named_paths changes = named_from changes []

-- whether a change deletes the path or one above it
abbrev pub deletes : List ℕ → Change → Bool
deletes path (Delete above) = is_under path above
deletes path (Put other text) = false
deletes path (SetProp other name value) = false
deletes path (DelProp other name) = false
deletes path (Mkdir other) = false
deletes path (Copy source rev other) = false

-- the source of a path after a change, where it was this before
abbrev pub source_after : List ℕ → Change → Option (List ℕ × ℕ) → Option (List ℕ × ℕ)
source_after path (Copy source rev other) before = if bytes_eq other path then Some (source, rev) else before
source_after path (Delete above) before = if is_under path above then None else before
source_after path (Put other text) before = before
source_after path (SetProp other name value) before = before
source_after path (DelProp other name) before = before
source_after path (Mkdir other) before = before

-- the source of the last copy that names the path, where no change after that deletes it or one above it
abbrev pub source_from : List ℕ → List Change → Option (List ℕ × ℕ) → Option (List ℕ × ℕ)
source_from path [] before = before
source_from path (change ∷ changes) before = source_from path changes (source_after path change before)

-- a path at which a node is after the changes
abbrev pub added_path : List ℕ → List Change → TreeNode → Changed
added_path path changes now = record { path = path; mark = Added; kind = now.node.kind; source = source_from path changes None }

-- how a path changed where a node stands there before and after: replaced, from its last source, where a change deleted what stood there, and else modified
abbrev pub kept_path : List ℕ → List Change → TreeNode → Bool → Changed
kept_path path changes now true = record { path = path; mark = Replaced; kind = now.node.kind; source = source_from path changes None }
kept_path path changes now false = record { path = path; mark = Modified; kind = now.node.kind; source = None }

-- a path, by the node there before and after; a path that is in neither tree is left out
abbrev pub changed_by : List ℕ → List Change → Option TreeNode → Option TreeNode → Option Changed
changed_by path changes None None = None
changed_by path changes None (Some now) = Some (added_path path changes now)
changed_by path changes (Some was) None = Some (record { path = path; mark = Deleted; kind = was.node.kind; source = None })
changed_by path changes (Some was) (Some now) = Some (kept_path path changes now (list_any (deletes path) changes))

-- how the path changed between the two trees, if it did
abbrev pub changed_at : List Change → Tree → Tree → List ℕ → Option Changed
changed_at changes before after path = changed_by path changes (at path before) (at path after)

-- the paths that the changes changed, from the tree before them and the tree after them
unfoldable pub changed_paths : List Change → Tree → Tree → List Changed
changed_paths changes before after = filter_map (λ named. changed_at changes before after named.0) (named_paths changes)
