-- The changes of a commit: which of them fit a tree, and what they do to it.
use Rattle.std.specs.Prelude.{ℕ, ◌+◌, Bool, not, List, [], ◌∷◌, ◌++◌, Option, None, Some, Result, Ok, Err, map, filter, drop, length, is_some, false, if◌then◌else◌}
use Rattle.std.specs.List.{list_all}
use Rattle.std.specs.Option.{option_map_or}
use Rattle.std.specs.Str.{bytes_eq}
use Rattle.std.specs.FinMap.{put}
use Rattle.std.specs.Ordering.{nat_cmp}
use Rattle.std.specs.declared.cmp.Ordering.{Ordering}
use Rattle.std.specs.declared.cmp.Ordering.TheVariants.{Less, Equal, Greater}
use Rattle.std.specs.Cmp.Lexicographic.{slice_cmp}
use Rattle.dsv_base.specs.Paths.{is_path, is_under, parent_text, root_text}
use Rattle.dsv_base.specs.declared.prop.Prop.{Prop}
use Rattle.rev_nodes.specs.declared.change.Change.{Change}
use Rattle.rev_nodes.specs.declared.change.Change.TheVariants.{Put, SetProp, DelProp, Mkdir, Delete, Copy}
use Rattle.rev_nodes.specs.declared.unfit.Unfit.{Unfit}
use Rattle.rev_nodes.specs.declared.unfit.Unfit.TheVariants.{NoNode, IsRoot, Exists, NoParent, TooLong}
use Rattle.rev_nodes.specs.Trees.{TreeNode, Tree, at, is_dir, is_file, new_dir, new_file, tree_at}

-- a directory stands at the path's parent; the root has none
abbrev pub has_parent : List ℕ → Tree → Bool
has_parent path tree = option_map_or (λ parent. is_dir (at parent tree)) (parent_text path) false

-- why a new node can't stand at a path: something is there, or the parent is no directory
abbrev pub unfit_new : List ℕ → Tree → Option Unfit
unfit_new path tree = if is_some (at path tree) then Some Exists else if has_parent path tree then None else Some NoParent

-- a path stands at or below the source: its text past the source
abbrev pub past : List ℕ → List ℕ → List ℕ
past source p = if bytes_eq source root_text then p else drop (length source) p

-- where a copy puts what is at a path at or below its source
abbrev pub moved : List ℕ → List ℕ → List ℕ → List ℕ
moved source path p = if bytes_eq p source then path else path ++ past source p

-- a node that a copy makes: it begins here, from its own source
abbrev pub copied_node : ℕ → ℕ → List ℕ → TreeNode → TreeNode
copied_node rev r p found = record { node = found.node; line = record { since = r; source = Some (p, rev) } }

-- what a copy of the source adds, taken from the tree of the source's revision
abbrev pub copied : List ℕ → ℕ → List ℕ → ℕ → Tree → Tree
copied source rev path r [] = []
copied source rev path r (place ∷ tree) = if is_under place.0 source then (moved source path place.0, copied_node rev r place.0 place.1) ∷ copied source rev path r tree else copied source rev path r tree

-- every path that arises is a path
abbrev pub are_paths : Tree → Bool
are_paths tree = list_all (λ place. is_path place.0) tree

-- why a change of what stands at the path doesn't fit: nothing is there
abbrev pub unfit_at : List ℕ → Tree → Option Unfit
unfit_at path tree = if is_some (at path tree) then None else Some NoNode

-- the reason so far, or that a path that arises is none
abbrev pub or_too_long : Option Unfit → Bool → Option Unfit
or_too_long (Some why) fits = Some why
or_too_long None fits = if fits then None else Some TooLong

-- why a copy that adds these places doesn't fit
abbrev pub unfit_copy : List ℕ → Tree → Tree → Option Unfit
unfit_copy path copies tree = or_too_long (unfit_new path tree) (are_paths copies)

-- the first condition that fails, where a change doesn't fit; copies are taken from the trees so far
unfoldable pub unfit : Change → List Tree → Tree → Option Unfit
unfit (Put path text) trees tree = if is_file (at path tree) then None else unfit_new path tree
unfit (SetProp path name value) trees tree = unfit_at path tree
unfit (DelProp path name) trees tree = unfit_at path tree
unfit (Mkdir path) trees tree = unfit_new path tree
unfit (Delete path) trees tree = if is_some (at path tree) then (if bytes_eq path root_text then Some IsRoot else None) else Some NoNode
unfit (Copy source rev path) trees tree = if is_some (at source (tree_at trees rev)) then unfit_copy path (copied source rev path 0 (tree_at trees rev)) tree else Some NoNode

-- the place after a change at the path, which marks its node and every node above it
abbrev pub mark : ℕ → List ℕ → List ℕ × TreeNode → List ℕ × TreeNode
mark r path place = (place.0, if is_under path place.0 then record place.1 { node = record place.1.node { created = r } } else place.1)

-- the places of a tree after a change at the path
abbrev pub marked : ℕ → List ℕ → Tree → Tree
marked r path tree = map (mark r path) tree

-- the file with another text, or a new file
abbrev pub with_text : ℕ → List ℕ → Option TreeNode → TreeNode
with_text r text None = new_file text r
with_text r text (Some found) = record found { node = record found.node { text = text } }

-- the tree with the node at the path
abbrev pub placed : List ℕ → TreeNode → Tree → Tree
placed path node tree = put (slice_cmp nat_cmp) path node tree

-- the tree with all of the places, in their order
abbrev pub all_placed : Tree → Tree → Tree
all_placed [] tree = tree
all_placed (place ∷ places) tree = all_placed places (placed place.0 place.1 tree)

-- a property put before another, in its place or behind it, by how their names compare
abbrev pub prop_by : Ordering → Prop → Prop → List Prop → List Prop → List Prop
prop_by Less prop other others with_others = prop ∷ other ∷ others
prop_by Equal prop other others with_others = prop ∷ others
prop_by Greater prop other others with_others = other ∷ with_others

-- the properties, in byte order of the name, with this one set
abbrev pub with_prop : Prop → List Prop → List Prop
with_prop prop [] = prop ∷ []
with_prop prop (other ∷ others) = prop_by (slice_cmp nat_cmp prop.name other.name) prop other others (with_prop prop others)

-- the properties without the one of this name
abbrev pub without_prop : List ℕ → List Prop → List Prop
without_prop name props = filter (λ prop. not (bytes_eq prop.name name)) props

-- the node with its properties edited
abbrev pub with_props : (List Prop → List Prop) → TreeNode → TreeNode
with_props edit found = record found { node = record found.node { props = edit found.node.props } }

-- the tree with the properties of the node at the path edited
abbrev pub edited : (List Prop → List Prop) → List ℕ → Tree → Tree
edited edit path tree = option_map_or (λ found. placed path (with_props edit found) tree) (at path tree) tree

-- the tree without all at and under the path
abbrev pub without : List ℕ → Tree → Tree
without path tree = filter (λ place. not (is_under place.0 path)) tree

-- the tree after a change of revision r that fits
unfoldable pub apply : Change → List Tree → Tree → ℕ → Tree
apply (Put path text) trees tree r = marked r path (placed path (with_text r text (at path tree)) tree)
apply (SetProp path name value) trees tree r = marked r path (edited (with_prop (record { name = name; value = value })) path tree)
apply (DelProp path name) trees tree r = marked r path (edited (without_prop name) path tree)
apply (Mkdir path) trees tree r = marked r path (placed path (new_dir r) tree)
apply (Delete path) trees tree r = marked r path (without path tree)
apply (Copy source rev path) trees tree r = marked r path (all_placed (copied source rev path r (tree_at trees rev)) tree)

-- the next step, unless the change didn't fit
abbrev pub unless : {X : Type 0} → Option Unfit → ℕ → Result X (ℕ × Unfit) → Result X (ℕ × Unfit)
unless None index then_ = then_
unless (Some why) index then_ = Err (index, why)

-- the tree after the changes in order, or the first that doesn't fit, counted from this number, and why
unfoldable pub apply_from : ℕ → List Change → List Tree → Tree → ℕ → Result Tree (ℕ × Unfit)
apply_from index [] trees tree r = Ok tree
apply_from index (change ∷ changes) trees tree r = unless (unfit change trees tree) index (apply_from (index + 1) changes trees (apply change trees tree r) r)
