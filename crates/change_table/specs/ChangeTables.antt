-- Changed paths in a form that one pass makes: a table of what the changes say of each path that they name,
-- and then, for each of these, a look at its ancestors in the table.
use Rattle.std.specs.Prelude.{ℕ, ◌+◌, ◌≡◌, Bool, true, false, List, [], ◌∷◌, Option, None, Some, is_some, nat_lt, IsTrue, if◌then◌else◌}
use Rattle.std.specs.List.{filter_map, All}
use Rattle.std.specs.FinMap.{put, find}
use Rattle.std.specs.Ordering.{nat_cmp}
use Rattle.std.specs.Cmp.Lexicographic.{slice_cmp}
use Rattle.rev_nodes.specs.declared.change.Change.{Change}
use Rattle.rev_nodes.specs.declared.change.Change.TheVariants.{Put, SetProp, DelProp, Mkdir, Delete, Copy}
use Rattle.rev_nodes.specs.declared.changed.Changed.{Changed}
use Rattle.rev_nodes.specs.declared.mark.Mark.TheVariants.{Added, Modified, Deleted, Replaced}
use Rattle.dsv_base.specs.Paths.{is_path, ancestors}
use Rattle.rev_nodes.specs.Trees.{TreeNode, Tree, at}
use Rattle.rev_nodes.specs.ChangedPaths.{path_of, changed_paths}

-- the path that a change names is one
abbrev pub has_named_path : Change → Bool
has_named_path change = is_path (path_of change)

-- the path that a change names is one, as a fact
abbrev pub HasPath : Change → Type 0
HasPath change = IsTrue (has_named_path change)

-- the number and the source of the last copy to a path, and the number of the last delete of it
pub record LastChanges : Type 0 where
  pub copy : Option (ℕ × (List ℕ × ℕ))
  pub delete : Option ℕ

-- nothing was done to the path
abbrev pub no_last : LastChanges
no_last = record { copy = None; delete = None }

-- what was done last, after this change to the path
abbrev pub noted : ℕ → Change → LastChanges → LastChanges
noted i (Put path text) last = last
noted i (SetProp path name value) last = last
noted i (DelProp path name) last = last
noted i (Mkdir path) last = last
noted i (Delete path) last = record { copy = last.copy; delete = Some i }
noted i (Copy source rev path) last = record { copy = Some (i, (source, rev)); delete = last.delete }

-- paths in byte order, each once, with what was done last to them
abbrev pub ChangeTable : Type 0
ChangeTable = List (List ℕ × LastChanges)

-- nothing was done to a path that has no row
abbrev pub last_or : Option LastChanges → LastChanges
last_or None = no_last
last_or (Some last) = last

-- what was done last to a path
abbrev pub last_at : List ℕ → ChangeTable → LastChanges
last_at path table = last_or (find (slice_cmp nat_cmp) path table)

-- one change, of this number
abbrev pub noted_in : ℕ → Change → ChangeTable → ChangeTable
noted_in i change table = put (slice_cmp nat_cmp) (path_of change) (noted i change (last_at (path_of change) table)) table

-- the changes, of which the first has this number
abbrev pub noted_from : ℕ → List Change → ChangeTable → ChangeTable
noted_from i [] table = table
noted_from i (change ∷ changes) table = noted_from (i + 1) changes (noted_in i change table)

-- the later of two numbers
abbrev pub later : Option ℕ → Option ℕ → Option ℕ
later None b = b
later (Some a) None = Some a
later (Some a) (Some b) = Some (if nat_lt a b then b else a)

-- the last delete of one of these paths
abbrev pub deleted_in : ChangeTable → List (List ℕ) → Option ℕ
deleted_in table [] = None
deleted_in table (p ∷ ps) = later (last_at p table).delete (deleted_in table ps)

-- the last delete of the path or one above it
abbrev pub deleted : ChangeTable → List ℕ → Option ℕ
deleted table path = deleted_in table (ancestors path)

-- a copy counts that no delete follows
abbrev pub source_by : Option (ℕ × (List ℕ × ℕ)) → Option ℕ → Option (List ℕ × ℕ)
source_by None delete = None
source_by (Some copy) None = Some copy.1
source_by (Some copy) (Some delete) = if nat_lt copy.0 delete then None else Some copy.1

-- the source that a path has after the changes
abbrev pub source_of : ChangeTable → List ℕ → Option (List ℕ × ℕ)
source_of table path = source_by (last_at path table).copy (deleted table path)

-- a path at which a node is before and after
abbrev pub kept_as : List ℕ → Option (List ℕ × ℕ) → TreeNode → Bool → Changed
kept_as path source now true = record { path = path; mark = Replaced; kind = now.node.kind; source = source }
kept_as path source now false = record { path = path; mark = Modified; kind = now.node.kind; source = None }

-- a path, by the node there before and after
abbrev pub changed_as : List ℕ → Bool → Option (List ℕ × ℕ) → Option TreeNode → Option TreeNode → Option Changed
changed_as path delete source None None = None
changed_as path delete source None (Some now) = Some (record { path = path; mark = Added; kind = now.node.kind; source = source })
changed_as path delete source (Some was) None = Some (record { path = path; mark = Deleted; kind = was.node.kind; source = None })
changed_as path delete source (Some was) (Some now) = Some (kept_as path source now delete)

-- what a row of the table tells of its path
abbrev pub changed_in : ChangeTable → Tree → Tree → List ℕ × LastChanges → Option Changed
changed_in table before after entry = changed_as entry.0 (is_some (deleted table entry.0)) (source_of table entry.0) (at entry.0 before) (at entry.0 after)

-- the changed paths that the table of the changes tells
unfoldable pub changed_by_table : List Change → Tree → Tree → List Changed
changed_by_table changes before after = filter_map (changed_in (noted_from 0 changes []) before after) (noted_from 0 changes [])

-- they are the changed paths of the commit
abbrev pub TableIsChangedPaths : Type 0
TableIsChangedPaths = (changes : List Change) (before after : Tree) → All HasPath changes → changed_by_table changes before after ≡ changed_paths changes before after
