-- How paths changed, told by the kinds of what stood there before and stands there now.
use Rattle.std.specs.Prelude.{ℕ, Bool, true, false, List, Option, None, Some, is_some}
use Rattle.std.specs.Option.{option_map}
use Rattle.rev_nodes.specs.declared.cell.Cell.{Cell}
use Rattle.rev_nodes.specs.declared.changed.Changed.{Changed}
use Rattle.rev_nodes.specs.declared.kind.Kind.{Kind}
use Rattle.rev_nodes.specs.declared.mark.Mark.TheVariants.{Added, Modified, Deleted, Replaced}
use Rattle.change_table.specs.ChangeTables.{LastChanges, ChangeTable, deleted, source_of}
use Rattle.node_table.specs.Ways.{names_in}
use Rattle.node_table.specs.Tables.{cell_at, reach}
use Rattle.tree_edits.specs.Edits.{EditedTree, held}

-- the kind of what a root shows at a path
abbrev pub kind_before : List Cell → ℕ → List ℕ → Option Kind
kind_before cells root path = option_map (λ id. (cell_at cells id).node.kind) (reach cells (Some root) (names_in path))

-- the kind of what edits show at a path
abbrev pub kind_after : List Cell → EditedTree → List ℕ → Option Kind
kind_after cells edits path = option_map (λ here. here.node.kind) (held cells edits (names_in path))

-- a path at which a node is before and after
abbrev pub kept_kind : List ℕ → Option (List ℕ × ℕ) → Kind → Bool → Changed
kept_kind path source now true = record { path = path; mark = Replaced; kind = now; source = source }
kept_kind path source now false = record { path = path; mark = Modified; kind = now; source = None }

-- a path, by the kinds there before and after, whether it was deleted, and its source
abbrev pub changed_kind : List ℕ → Bool → Option (List ℕ × ℕ) → Option Kind → Option Kind → Option Changed
changed_kind path delete source None None = None
changed_kind path delete source None (Some now) = Some (record { path = path; mark = Added; kind = now; source = source })
changed_kind path delete source (Some was) None = Some (record { path = path; mark = Deleted; kind = was; source = None })
changed_kind path delete source (Some was) (Some now) = Some (kept_kind path source now delete)

-- how a path changed that the table of changes names, from the tree of the root to that of the edits
abbrev pub changed_between : ChangeTable → List Cell → ℕ → EditedTree → List ℕ → Option Changed
changed_between table cells root edits path = changed_kind path (is_some (deleted table path)) (source_of table path) (kind_before cells root path) (kind_after cells edits path)

-- the same of a row of the table
abbrev pub row_between : ChangeTable → List Cell → ℕ → EditedTree → List ℕ × LastChanges → Option Changed
row_between table cells root edits row = changed_between table cells root edits row.0
