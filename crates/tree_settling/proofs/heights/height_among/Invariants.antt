use Rattle.std.proofs.Common.{◌≡◌, ◌++◌, drop}
use Rattle.node_table.specs.Heights.{higher}
use Rattle.node_table.specs.Tables.{height_over}
use Rattle.tree_settling.proofs.heights.height_among.Given as goal

-- the height so far, with that of the entries that are left
abbrev pub invariant-entries : goal.invariant-entries
invariant-entries l = higher l.height (height_over (l.cells ++ l.more) (drop l.entry-index l.entries)) ≡ height_over (l.cells ++ l.more) l.entries
