use Rattle.std.proofs.Common.{sym, ◌∙◌}
use Rattle.node_table.proofs.Growing.{child_within}
use Rattle.tree_edits.proofs.glancing.table_sight.Goals as goal

pub cell_of-cell-requires : goal.cell_of-cell-requires
cell_of-cell-requires c = child_within c.args.cells.now c.requires.sound c.args.name.now c.in-Some.id c.in-Some-child_at.child (c.requires.under c.in-Some.id c.in-Some.is) (sym c.child_at.ensures ∙ c.in-Some-child_at.is)
