use Rattle.std.proofs.Common.{List, ◌++◌, sym, ap, subst, ◌∙◌}
use Rattle.rev_nodes.specs.declared.cell.Cell.{Cell}
use Rattle.node_table.specs.Tables.{IsSoundTable}
use Rattle.node_table.specs.Rooms.{RoomyTable}
use Rattle.node_table.proofs.table.Table.append.Goals as goal

pub invariant_of-self : goal.invariant_of-self
invariant_of-self c = subst (λ (xs : List Cell). IsSoundTable xs) (ap (λ (t : RoomyTable). t.cells ++ c.args.cells.items) (sym c.self.view_is) ∙ sym c.in-Ok.ensures.items) c.requires.sound
