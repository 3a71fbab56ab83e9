use Rattle.std.proofs.Common.{List, sym, subst}
use Rattle.rev_nodes.specs.declared.cell.Cell.{Cell}
use Rattle.node_table.specs.Tables.{IsSoundTable}
use Rattle.node_table.proofs.table.Table.look.Goals as goal

pub place_at-requires-clause-sound : goal.place_at-requires-clause-sound
place_at-requires-clause-sound c = subst (λ (xs : List Cell). IsSoundTable xs) (sym c.as_slice.ensures.value) c.self.invariant
