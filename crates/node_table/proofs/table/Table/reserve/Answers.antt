use Rattle.std.proofs.Common.{List, sym, subst}
use Rattle.rev_nodes.specs.declared.cell.Cell.{Cell}
use Rattle.node_table.specs.Tables.{IsSoundTable}
use Rattle.node_table.proofs.table.Table.reserve.Goals as goal

pub invariant_of-self : goal.invariant_of-self
invariant_of-self c = subst (λ (xs : List Cell). IsSoundTable xs) (sym c.reserve.ensures.items) c.self.invariant

pub invariant_of-self-2 : goal.invariant_of-self-2
invariant_of-self-2 c = subst (λ (xs : List Cell). IsSoundTable xs) (sym c.reserve.ensures.items) c.self.invariant
