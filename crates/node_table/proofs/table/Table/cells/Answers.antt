use Rattle.std.proofs.Common.{subst}
use Rattle.node_table.specs.Tables.{IsSoundTable}
use Rattle.node_table.specs.Rooms.{RoomyTable}
use Rattle.node_table.proofs.table.Table.cells.Goals as goal

pub returns-clause-sound : goal.returns-clause-sound
returns-clause-sound c = subst (λ (t : RoomyTable). IsSoundTable t.cells) c.self.view_is c.self.invariant
