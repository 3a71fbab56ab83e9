use Rattle.std.proofs.Common.{sym}
use Rattle.change_table.proofs.KeyedRows.{rows_at_paths}
use Rattle.change_table.proofs.table.ChangeTable.rows.Goals as goal

pub returns : goal.returns
returns c = rw (sym c.self.view_is, sym (rows_at_paths (λ k. k.items) c.self.inside.rows.entries c.self.invariant)) c.rows_in.ensures
