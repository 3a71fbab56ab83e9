use Rattle.change_table.proofs.KeyedRows.{row_found}
use Rattle.change_table.proofs.table.ChangeTable.row_at.Goals as goal

pub returns : goal.returns
returns c = row_found (λ k. k.items) c.args.path.now c.self.inside.rows.entries c.args.self.now c.self.view_is _ c.get.ensures.value
