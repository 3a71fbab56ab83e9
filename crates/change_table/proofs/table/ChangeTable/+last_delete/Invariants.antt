use Rattle.std.proofs.Common.{length}
use Rattle.change_table.proofs.table.ChangeTable.+last_delete.Given as goal

-- a parent's text is shorter
abbrev pub decreases-last_delete : goal.decreases-last_delete
decreases-last_delete l = length l.path.now
