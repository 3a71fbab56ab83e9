use Rattle.std.proofs.Common.{◌≡◌, ◌++◌}
use Rattle.change_table.specs.Rows.{rows_in}
use Rattle.change_table.proofs.table.rows_in.Given as goal

-- what was listed, and what is left, is all
abbrev pub invariant-rows : goal.invariant-rows
invariant-rows l = l.all.items ++ rows_in l._key-iterator ≡ rows_in l.rows.entries
