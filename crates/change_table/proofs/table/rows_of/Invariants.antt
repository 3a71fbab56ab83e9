use Rattle.std.proofs.Common.{◌≡◌, IsTrue, [], take, drop}
use Rattle.std.specs.List.{list_all}
use Rattle.change_table.specs.ChangeTables.{noted_from, has_named_path}
use Rattle.change_table.specs.Rows.{table_in, are_at_paths}
use Rattle.change_table.proofs.table.rows_of.Given as goal

-- what was noted so far, and the changes that are left, make the table
abbrev pub invariant-changes : goal.invariant-changes
invariant-changes l = record {
  number : l.number ≡ l.change-index;
  named : IsTrue (are_at_paths (λ k. k.items) l.rows.entries);
  left : noted_from l.number (drop l.change-index l.changes) (table_in (λ k. k.items) l.rows.entries) ≡ noted_from 0 l.changes [];
  paths : IsTrue (list_all has_named_path (take l.change-index l.changes));
}
