use Rattle.std.proofs.Common.{◌≡◌, ◌++◌, length}
use Rattle.std.specs.List.{filter_map}
use Rattle.std.specs.Vec.Iter.{into_iter_items, into_iter_len}
use Rattle.rev_trees.specs.ChangedKinds.{row_between}
use Rattle.rev_trees.proofs.changed_list.changed_in.Given as goal

-- the changed paths so far, and those of the rows that are left, are all
abbrev pub invariant-rows : goal.invariant-rows
invariant-rows l = record {
  few : into_iter_len l.row-iterator ≡ length (into_iter_items l.row-iterator);
  all : l.list.items ++ filter_map (row_between l.table l.cells l.root l.edits) (into_iter_items l.row-iterator) ≡ filter_map (row_between l.table l.cells l.root l.edits) l.table;
}
