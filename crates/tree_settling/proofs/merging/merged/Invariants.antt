use Rattle.std.proofs.Common.{◌≡◌, ◌++◌, drop}
use Rattle.std.specs.Prelude.{IsTrue}
use Rattle.node_table.specs.Tables.{entries_rise}
use Rattle.tree_settling.specs.Merged.{TellsHeight}
use Rattle.tree_settling.proofs.Merges.{zipped}
use Rattle.tree_settling.proofs.merging.merged.Given as goal

-- what is merged so far, and what the rest comes to, is all; a height that is told is that of both
abbrev pub invariant-changes : goal.invariant-changes
invariant-changes l = record {
  all : l.all.items ++ zipped (drop l.change-index l.changes) l.rest ≡ zipped l.changes l.kept.entries;
  rise : IsTrue (entries_rise l.rest);
  height : TellsHeight (l.cells ++ l.more) (l.all.items ++ l.rest) l.height;
}
