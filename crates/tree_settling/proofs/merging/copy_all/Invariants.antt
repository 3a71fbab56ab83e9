use Rattle.std.proofs.Common.{◌≡◌, ◌++◌, take}
use Rattle.tree_settling.proofs.merging.copy_all.Given as goal

abbrev pub invariant-entries : goal.invariant-entries
invariant-entries l = l.all.items ≡ l.fn.all.items ++ take l.entry-index l.entries
