use Rattle.std.proofs.Common.{◌≡◌, ◌++◌, take}
use Rattle.std.specs.List.{flat_map}
use Rattle.rev_scripts.specs.Written.{change_text}
use Rattle.rev_scripts.proofs.writer.put_changes.Given as goal

-- those so far were put
abbrev pub invariant-changes : goal.invariant-changes
invariant-changes l = l.out.items ≡ l.fn.out.items ++ flat_map change_text (take l.change-index l.changes)
