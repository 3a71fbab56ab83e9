use Rattle.std.proofs.Common.{◌≡◌, length}
use Rattle.dsv_base.specs.Paths.{before_last_slash}
use Rattle.dsv_base.proofs.parent.before_last_slash.Given as goal

-- what was passed held no `/`
abbrev pub invariant-back : goal.invariant-back
invariant-back l = before_last_slash l.front ≡ before_last_slash l.fn.path

abbrev pub decreases-back : goal.decreases-back
decreases-back l = length l.front
