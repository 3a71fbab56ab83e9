use Rattle.std.proofs.Common.{◌≡◌, length}
use Rattle.dsv_base.specs.TextFiles.{without_back}
use Rattle.dsv_base.proofs.text_files.without_back.Given as goal

-- what is left decides
abbrev pub invariant-back : goal.invariant-back
invariant-back l = without_back l.rest ≡ without_back l.fn.text

abbrev pub decreases-back : goal.decreases-back
decreases-back l = length l.rest
