use Rattle.std.proofs.Common.{◌≡◌, length}
use Rattle.dsv_base.specs.TextFiles.{without_front}
use Rattle.dsv_base.proofs.text_files.without_front.Given as goal

-- what is left decides
abbrev pub invariant-front : goal.invariant-front
invariant-front l = without_front l.rest ≡ without_front l.fn.text

abbrev pub decreases-front : goal.decreases-front
decreases-front l = length l.rest
