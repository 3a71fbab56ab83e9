use Rattle.std.proofs.Common.{◌≡◌, length}
use Rattle.dav_names.specs.Targets.{from_slash}
use Rattle.dav_names.proofs.absolute.from_slash.Given as goal

-- what was passed is no `/`
abbrev pub invariant-bytes : goal.invariant-bytes
invariant-bytes l = from_slash l.rest ≡ from_slash l.fn.text

abbrev pub decreases-bytes : goal.decreases-bytes
decreases-bytes l = length l.rest
