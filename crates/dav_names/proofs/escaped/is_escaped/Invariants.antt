use Rattle.std.proofs.Common.{◌≡◌, length}
use Rattle.dav_names.specs.Escaped.{is_escaped}
use Rattle.dav_names.proofs.escaped.is_escaped.Given as goal

-- what is left decides
abbrev pub invariant-bytes : goal.invariant-bytes
invariant-bytes l = is_escaped l.rest ≡ is_escaped l.fn.text

abbrev pub decreases-bytes : goal.decreases-bytes
decreases-bytes l = length l.rest
