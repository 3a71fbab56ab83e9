use Rattle.std.proofs.Common.{◌≡◌, length}
use Rattle.dsv_base.specs.Paths.{has_noncharacter}
use Rattle.dsv_base.proofs.text.has_noncharacter_bytes.Given as goal

-- what is left decides
abbrev pub invariant-bytes : goal.invariant-bytes
invariant-bytes l = has_noncharacter l.rest ≡ has_noncharacter l.fn.text

abbrev pub decreases-bytes : goal.decreases-bytes
decreases-bytes l = length l.rest
