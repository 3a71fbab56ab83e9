use Rattle.std.proofs.Common.{◌≡◌, length}
use Rattle.dav_reading.specs.Heads.{after_white}
use Rattle.dav_reading.proofs.heads.after_white.Given as goal

abbrev pub invariant-white : goal.invariant-white
invariant-white l = after_white l.rest ≡ after_white l.fn.text

abbrev pub decreases-white : goal.decreases-white
decreases-white l = length l.rest
