use Rattle.std.proofs.Common.{◌≡◌, ◌++◌, length}
use Rattle.std.specs.FinMap.{put}
use Rattle.std.specs.Ordering.{nat_cmp}
use Rattle.std.specs.Cmp.Lexicographic.{slice_cmp}
use Rattle.prop_values.proofs.dead.with_value.Given as goal

-- what was made, and then the rest with the value in it
abbrev pub invariant-lower : goal.invariant-lower
invariant-lower l = l.made.items ++ put (slice_cmp nat_cmp) l.name l.value l.rest ≡ put (slice_cmp nat_cmp) l.name l.value l.fn.values

abbrev pub decreases-lower : goal.decreases-lower
decreases-lower l = length l.rest
