use Rattle.std.proofs.Common.{◌≡◌, ◌-◌, false, get_or, length, arith}
use Rattle.std.proofs.lemmas.Bool.Decides.{nat_tests}
use Rattle.dsv_base.specs.Paths.{is_slash}
use Rattle.dsv_base.proofs.Slashes.{stops_at, goes_on}
use Rattle.dsv_base.proofs.parent.before_last_slash.Goals as goal

pub returns-then-last-eq47 : goal.returns-then-last-eq47
returns-then-last-eq47 c = stops_at c.back.front.now c.args.path.now c.in-len1-up.len_at_least c.if-last-eq47.true c.back.invariant

pub back-preserved : goal.back-preserved
back-preserved c =
    let other : is_slash (get_or c.back.front.now (length c.back.front.now - 1) 0) ≡ false = grind (arith, nat_tests) in
    goes_on c.back.front.now c.args.path.now c.in-len1-up.len_at_least other c.back.invariant
