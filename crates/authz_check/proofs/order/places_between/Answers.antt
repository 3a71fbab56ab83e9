use Rattle.std.proofs.Common.{◌++◌}
use Rattle.std.specs.Ordering.{is_lt}
use Rattle.authz_check.specs.Order.{rule_path}
use Rattle.authz_check.proofs.Ordered.{order, between}
use Rattle.authz_check.proofs.order.places_between.Goals as goal

pub returns : goal.returns
returns c =
    between
    (λ place. is_lt (order (rule_path c.args.rules.now place) (c.args.front.now ++ c.args.low.now)))
    (λ place. is_lt (order (rule_path c.args.rules.now place) (c.args.front.now ++ c.args.high.now)))
    c.args.places.now c.count_before-start.result c.count_before-end.result c.count_before-start.ensures.parted c.count_before-end.ensures.parted
