use Rattle.std.proofs.Common.{◌++◌, rules}
use Rattle.std.specs.Ordering.{is_lt}
use Rattle.std.proofs.lemmas.List.Sorted.{IsPartitionPoint-from_clause}
use Rattle.authz_check.specs.Order.{rule_path}
use Rattle.authz_check.proofs.Ordered.{order, parted_by}
use Rattle.authz_check.proofs.order.count_before.Goals as goal

pub returns-clause-parted : goal.returns-clause-parted
returns-clause-parted c =
    let text = c.args.front.now ++ c.args.tail.now in
    IsPartitionPoint-from_clause (λ place. is_lt (order (rule_path c.args.rules.now place) text)) _ _ c.partition_point.ensures.partitioned (parted_by c.args.rules.now c.args.places.now text c.requires) (λ a r q k. search rules)
