use Rattle.std.proofs.Common.{rules, ◌≡◌}
use Rattle.std.specs.Ordering.{is_lt}
use Rattle.std.specs.Cmp.Lexicographic.{nat_list_cmp_total}
use Rattle.std.proofs.lemmas.List.Sorted.{ranks_by}
use Rattle.std.proofs.lemmas.Fn.{always_returns_same}
use Rattle.authz_check.specs.Order.{rule_path}
use Rattle.authz_check.proofs.Ordered.{order}
use Rattle.authz_check.proofs.order.sort_places.Goals as goal

pub returns-clause-rising : goal.returns-clause-rising
returns-clause-rising c =
    c.sort_unstable_by.ensures.sorted (λ a b. is_lt (order (rule_path c.args.rules.now a) (rule_path c.args.rules.now b)))
    (ranks_by nat_list_cmp_total (rule_path c.args.rules.now))
    (always_returns_same _ (λ a r. is_lt r ≡ is_lt (order (rule_path c.args.rules.now a.0.now) (rule_path c.args.rules.now a.1.0.now))) _ (λ a r after called. search rules))
