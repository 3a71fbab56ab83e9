use Rattle.authz_check.specs.Order.{rule_path}
use Rattle.authz_check.proofs.Ordered.{not_before_itself, before_next}
use Rattle.authz_check.proofs.order.places_at.Goals as goal

pub returns : goal.returns
returns c i there same =
    c.places_between.ensures i there
    (not_before_itself c.args.path.now (rule_path c.args.rules.now i) same)
    (before_next c.args.path.now (rule_path c.args.rules.now i) same)
