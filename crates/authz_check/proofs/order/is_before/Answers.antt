use Rattle.std.proofs.Common.{◌++◌, Some, sym, ap, ◌∙◌}
use Rattle.std.specs.Ordering.{is_lt}
use Rattle.std.proofs.lemmas.Bool.Decides.{Decides-eqb}
use Rattle.std.proofs.lemmas.Slice.Eq.{strip_prefix_is}
use Rattle.authz_check.proofs.Ordered.{order, order-front, order-other}
use Rattle.authz_check.proofs.order.is_before.Goals as goal

pub returns-in-Some : goal.returns-in-Some
returns-in-Some c =
    let split = strip_prefix_is Decides-eqb c.args.text.now c.args.front.now (Some c.in-Some.rest) c.in-Some.ensures.cases in
    c.is_lt.ensures ∙ ap is_lt (c.cmp.ensures ∙ sym (order-front c.args.front.now c.in-Some.rest.now c.args.tail.now) ∙ ap (λ t. order t (c.args.front.now ++ c.args.tail.now)) (sym split))

pub returns-in-None : goal.returns-in-None
returns-in-None c = c.is_lt-in-None.ensures ∙ ap is_lt (c.cmp-in-None.ensures ∙ sym (order-other c.args.text.now c.args.front.now c.args.tail.now c.in-None.ensures.cases))
