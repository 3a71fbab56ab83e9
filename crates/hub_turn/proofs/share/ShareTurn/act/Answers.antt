use Rattle.std.proofs.Common.{◌∙◌, sym, ap, subst}
use Rattle.hub_turn.specs.Holding.{MayGive}
use Rattle.hub_turn.specs.Passes.{PassState}
use Rattle.hub_turn.proofs.Passing.{may_act}
use Rattle.hub_turn.proofs.share.ShareTurn.act.Goals as goal

pub give_hub-requires-clause-may : goal.give_hub-requires-clause-may
give_hub-requires-clause-may g c =
    subst (MayGive g.H.Core.told c.take_hub-hub.new.seat.me c.act-answer.new.self) (sym c.from.ensures)
    (may_act g.H.Core.told c.self.inside.seat.me.0 c.self.inside.number c.self.inside.count c.take_hub-hub.new.seat.me c.take_hub-hub.result c.act-answer.new.self c.args.call.now c.act-answer.result
    c.self.invariant.3 c.take_hub-hub.ensures.holds (c.requires.pass ∙ sym (ap (λ (p : PassState). p.number) c.self.view_is))
    c.act-answer.ensures.acted c.act-answer.ensures.opening c.act-answer.ensures.first)
