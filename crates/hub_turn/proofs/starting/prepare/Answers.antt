use Rattle.std.proofs.Common.{◌∙◌, sym, ap, length}
use Rattle.hub_turn.specs.Starts.{start_over}
use Rattle.hub_turn.proofs.Opening.{opens}
use Rattle.hub_turn.proofs.starting.prepare.Goals as goal

pub vacant-requires : goal.vacant-requires
vacant-requires g c =
    opens g.H.Core.told (start_over g.H.Core.told c.of.result.value c.args.count) c.front.result (c.requires.0) (c.requires.1)
    (c.front.ensures.count ∙ sym (ap (λ (h : g.row.H.Denot). length (g.H.Core.told h).history) c.of.ensures))
