use Rattle.std.proofs.Common.{ap, inl}
use Rattle.http_front.specs.Fronts.{FrontState, stopped}
use Rattle.http_front.proofs.RefusalLemmas.{refusal_says}
use Rattle.http_front.proofs.front.Front.stop.Goals as goal

pub returns-clause-says : goal.returns-clause-says
returns-clause-says c = λ users.
    refusal_says users c.args.self.now _ c.args.why c.self.inside.at c.refusal_next.result (ap (stopped c.args.why) c.self.view_is) (ap (λ (s : FrontState). s.at) c.self.view_is) c.refusal_next.ensures.value
    (inl (record { is_open = c.requires.open; first = c.requires.first users c.args.self.now.number }))
