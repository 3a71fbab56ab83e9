use Rattle.std.proofs.Common.{rules, ◌≡◌, ◌∙◌}
use Rattle.prop_requests.specs.Levels.{level_in, IsKnown}
use Rattle.prop_requests.proofs.Showing.{known_among}
use Rattle.prop_requests.proofs.telling.Telling.known.Goals as goal

pub returns : goal.returns
returns c =
    let same : c.in_ok-known.known.now.rev ≡ c.args.rev = search rules in
    let known : IsKnown c.self.inside.sight.now c.in_ok-known.known.now = known_among c.self.inside.sight.now c.self.inside.levels.entries c.in_ok-known.known.now c.self.invariant c.in_ok-known.ensures.member in
    known ∙ (λ i. level_in (c.self.view_is i).sight (same i))
