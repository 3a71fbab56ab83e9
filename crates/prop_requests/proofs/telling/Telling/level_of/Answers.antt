use Rattle.prop_requests.proofs.Showing.{known_more}
use Rattle.prop_requests.proofs.telling.Telling.level_of.Goals as goal

pub invariant_of-self-2 : goal.invariant_of-self-2
invariant_of-self-2 c = known_more _ c.self.inside.sight.now c.self.inside.levels.entries c.insert.new.self.entries _ _ c.in_ok-insert.ensures.entries c.self.invariant c.level_of-level.ensures
