use Rattle.std.proofs.Common.{◌∙◌, ap}
use Rattle.path_locks.specs.LockStates.{lock_at}
use Rattle.prop_requests.specs.Sights.{SightState, sees}
use Rattle.prop_requests.proofs.Showing.{lock_shown}
use Rattle.prop_requests.proofs.sight.Sight.lock_at.Goals as goal

pub returns : goal.returns
returns c = c.at.ensures ∙ ap (λ (s : SightState). lock_at c.args.path.now s.locks) c.self.view_is ∙ lock_shown (sees c.args.self.now) c.args.self.now.locks c.args.path.now c.requires
