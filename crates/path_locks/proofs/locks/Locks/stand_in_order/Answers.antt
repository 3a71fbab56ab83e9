use Rattle.std.proofs.Common.{subst}
use Rattle.path_locks.specs.LockStates.{StandInOrder}
use Rattle.path_locks.proofs.Maps.{in_order}
use Rattle.path_locks.proofs.locks.Locks.stand_in_order.Goals as goal

pub returns : goal.returns
returns c = subst StandInOrder c.self.view_is (in_order (λ k. k.items) c.self.inside.map.entries c.self.invariant c.len-count.ensures.ordered)
