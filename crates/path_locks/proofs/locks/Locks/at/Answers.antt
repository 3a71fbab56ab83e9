use Rattle.path_locks.proofs.Maps.{lock_found}
use Rattle.path_locks.proofs.locks.Locks.at.Goals as goal

pub returns : goal.returns
returns c = lock_found (λ k. k.items) c.args.path.now c.self.inside.map.entries c.args.self.now c.self.view_is _ (rw c.text.ensures.text at c.get.ensures.value)
