use Rattle.std.proofs.Common.{◌∙◌}
use Rattle.path_locks.proofs.Maps.{lock_put, named_put}
use Rattle.path_locks.proofs.locks.Locks.put.Goals as goal

pub invariant_of-self-2 : goal.invariant_of-self-2
invariant_of-self-2 c = named_put (λ k. k.items) c.args.lock c.self.inside.map.entries c.insert.new.self.entries c.in_ok-key.key (c.in_ok-key.ensures.items ∙ c.text.ensures.text) c.in_ok-insert.ensures.entries c.self.invariant

pub returns-clause-done : goal.returns-clause-done
returns-clause-done c = lock_put (λ k. k.items) c.args.lock c.self.inside.map.entries c.insert.new.self.entries c.in_ok-key.key (c.in_ok-key.ensures.items ∙ c.text.ensures.text) c.in_ok-insert.ensures.entries c.args.self.now c.self.view_is
