use Rattle.tree_edits.proofs.Lists.{added_is}
use Rattle.tree_edits.proofs.store.Store.add.Goals as goal

pub returns-clause-done : goal.returns-clause-done
returns-clause-done c = added_is (λ k. k.items) c.args.path.now c.self.inside.map.entries c.insert.new.self.entries c.args.self.now c.self.view_is c.in_ok-key.key c.args.edit c.in_ok-key.ensures.items c.in_ok-insert.ensures.entries
