use Rattle.tree_edits.proofs.Lists.{removed_is}
use Rattle.tree_edits.proofs.store.Store.remove.Goals as goal

pub returns : goal.returns
returns c = removed_is (λ k. k.items) c.args.path.now c.self.inside.map.entries c.remove.new.self.entries c.args.self.now c.self.view_is c.remove.ensures.entries
