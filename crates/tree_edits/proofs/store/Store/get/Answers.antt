use Rattle.tree_edits.proofs.Lists.{got}
use Rattle.tree_edits.proofs.store.Store.get.Goals as goal

pub returns : goal.returns
returns c = got (λ k. k.items) c.args.path.now c.self.inside.map.entries c.self.inside.map.entries c.args.self.now c.self.view_is _ c.get.ensures.value
