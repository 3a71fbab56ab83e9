use Rattle.rev_trees.proofs.Drafting.{kept_in}
use Rattle.rev_trees.proofs.trees.Trees.kept.Goals as goal

pub returns : goal.returns
returns c = kept_in c.self.inside.name c.self.inside.uuid c.self.inside.table.cells c.self.inside.revisions.items _ _ c.args.self.now c.self.view_is c.self.invariant c.as_slice.result.now c.as_slice.ensures.value
