use Rattle.rev_trees.proofs.Drafting.{learned_fit, learned_form}
use Rattle.rev_trees.proofs.draft.Draft.learn.Goals as goal

pub returns-clause-fit : goal.returns-clause-fit
returns-clause-fit c = learned_fit c.self.inside.trees.value c.self.inside.base c.self.inside.changes.items c.self.inside.edits c.args.self.now c.self.view_is c.self.invariant c.args.trees.now c.requires c.cells-cells.ensures.sound

pub returns-clause-formed : goal.returns-clause-formed
returns-clause-formed c = learned_form c.self.inside.trees.value c.self.inside.base c.self.inside.changes.items c.self.inside.edits c.args.self.now c.self.view_is c.self.invariant c.args.trees.now c.requires c.cells-cells.ensures.sound
