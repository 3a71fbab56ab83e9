use Rattle.tree_edits.proofs.Glances.{no_glance}
use Rattle.tree_edits.proofs.store.Store.+glance_below.Goals as goal

pub returns-in-None-sight-2 : goal.returns-in-None-sight-2
returns-in-None-sight-2 t c = λ here is. no_glance c.args.cells.now c.args.self.now c.args.text.now c.args.path.now c.args.rest.now c.in-Some.name.now c.in-Some.next.now c.in-Some.after.now c.in-Some.ensures here (c.in-None-sight-2.ensures.sight here is)
