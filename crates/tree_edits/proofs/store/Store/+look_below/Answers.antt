use Rattle.std.proofs.Common.{◌∙◌, sym}
use Rattle.tree_edits.proofs.StepsDown.{none_below}
use Rattle.tree_edits.proofs.store.Store.+look_below.Goals as goal

pub returns-in-None-2 : goal.returns-in-None-2
returns-in-None-2 t c = none_below c.args.cells.now c.args.self.now c.args.text.now c.args.path.now c.args.rest.now c.in-Some.name.now c.in-Some.next.now c.in-Some.after.now c.args.above.now c.in-Some.ensures (sym c.in-None-2.is ∙ c.in_ok-child-in-Some.ensures.place)
