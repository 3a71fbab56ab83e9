use Rattle.tree_edits.proofs.Outcomes.{does_are, does_few, does_kept, does_says}
use Rattle.tree_edits.proofs.edits.Edits.apply.Goals as goal

pub returns : goal.returns
returns c = record {
  are = does_are c.args.rev c.args.change.now c.args.cells.now c.args.self.now c.change.new.self c.args.from c.requires.are c.change.result c.change.ensures;
  says = does_says c.args.rev c.args.change.now c.args.cells.now c.args.self.now c.change.new.self c.args.from c.change.result c.change.ensures;
  few = does_few c.args.rev c.args.change.now c.args.cells.now c.args.self.now c.change.new.self c.args.from c.change.result c.change.ensures;
  kept = does_kept c.args.rev c.args.change.now c.args.cells.now c.args.self.now c.change.new.self c.args.from c.change.result c.change.ensures;
}
