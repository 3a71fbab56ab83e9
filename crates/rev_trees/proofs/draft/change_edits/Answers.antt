use Rattle.rev_trees.proofs.Drafting.{change_says}
use Rattle.rev_trees.proofs.draft.change_edits.Goals as goal

pub returns-clause-says : goal.returns-clause-says
returns-clause-says c =
    change_says c.args.cells.now c.args.revisions.now c.requires.kept c.args.change.now c.args.edits.now c.apply.new.self c.coming.result c.coming.ensures c.source_root-from.result c.source_root-from.ensures c.apply.result c.apply.ensures.says
