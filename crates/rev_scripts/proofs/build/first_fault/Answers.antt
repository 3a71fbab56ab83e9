use Rattle.rev_trees.specs.Readies.{revisions_of}
use Rattle.rev_scripts.specs.Scripts.{commit_of}
use Rattle.rev_scripts.proofs.ReadRevisions.{fits_first, unfit_first}
use Rattle.rev_scripts.proofs.build.first_fault.Goals as goal
use Rattle.rev_scripts.proofs.build.first_fault.Goals.{in-Ok, in-Err}

pub returns-after-prepare_told : goal.returns-after-prepare_told
returns-after-prepare_told c = elim c.match-prepare_told.branch [
  | in-Ok w ↦ fits_first c.args.told.lines (revisions_of c.args.trees.now) (commit_of c.args.author c.args.moment c.args.told) _ c.in-BadScript.line c.args.fault _ c.in-BadScript.is w.result-is w.in-Ok.ensures.says.1
  | in-Err w ↦ unfit_first c.args.told.lines (commit_of c.args.author c.args.moment c.args.told) c.args.trees.now c.prepare_told.new.trees c.in-BadScript.line c.args.fault w.in-Err.unfit _ c.in-BadScript.is w.result-is w.in-Err.ensures.says
]
