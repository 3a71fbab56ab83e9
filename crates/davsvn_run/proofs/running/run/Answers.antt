use Rattle.davsvn_run.specs.Commands.{command}
use Rattle.davsvn_run.proofs.RunLemmas.{run_says, reached_after}
use Rattle.davsvn_run.proofs.WholeRuns.{whole_after}
use Rattle.davsvn_run.proofs.running.run.Goals as goal

pub returns-clause-says : goal.returns-clause-says
returns-clause-says g c =
    run_says c.args.world _ _ c.world.view_is _ _ _ (command c.args.words.now) _ c.work-end.result.0 c.status_of.ensures c.work-end.ensures.unreported c.work-end.ensures.says c.put_line.ensures.line c.put_line.ensures.quiet

pub returns-clause-reached : goal.returns-clause-reached
returns-clause-reached g c =
    reached_after c.args.world _ _ c.world.view_is (command c.args.words.now) c.work-end.result.0 c.work-end.ensures.says

pub returns-clause-complete : goal.returns-clause-complete
returns-clause-complete g c = λ whole no_fault.
    rw c.status_of.ensures (whole_after c.args.world _ _ c.world.view_is (command c.args.words.now) c.work-end.result.0 whole no_fault c.work-end.ensures.says)
