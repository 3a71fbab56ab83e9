use Rattle.davsvn_run.specs.Commands.{FileNames}
use Rattle.davsvn_run.proofs.RunLemmas.{served_at}
use Rattle.davsvn_run.proofs.pipe.pipe.Goals as goal

pub returns-in-Ok-serve-clause-says : goal.returns-in-Ok-serve-clause-says
returns-in-Ok-serve-clause-says g c =
    let names : FileNames = record { script = c.args.names.script.now; rules = c.args.names.rules.now; users = c.args.names.users.now } in
    rw c.end_of_serving.ensures
    (served_at _ _ _ c.world.view_is _ _ _ names _ c.in-Ok.ensures.says c.in-Ok-serve.ended c.in-Ok-serve.ensures)
