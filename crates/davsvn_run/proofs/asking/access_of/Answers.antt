use Rattle.davsvn_run.specs.Words.{question_in}
use Rattle.davsvn_run.proofs.RunLemmas.{asked_at}
use Rattle.davsvn_run.proofs.asking.access_of.Goals as goal

pub returns-clause-says : goal.returns-clause-says
returns-clause-says g c =
    let told = rw (c.right_by-right.ensures, c.in-Ok-new.ensures) at c.tell-end.ensures in
    let sink = c.tell-end.new.sink in
    asked_at _ _ c.world.view_is sink (g.K.Sink.taken sink) (g.K.Sink.faults sink) (g.F.Files.faults c.open_rules.new.files) (question_in c.args.question) c.args.path.now c.in-Ok.rules c.in-Ok.ensures.bytes c.tell-end.result told
