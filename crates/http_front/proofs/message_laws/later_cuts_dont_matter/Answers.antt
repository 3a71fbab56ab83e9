use Rattle.http_front.proofs.Cuttings.{run_comes}
use Rattle.http_front.proofs.message_laws.later_cuts_dont_matter.Goals as goal

pub returns : goal.returns
returns c = run_comes
