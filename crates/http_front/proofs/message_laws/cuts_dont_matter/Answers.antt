use Rattle.http_front.proofs.Cuttings.{run_messages}
use Rattle.http_front.proofs.message_laws.cuts_dont_matter.Goals as goal

pub returns : goal.returns
returns c = run_messages
