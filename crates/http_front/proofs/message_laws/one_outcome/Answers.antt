use Rattle.http_front.proofs.Laws.{first_unique}
use Rattle.http_front.proofs.message_laws.one_outcome.Goals as goal

pub returns : goal.returns
returns c = first_unique
