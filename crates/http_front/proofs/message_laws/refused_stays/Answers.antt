use Rattle.http_front.proofs.Laws.{refused_stable}
use Rattle.http_front.proofs.message_laws.refused_stays.Goals as goal

pub returns : goal.returns
returns c = refused_stable
