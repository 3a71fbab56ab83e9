use Rattle.http_front.proofs.Laws.{whole_stable}
use Rattle.http_front.proofs.message_laws.whole_stays.Goals as goal

pub returns : goal.returns
returns c = whole_stable
