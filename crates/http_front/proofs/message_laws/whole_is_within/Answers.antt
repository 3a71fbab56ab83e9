use Rattle.http_front.proofs.Laws.{whole_size}
use Rattle.http_front.proofs.message_laws.whole_is_within.Goals as goal

pub returns : goal.returns
returns c = whole_size
