use Rattle.http_front.proofs.Laws.{part_size}
use Rattle.http_front.proofs.message_laws.part_is_within.Goals as goal

pub returns : goal.returns
returns c = part_size
