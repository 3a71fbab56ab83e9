use Rattle.http_front.proofs.OneReading.{messages_same}
use Rattle.http_front.proofs.message_laws.one_reading.Goals as goal

pub returns : goal.returns
returns c = messages_same
