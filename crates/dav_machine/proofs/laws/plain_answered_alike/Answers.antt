use Rattle.dav_machine.proofs.Agents.{answered_alike, written_alike, sent_alike}
use Rattle.dav_machine.proofs.laws.plain_answered_alike.Goals as goal

pub returns : goal.returns
returns c = λ state request moment kept plain. (answered_alike state request moment kept plain, λ reply. written_alike reply request, sent_alike request plain)
