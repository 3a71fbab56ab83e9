use Rattle.dav_machine.proofs.Refused.{by_view}
use Rattle.dav_machine.proofs.laws.read_by_the_view.Goals as goal

pub returns : goal.returns
returns c = λ state request moment kept reading. by_view state request moment kept
