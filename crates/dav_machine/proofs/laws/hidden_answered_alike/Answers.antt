use Rattle.std.proofs.Common.{◌∙◌, sym}
use Rattle.dav_machine.specs.Chains.{permitted}
use Rattle.dav_machine.proofs.HiddenPaths.{hidden_refused}
use Rattle.dav_machine.proofs.Refused.{decided}
use Rattle.dav_machine.proofs.laws.hidden_answered_alike.Goals as goal

pub returns : goal.returns
returns c = λ one other request path moment later kept held method name rules asked hidden.
    let found = hidden_refused one.repository.name one.rules path request asked hidden in
    decided one request found.0 moment kept found.1
    ∙ sym (decided other request found.0 later held ((λ i. permitted (sym name i) (sym rules i) request) ∙ found.1))
