use Rattle.std.proofs.Common.{◌∙◌, sym}
use Rattle.dav_machine.specs.Chains.{permitted}
use Rattle.dav_machine.proofs.Refused.{decided}
use Rattle.dav_machine.proofs.laws.refused_alike.Goals as goal

pub returns : goal.returns
returns c = λ one other request refusal moment later kept held name rules refused.
    decided one request refusal moment kept refused
    ∙ sym (decided other request refusal later held ((λ i. permitted (sym name i) (sym rules i) request) ∙ refused))
