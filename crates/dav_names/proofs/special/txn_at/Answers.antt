use Rattle.std.proofs.Common.{ap, ◌∷◌, ◌∙◌}
use Rattle.std.specs.Option.{option_copied}
use Rattle.dav_names.specs.Reading.{parts_left}
use Rattle.dav_names.proofs.Components.{txn_too_long}
use Rattle.dav_names.proofs.special.txn_at.Goals as goal

pub returns-in_default-Some : goal.returns-in_default-Some
returns-in_default-Some c = rw c.in-Some.is (txn_too_long c.in-Some.text.now c.first_part.result.0.now c.in_default-Some.field-0-1.now (c.first_part.ensures ∙ ap (λ rest. c.first_part.result.0.now ∷ parts_left (option_copied rest)) c.in_default-Some.is-1))
