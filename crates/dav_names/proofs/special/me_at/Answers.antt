use Rattle.dav_names.proofs.Components.{me_too_long}
use Rattle.dav_names.proofs.special.me_at.Goals as goal

pub returns-in-Some : goal.returns-in-Some
returns-in-Some c = rw c.in-Some.is (me_too_long c.in-Some.field-0.now)
