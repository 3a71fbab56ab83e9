use Rattle.std.proofs.Common.{◌∙◌, sym}
use Rattle.dav_machine.specs.Hubs.{events_of}
use Rattle.dav_machine.proofs.Acting.{events_of-entries}
use Rattle.dav_machine.proofs.hub.Hub.history.Goals as goal

pub returns : goal.returns
returns g c =
    c.as_slice.ensures.value
    ∙ sym (events_of-entries c.self.inside.history.items c.self.inside.names.items c.self.invariant.0)
    ∙ (λ i. events_of (c.self.view_is i).history)
