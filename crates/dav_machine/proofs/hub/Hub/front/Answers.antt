use Rattle.std.proofs.Common.{◌≡◌, arith, ◌∙◌, sym, length}
use Rattle.dav_machine.specs.Hubs.{entries_by_events}
use Rattle.dav_machine.proofs.Acting.{length-entries}
use Rattle.dav_machine.proofs.hub.Hub.front.Goals as goal

pub returns-clause-count : goal.returns-clause-count
returns-clause-count g c =
    let events = c.self.inside.history.items in
    let counted : c.len.result ≡ length events = omega (arith, c.len.ensures) in
    counted
    ∙ sym (length-entries events c.self.inside.names.items c.self.invariant.0)
    ∙ (λ i. length (c.self.view_is i).history)

pub returns-clause-bound : goal.returns-clause-bound
returns-clause-bound g c =
    let events = c.self.inside.history.items in
    let names = c.self.inside.names.items in
    let same = length-entries events names c.self.invariant.0 in
    let shown : length (entries_by_events events names) ≡ length c.args.self.now.history = λ i. length (c.self.view_is i).history in
    let sized = c.self.inside.history.ok.0 in
    let within = c.self.inside.history.ok.1 in
    let small = c.self.inside.history.small in
    omega (arith, same, shown, sized, within, small)
