use Rattle.std.proofs.Common.{rules, ◌≡◌, length, slice_index_or, subst}
use Rattle.dav_serve.specs.SideBySide.{BecameStation}
use Rattle.dav_serve.proofs.EachTwo.{of_each_two}
use Rattle.dav_serve.proofs.side_by_side.serve_all.Goals as goal

pub returns : goal.returns
returns g c =
    let T = g.T.Turn in
    let D = g.D.Door in
    let became = BecameStation T.opening T.pass T.origin T.front D.state D.faults g.C.Clock.readings c.args.users.now in
    let count : length c.for_each_mut.new.s ≡ length c.args.stations.now = search rules in
    of_each_two became c.args.stations.now c.for_each_mut.new.s count
    (λ i d below. let change = (c.for_each_mut.ensures i d below).1 in
    let call : became change.argument.now change.after_call.now = search rules in
    subst (λ x. became x (slice_index_or c.for_each_mut.new.s i d)) change.argument_is (subst (λ y. became change.argument.now y) change.left call))
