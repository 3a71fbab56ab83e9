use Rattle.std.proofs.Common.{rules, ◌≡◌, ◌∙◌, ap, subst, List, length, []}
use Rattle.dav_serve.specs.SideBySide.{BecameStation, OfEachTwo}
use Rattle.dav_serve.specs.Stations.{turn_of, door_of}
use Rattle.dav_serve.proofs.EachTwo.{two_lengths, made_of_written}
use Rattle.dav_serve.proofs.side_by_side.serve_stations_into.Goals as goal

pub returns : goal.returns
returns g c =
    let T = g.T.Turn in
    let D = g.D.Door in
    let became = BecameStation T.opening T.pass T.origin T.front D.state D.faults g.C.Clock.readings c.args.users.now in
    let each = c.serve_all.ensures in
    let later = c.serve_all.new.stations in
    let same : length later ≡ length c.args.stations.items = two_lengths became c.as_mut_slice.result.now later each ∙ ap length c.as_mut_slice.ensures.value in
    record {
      later = later;
      each = subst (λ old. OfEachTwo became old later) c.as_mut_slice.ensures.value each;
      turns_back = made_of_written turn_of later c.args.stations.items c.args.stations.len c.args.turns.items c.taken_apart.result.0.items
          same c.args.stations.ok.0 c.requires.turns.0 c.taken_apart.ensures.turns;
      doors_back = made_of_written door_of later c.args.stations.items c.args.stations.len c.args.doors.items c.taken_apart.result.1.items
          same c.args.stations.ok.0 c.requires.doors.0 c.taken_apart.ensures.doors;
    }
