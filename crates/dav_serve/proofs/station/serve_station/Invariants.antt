use Rattle.std.proofs.Common.{◌≡◌}
use Rattle.dav_serve.specs.Stations.{told_by}
use Rattle.dav_serve.specs.Visits.{Attended, most_of}
use Rattle.dav_serve.proofs.station.serve_station.Given as goal

-- so many connections were taken, served and given back
abbrev pub invariant-connections : goal.invariant-connections
invariant-connections g l = record {
  so : Attended l.fn.users
      (told_by g.T.Turn.opening g.T.Turn.pass g.T.Turn.origin g.T.Turn.front g.D.Door.state g.D.Door.faults g.C.Clock.readings l.fn.station)
      (told_by g.T.Turn.opening g.T.Turn.pass g.T.Turn.origin g.T.Turn.front g.D.Door.state g.D.Door.faults g.C.Clock.readings l.station)
      l.counter;
  end : l.end ≡ most_of l.fn.station.limit;
}
