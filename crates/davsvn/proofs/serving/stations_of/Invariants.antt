use Rattle.std.proofs.Common.{◌≤◌}
use Rattle.davsvn.specs.Doorways.{AreReady}
use Rattle.davsvn.proofs.serving.stations_of.Given as goal

abbrev pub invariant-stations : goal.invariant-stations
invariant-stations g l = AreReady l.counter l.doors.items l.clocks.items × (l.counter ≤ l.number)
