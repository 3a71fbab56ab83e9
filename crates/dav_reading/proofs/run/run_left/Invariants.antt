use Rattle.std.proofs.Common.{◌≡◌, ◌≤◌, length}
use Rattle.dav_reading.specs.Runs.{run_left}
use Rattle.dav_reading.proofs.run.run_left.Given as goal

-- the run is the same from here
abbrev pub invariant-bytes : goal.invariant-bytes
invariant-bytes l = record {
  left : run_left l.run l.read.items l.rest ≡ run_left l.fn.run l.fn.read.items l.fn.text;
  shorter : length l.rest ≤ length l.fn.text;
}

abbrev pub decreases-bytes : goal.decreases-bytes
decreases-bytes l = length l.rest
