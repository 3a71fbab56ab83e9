use Rattle.std.proofs.Common.{◌≡◌, ◌≤◌, ℕ, List, length}
use Rattle.dav_reading.specs.declared.mode.Reader.{Reader}
use Rattle.dav_reading.specs.Modes.{read_bytes}
use Rattle.dav_reading.specs.Runs.{GoesOn, Refers}
use Rattle.dav_reading.proofs.runs.pieces_read.Given as goal

-- what is left comes to the same as all
abbrev pub invariant-references : goal.invariant-references
invariant-references l = record {
  goes : (at : List ℕ → Reader) → GoesOn l.run at → Refers at → read_bytes (at l.read.items) l.rest ≡ read_bytes (at l.fn.read.items) l.fn.text;
  shorter : length l.rest ≤ length l.fn.text;
}

abbrev pub decreases-references : goal.decreases-references
decreases-references l = length l.rest
