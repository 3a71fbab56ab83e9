use Rattle.std.proofs.Common.{◌≡◌, length}
use Rattle.dav_reading.specs.Modes.{read_bytes}
use Rattle.dav_reading.specs.Documents.{reader_at_start}
use Rattle.dav_reading.proofs.reading.read_bytes.Given as goal

-- what is left comes to the same as all
abbrev pub invariant-steps : goal.invariant-steps
invariant-steps l = read_bytes l.reader l.rest ≡ read_bytes (reader_at_start l.fn.nest) l.fn.text

abbrev pub decreases-steps : goal.decreases-steps
decreases-steps l = length l.rest
