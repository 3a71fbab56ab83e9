use Rattle.http_front.specs.Readings.{ReadsChunks, steps_left}
use Rattle.http_front.proofs.chunks.Chunks.read.Given as goal

-- the bytes were read up to there
abbrev pub invariant-steps : goal.invariant-steps
invariant-steps l = ReadsChunks l.bytes l.self

abbrev pub decreases-steps : goal.decreases-steps
decreases-steps l = steps_left l.bytes l.self
