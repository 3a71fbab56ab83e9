-- Bodies by chunks that were read in part.
use Rattle.std.specs.Prelude.{ℕ, ◌+◌, ◌*◌, ◌-◌, ◌<◌, ◌≤◌, List, length, drop, Option, None, Some}
use Rattle.http_front.specs.declared.chunk_step.ChunkStep.{ChunkStep}
use Rattle.http_front.specs.declared.chunk_step.ChunkStep.TheVariants.{Goes, Ends}
use Rattle.http_front.specs.declared.chunk_step.ChunksEnd.{ChunksEnd}
use Rattle.http_front.specs.declared.chunk_step.ChunksEnd.TheVariants.{Ended, Waits, Fails}
use Rattle.http_front.specs.declared.chunks.Chunks.{Chunks}
use Rattle.http_front.specs.declared.data_end.DataEnd.{DataEnd}
use Rattle.http_front.specs.declared.data_end.DataEnd.TheVariants.{Closed, Open, Wrong}
use Rattle.http_front.specs.declared.byte_place.BytePlace.TheVariants.{Between}
use Rattle.http_front.specs.declared.message_fault.MessageFault.TheVariants.{BadMessage}
use Rattle.http_front.specs.declared.size_line.SizeLine.TheVariants.{Line}
use Rattle.http_front.specs.declared.stage.Stage.{Stage}
use Rattle.http_front.specs.declared.stage.Stage.TheVariants.{AtLine, InData, InTrailers}
use Rattle.http_front.specs.Chunks.{HasChunks, IsContent, IsSizeLine}
use Rattle.http_front.specs.Limits.{most_body_bytes}
use Rattle.http_front.specs.Outcomes.{Outcome, Whole, Part, Refused}
use Rattle.http_front.specs.Scans.{IsScanned}

-- what comes after a chunk's data
abbrev pub end_outcome : DataEnd → Option (Outcome (List ℕ))
end_outcome Closed = None
end_outcome Open = Some Part
end_outcome Wrong = Some (Refused BadMessage)

-- a size line was read that isn't of the last chunk, and the chunk isn't too long
pub record IsData (before bytes : List ℕ) (n size : ℕ) : Type 0 where
  pub is_line : IsSizeLine bytes (Line n size)
  pub some : 0 < size
  pub fits : length before + size ≤ most_body_bytes

-- what was read of the bytes at a chunk
abbrev pub StageSays : List ℕ → List ℕ → Stage → Type 0
StageSays before bytes AtLine = Unit {0}
StageSays before bytes (InData n size) = IsData before bytes n size
StageSays before bytes (InTrailers n scan) = IsSizeLine bytes (Line n 0) × IsScanned Between (drop n bytes) scan

-- the body's bytes were read up to there
pub record IsReading (bytes body : List ℕ) (used : ℕ) (stage : Stage) : Type 0 where
  pub chunks : HasChunks bytes body used
  pub within : used ≤ length bytes
  pub room : length body ≤ most_body_bytes
  pub stage_says : StageSays body (drop used bytes) stage

-- the body and what was read of the next chunk are those of the bytes
abbrev pub ReadsChunks : List ℕ → Chunks → Type 0
ReadsChunks bytes c = IsReading bytes c.body.items c.used c.stage

-- how much is left to do
abbrev pub stage_steps : Stage → ℕ
stage_steps AtLine = 1
stage_steps (InData n size) = 0
stage_steps (InTrailers n scan) = 0

-- a bound of the steps that are left: two for each byte, and one where a size line comes next
abbrev pub steps_left : List ℕ → Chunks → ℕ
steps_left bytes c = 2 * (length bytes - c.used) + stage_steps c.stage

-- what the bytes came to
abbrev pub ChunksSay : List ℕ → Chunks → ChunksEnd → Type 0
ChunksSay bytes new (Ended n) = IsContent bytes (Whole new.body.items n)
ChunksSay bytes new Waits = ReadsChunks bytes new × IsContent bytes Part
ChunksSay bytes new (Fails why) = IsContent bytes (Refused why)

-- what a step says
abbrev pub ChunkStepSays : List ℕ → Chunks → Chunks → ChunkStep → Type 0
ChunkStepSays bytes old new Goes = ReadsChunks bytes new × (steps_left bytes new < steps_left bytes old)
ChunkStepSays bytes old new (Ends end) = ChunksSay bytes new end
