-- Clocks in memory, as contracts see them.
use Rattle.std.specs.Prelude.{ℕ, List}

-- the moments to be answered in turn, and the number of the next reading, which stands still at the
-- last value of a count
pub record MemClockState : Type 0 where
  pub moments : List ℕ
  pub next : ℕ
