-- Keepers in memory, as contracts see them. One that never fails is seen as what it has kept.
use Rattle.std.specs.Prelude.{ℕ, List}
use Rattle.dsv_outside.specs.Calls.{CallState}

-- the numbers with their texts, and the calls so far
pub record MemKeeperState : Type 0 where
  pub kept : List (ℕ × List ℕ)
  pub calls : CallState
