-- Sinks in memory, as contracts see them. One that never fails is seen as the bytes it has taken.
use Rattle.std.specs.Prelude.{ℕ, List}
use Rattle.dsv_outside.specs.Calls.{CallState}

-- the bytes taken, and the calls so far
pub record MemSinkState : Type 0 where
  pub taken : List ℕ
  pub calls : CallState
