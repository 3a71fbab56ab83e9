-- Sources in memory, as contracts see them.
use Rattle.std.specs.Prelude.{ℕ, Bool, List}
use Rattle.dsv_outside.specs.Calls.{CallState}

-- the bytes not yet read, and whether a call has answered `End`
pub record SureSourceState : Type 0 where
  pub left : List ℕ
  pub over : Bool

-- a source in memory, and its calls so far
pub record MemSourceState : Type 0 where
  pub left : List ℕ
  pub over : Bool
  pub calls : CallState
