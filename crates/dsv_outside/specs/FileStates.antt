-- Files in memory, as contracts see them.
use Rattle.std.specs.Prelude.{ℕ, List}
use Rattle.dsv_outside.specs.Calls.{CallState}

-- the names with their bytes, and the count of faults
pub record SureFilesState : Type 0 where
  pub contents : List (List ℕ × List ℕ)
  pub faults : ℕ

-- the names with their bytes, and the calls so far
pub record MemFilesState : Type 0 where
  pub contents : List (List ℕ × List ℕ)
  pub calls : CallState
