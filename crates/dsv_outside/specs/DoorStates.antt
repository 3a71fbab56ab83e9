-- Doors, as contracts see them.
use Rattle.std.specs.Prelude.{ℕ, Bool, List, Option}
use Rattle.dsv_outside.specs.Calls.{CallState}
use Rattle.dsv_outside.specs.declared.serve_end.ServeEnd.{ServeEnd}

-- one connection's pair of source and sink: the bytes that the source has left, whether it is over, and its count of
-- faults; the bytes that the sink has taken, and its count; bytes where they are told
pub record PairState : Type 0 where
  pub left : Option (List ℕ)
  pub over : Bool
  pub source_faults : ℕ
  pub taken : Option (List ℕ)
  pub sink_faults : ℕ

-- a pair that went back, as it was then, and how the serving of its connection ended
pub record Returned : Type 0 where
  pub end : ServeEnd
  pub pair : PairState

-- the number of pairs given, a u64; whether a call has answered `End`; whether a pair is out; and, where they are told,
-- the inputs of the pairs to come, and the pairs that went back, both in order
pub record DoorState : Type 0 where
  pub given : ℕ
  pub shut : Bool
  pub out : Bool
  pub coming : Option (List (List ℕ))
  pub returned : Option (List Returned)

-- a door in memory, and its calls so far
pub record MemDoorState : Type 0 where
  pub door : DoorState
  pub calls : CallState
