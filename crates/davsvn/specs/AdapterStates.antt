-- Readers and writers of std as sources and sinks, as contracts see them.
use Rattle.std.specs.Prelude.{ℕ, Bool}

-- a reader of std as a source: the reader, whether it is over, and its count of faults
pub record ReadingState (R : Type 0) : Type 0 where
  pub inner : R
  pub over : Bool
  pub faults : ℕ

-- a writer of std as a sink: the writer, and its count of faults
pub record WritingState (W : Type 0) : Type 0 where
  pub inner : W
  pub faults : ℕ

-- a listener of std as a door: the number of pairs given, a u64; whether a pair is out; and its count of faults
pub record ListeningState : Type 0 where
  pub given : ℕ
  pub out : Bool
  pub faults : ℕ
