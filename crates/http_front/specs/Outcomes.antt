-- What the bytes at the front of a connection are.
use Rattle.std.specs.Prelude.{ℕ}
use Rattle.http_front.specs.declared.message_fault.MessageFault.{MessageFault}

-- a whole one of so many bytes; a part of one, that more bytes may make whole; or refused, whatever follows
pub data Outcome (A : Type 0) : Type 0 where
  Whole : A → ℕ → Outcome A
  Part : Outcome A
  Refused : MessageFault → Outcome A
