-- The calls of an object in memory, some of which are to fail.
use Rattle.std.specs.Prelude.{ℕ, Bool, List, Contains}
use Rattle.dsv_outside.specs.Causes.{next_count, count_after}

-- The numbers of the calls that fail, where the first call has number 0; the number of the next call,
-- which stands still at the last value of a count; and the count of faults.
pub record CallState : Type 0 where
  pub failing : List ℕ
  pub next : ℕ
  pub faults : ℕ

-- before the first call
abbrev pub no_calls : List ℕ → CallState
no_calls failing = record { failing = failing; next = 0; faults = 0 }

-- the next call is one that fails
abbrev pub IsDue : CallState → Type 0
IsDue calls = Contains calls.failing calls.next

-- after one more call, which failed or didn't
abbrev pub after_call : Bool → CallState → CallState
after_call failed calls = record { failing = calls.failing; next = next_count calls.next; faults = count_after failed calls.faults }
