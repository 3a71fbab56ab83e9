-- A connection on its way to requests.
use Rattle.std.specs.Prelude.{ℕ, ◌+◌, ◌*◌, ◌<◌, ◌≤◌, List, [], ◌++◌, length, drop}
use Rattle.http_front.specs.declared.phase.Phase.{Phase}
use Rattle.http_front.specs.declared.phase.Phase.TheVariants.{Open, Finished, Stopped}
use Rattle.http_front.specs.declared.message_fault.MessageFault.{MessageFault}
use Rattle.http_front.specs.Limits.{most_requests, most_message_bytes}

-- the requests given so far, the bytes that they had, the bytes fed and not given, and the phase
pub record FrontState : Type 0 where
  pub number : ℕ
  pub at : ℕ
  pub rest : List ℕ
  pub phase : Phase

-- a front that was fed nothing
abbrev pub new_front : FrontState
new_front = record { number = 0; at = 0; rest = []; phase = Open }

-- a piece more, where requests may come; else it is dropped
abbrev pub fed_in : Phase → FrontState → List ℕ → FrontState
fed_in Open s piece = record s { rest = s.rest ++ piece }
fed_in Finished s piece = s
fed_in (Stopped why) s piece = s

-- a front that is fed a piece
abbrev pub fed : FrontState → List ℕ → FrontState
fed s piece = fed_in s.phase s piece

-- what is still to be read in a phase: nothing behind the last request
abbrev pub rest_in : Phase → List ℕ → List ℕ
rest_in Open rest = rest
rest_in Finished rest = []
rest_in (Stopped why) rest = rest

-- after a request of n bytes, which may be the last
abbrev pub given : ℕ → Phase → FrontState → FrontState
given n phase s = record { number = s.number + 1; at = s.at + n; rest = rest_in phase (drop n s.rest); phase = phase }

-- a front at which a message was refused for this fault
abbrev pub stopped : MessageFault → FrontState → FrontState
stopped why s = record s { phase = Stopped why }

-- the requests and the bytes of an open front are bounded
pub record IsBounded (s : FrontState) : Type 0 where
  pub requests : s.number < most_requests
  pub bytes : s.at + length s.rest ≤ (s.number + 1) * most_message_bytes
