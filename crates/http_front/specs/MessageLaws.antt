-- What holds of the bytes of every connection, whoever the users are and however the bytes come.
use Rattle.std.specs.Prelude.{ℕ, ◌≡◌, ◌<◌, ◌≤◌, List, ◌++◌, length}
use Rattle.http_front.specs.declared.phase.Phase.TheVariants.{Open}
use Rattle.http_front.specs.declared.message_fault.MessageFault.{MessageFault}
use Rattle.http_front.specs.declared.request.Request.{Request}
use Rattle.http_front.specs.declared.user.User.{User}
use Rattle.http_front.specs.Fronts.{FrontState, new_front}
use Rattle.http_front.specs.Limits.{most_message_bytes}
use Rattle.http_front.specs.Messages.{IsFirst, MessagesFrom, Messages, End}
use Rattle.http_front.specs.Outcomes.{Outcome, Whole, Part, Refused}
use Rattle.http_front.specs.Runs.{Step, Run, EndsAt, fed_bytes, given_requests}

-- ---- what bytes begin with

-- bytes begin with one thing alone: a whole request, a part of one, or a refused message
abbrev pub OneOutcome : Type 0
OneOutcome = (users : List User) (number : ℕ) (bytes : List ℕ) (one other : Outcome Request)
    → IsFirst users number bytes one → IsFirst users number bytes other → one ≡ other

-- a whole request stays the first, whatever bytes follow
abbrev pub WholeStays : Type 0
WholeStays = (users : List User) (number : ℕ) (bytes more : List ℕ) (request : Request) (n : ℕ)
    → IsFirst users number bytes (Whole request n) → IsFirst users number (bytes ++ more) (Whole request n)

-- a refused message stays refused for the same cause, whatever bytes follow
abbrev pub RefusedStays : Type 0
RefusedStays = (users : List User) (number : ℕ) (bytes more : List ℕ) (why : MessageFault)
    → IsFirst users number bytes (Refused why) → IsFirst users number (bytes ++ more) (Refused why)

-- a whole request has at least one byte, lies within the bytes, and is no longer than a message may be
abbrev pub WholeIsWithin : Type 0
WholeIsWithin = (users : List User) (number : ℕ) (bytes : List ℕ) (request : Request) (n : ℕ)
    → IsFirst users number bytes (Whole request n) → (0 < n) × (n ≤ length bytes) × (n ≤ most_message_bytes)

-- bytes that are a part of a message are no more than a message may have
abbrev pub PartIsWithin : Type 0
PartIsWithin = (users : List User) (number : ℕ) (bytes : List ℕ)
    → IsFirst users number bytes Part → length bytes ≤ most_message_bytes

-- ---- all that bytes are

-- bytes are one list of requests, and come to one end
abbrev pub OneReading : Type 0
OneReading = (users : List User) (number at : ℕ) (bytes : List ℕ) (some all : List Request) (one other : End)
    → MessagesFrom users number at bytes some one → MessagesFrom users number at bytes all other
    → (some ≡ all) × (one ≡ other)

-- however the bytes are cut, and whenever the front is asked, it gives the requests of all bytes together, and their end
abbrev pub CutsDontMatter : Type 0
CutsDontMatter = (users : List User) (steps : List Step) (last : FrontState) (end : End)
    → Run users steps new_front last → EndsAt users last.phase last end
    → Messages users (fed_bytes steps) (given_requests steps) end

-- however later bytes are cut, the requests that a front gives are those of its rest and all later bytes
-- together, as long as requests may still come
abbrev pub LaterCutsDontMatter : Type 0
LaterCutsDontMatter = (users : List User) (steps : List Step) (first last : FrontState) (end : End) → first.phase ≡ Open
    → Run users steps first last → EndsAt users last.phase last end
    → MessagesFrom users first.number first.at (first.rest ++ fed_bytes steps) (given_requests steps) end
