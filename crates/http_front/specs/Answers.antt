-- What the next answer says of a front.
use Rattle.std.specs.Prelude.{◌≡◌, ℕ, ⊤, ◌⊎◌, List, if◌then◌else◌}
use Rattle.http_front.specs.declared.message_fault.MessageFault as fault
use Rattle.http_front.specs.declared.message_fault.MessageFault.TheVariants as faults
use Rattle.http_front.specs.declared.request.Request as request
use Rattle.http_front.specs.declared.next.Next.{Next}
use Rattle.http_front.specs.declared.next.Next.TheVariants.{Request, More, BadMessage, HeadTooLarge, BodyTooLarge, NoMemory}
use Rattle.http_front.specs.declared.user.User.{User}
use Rattle.http_front.specs.declared.phase.Phase.{Phase}
use Rattle.http_front.specs.declared.phase.Phase.TheVariants.{Open, Finished, Stopped}
use Rattle.http_front.specs.Fronts.{FrontState, IsBounded, given, stopped}
use Rattle.http_front.specs.Logins.{IsNamed}
use Rattle.http_front.specs.Messages.{IsFirst}
use Rattle.http_front.specs.Outcomes.{Whole, Part, Refused}

-- the phase after a request
abbrev pub phase_after : request.Request → Phase
phase_after r = if r.last then Finished else Open

-- a request was given: it was the first of the rest
pub record GivesRequest (users : List User) (old new : FrontState) (r : request.Request) : Type 0 where
  pub size : ℕ
  pub is_open : old.phase ≡ Open
  pub first : IsFirst users old.number old.rest (Whole r size)
  pub new_is : new ≡ given size (phase_after r) old

-- the rest is a part, so that more bytes are needed
pub record Waits (users : List User) (s : FrontState) : Type 0 where
  pub is_open : s.phase ≡ Open
  pub first : IsFirst users s.number s.rest Part
  pub bounded : IsBounded s

-- nothing comes before more bytes, or nothing comes any more
pub record GivesMore (users : List User) (old new : FrontState) : Type 0 where
  pub same : new ≡ old
  pub why : Waits users old ⊎ (old.phase ≡ Finished)

-- the first of the rest is refused
pub record Refuses (users : List User) (s : FrontState) (why : fault.MessageFault) : Type 0 where
  pub is_open : s.phase ≡ Open
  pub first : IsFirst users s.number s.rest (Refused why)

-- a message is refused, now or at an earlier call
pub record GivesRefusal (users : List User) (old new : FrontState) (why : fault.MessageFault) : Type 0 where
  pub stops : new ≡ stopped why old
  pub when : Refuses users old why ⊎ (old.phase ≡ Stopped why)

-- what each answer says
abbrev pub NextSays : List User → FrontState → FrontState → Next → Type 0
NextSays users old new (Request r) = GivesRequest users old new r
NextSays users old new More = GivesMore users old new
NextSays users old new (BadMessage at) = GivesRefusal users old new faults.BadMessage × (at ≡ old.at)
NextSays users old new HeadTooLarge = GivesRefusal users old new faults.HeadTooLarge
NextSays users old new BodyTooLarge = GivesRefusal users old new faults.BodyTooLarge
NextSays users old new NoMemory = new ≡ old

-- the answer for a refusal of the message at an offset
abbrev pub refusal_next : fault.MessageFault → ℕ → Next
refusal_next faults.BadMessage at = BadMessage at
refusal_next faults.HeadTooLarge at = HeadTooLarge
refusal_next faults.BodyTooLarge at = BodyTooLarge

-- whoever a given request comes from has a name of the users grammar
abbrev pub ComesNamed : Next → Type 0
ComesNamed (Request r) = IsNamed r.login
ComesNamed More = ⊤
ComesNamed (BadMessage at) = ⊤
ComesNamed HeadTooLarge = ⊤
ComesNamed BodyTooLarge = ⊤
ComesNamed NoMemory = ⊤
