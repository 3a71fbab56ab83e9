-- A front that is fed and asked, in any order.
use Rattle.std.specs.Prelude.{◌≡◌, ℕ, List, [], ◌∷◌, ◌++◌}
use Rattle.http_front.specs.declared.next.Next.{Next}
use Rattle.http_front.specs.declared.next.Next.TheVariants as nexts
use Rattle.http_front.specs.declared.phase.Phase.{Phase}
use Rattle.http_front.specs.declared.phase.Phase.TheVariants.{Open, Finished, Stopped}
use Rattle.http_front.specs.declared.request.Request.{Request}
use Rattle.http_front.specs.declared.user.User.{User}
use Rattle.http_front.specs.Answers.{NextSays}
use Rattle.http_front.specs.Fronts.{FrontState, fed}
use Rattle.http_front.specs.Messages.{IsFirst, End, LastGiven, Left, RefusedAt}
use Rattle.http_front.specs.Outcomes.{Part}

-- a piece was fed, or the front was asked and gave this answer
pub data Step : Type 0 where
  Fed : List ℕ → Step
  Asked : Next → Step

-- the step leads from one state to the other
abbrev pub CallSays : List User → FrontState → FrontState → Step → Type 0
CallSays users old new (Fed piece) = new ≡ fed old piece
CallSays users old new (Asked next) = NextSays users old new next

-- the steps lead from one state to another
abbrev pub Run : List User → List Step → FrontState → FrontState → Type 0
Run users [] start end = start ≡ end
Run users (step ∷ steps) start end = (next : FrontState) × CallSays users start next step × Run users steps next end

-- all bytes that were fed
abbrev pub fed_bytes : List Step → List ℕ
fed_bytes [] = []
fed_bytes (Fed piece ∷ steps) = piece ++ fed_bytes steps
fed_bytes (Asked next ∷ steps) = fed_bytes steps

-- the request that an answer gives, in front of these
abbrev pub with_request : Next → List Request → List Request
with_request (nexts.Request r) requests = r ∷ requests
with_request nexts.More requests = requests
with_request (nexts.BadMessage at) requests = requests
with_request nexts.HeadTooLarge requests = requests
with_request nexts.BodyTooLarge requests = requests
with_request nexts.NoMemory requests = requests

-- all requests that were given
abbrev pub given_requests : List Step → List Request
given_requests [] = []
given_requests (Fed piece ∷ steps) = given_requests steps
given_requests (Asked next ∷ steps) = with_request next (given_requests steps)

-- how the bytes end, where the front has nothing more to give
abbrev pub EndsAt : List User → Phase → FrontState → End → Type 0
EndsAt users Open s end = IsFirst users s.number s.rest Part × (end ≡ Left s.rest)
EndsAt users Finished s end = end ≡ LastGiven
EndsAt users (Stopped why) s end = end ≡ RefusedAt why s.at
