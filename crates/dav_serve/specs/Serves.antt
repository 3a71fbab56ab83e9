-- What the serving of a connection does, by how it ends.
use Rattle.std.specs.Prelude.{ℕ, ◌≡◌, ◌+◌, ◌≤◌, ◌⊎◌, ⊤, Bool, true, false, List, [], ◌∷◌, ◌++◌, length, take, drop, Option, None, Some, MatchBool}
use Rattle.std.specs.Io.KnownBytes.{Appends, Consumes, IsAtEnd}
use Rattle.std.specs.List.{concat}
use Rattle.dsv_outside.specs.declared.serve_end.ServeEnd.{ServeEnd}
use Rattle.dsv_outside.specs.declared.serve_end.ServeEnd.TheVariants.{Ended, Closed, BrokeOff, ReadFault, WriteFault, NoMemory}
use Rattle.dsv_outside.specs.Clocks.{Reads}
use Rattle.http_front.specs.declared.message_fault.MessageFault.{MessageFault}
use Rattle.http_front.specs.declared.request.Request.{Request}
use Rattle.http_front.specs.declared.user.User.{User}
use Rattle.http_front.specs.Messages.{IsFirst, Messages, End, LastGiven, Left, RefusedAt}
use Rattle.http_front.specs.Outcomes.{Whole}
use Rattle.http_front.specs.Sections.{is_idle}
use Rattle.dav_machine.specs.States.{State}
use Rattle.dav_machine.specs.Talks.{Talk}
use Rattle.dav_serve.specs.Closings.{closing, closing_text}
use Rattle.dav_serve.specs.Points.{Point}

-- ---- ends of a connection's bytes

-- a part of a message is left, which is idle or not
abbrev pub Leaves : Bool → End → Type 0
Leaves idle LastGiven = ⊥
Leaves idle (Left rest) = is_idle rest ≡ idle
Leaves idle (RefusedAt why offset) = ⊥

-- a part of a message is left
abbrev pub IsLeft : End → Type 0
IsLeft LastGiven = ⊥
IsLeft (Left rest) = ⊤
IsLeft (RefusedAt why offset) = ⊥

-- the last request was given, or a message was refused
abbrev pub IsClosing : End → Type 0
IsClosing LastGiven = ⊤
IsClosing (Left rest) = ⊥
IsClosing (RefusedAt why offset) = ⊤

-- ---- requests and replies

-- after so many requests of the connection the bytes begin with these ones
abbrev pub BeginsWith : List User → ℕ → List ℕ → List Request → Type 0
BeginsWith users number bytes [] = ⊤
BeginsWith users number bytes (request ∷ requests) =
    (n : ℕ) × IsFirst users number bytes (Whole request n)
    × MatchBool request.last (requests ≡ []) (BeginsWith users (number + 1) (drop n bytes) requests)

-- these bytes were taken from the source, and these requests were answered with these outputs, one after another,
-- each at the moment of one reading of the clock
pub record Talks
    (opening : State) (pass : ℕ) (p q : Point) (bytes : List ℕ) (requests : List Request) (outputs : List (List ℕ))
    : Type 0 where
  pub consumed : Consumes p.left q.left bytes
  pub moments : List ℕ
  pub read : Reads p.readings q.readings moments
  pub talk : Talk opening p.history pass requests moments outputs q.history

-- all requests of the bytes were answered, and the replies were put, and then the closing refusal where one has to be
pub record AnsweredAll (opening : State) (pass : ℕ) (users : List User) (p q : Point) (Ends : End → Type 0) : Type 0 where
  pub bytes : List ℕ
  pub requests : List Request
  pub outputs : List (List ℕ)
  pub end : End
  pub talks : Talks opening pass p q bytes requests outputs
  pub messages : Messages users bytes requests end
  pub ends : Ends end
  pub put : Appends p.taken q.taken (concat outputs ++ closing end)

-- the first requests of the bytes were answered, and all their replies were put, or all but the last
pub record AnsweredSome (opening : State) (pass : ℕ) (users : List User) (p q : Point) : Type 0 where
  pub bytes : List ℕ
  pub requests : List Request
  pub outputs : List (List ℕ)
  pub put_ones : List (List ℕ)
  pub talks : Talks opening pass p q bytes requests outputs
  pub first : BeginsWith users 0 bytes requests
  pub most : (outputs ≡ put_ones) ⊎ ((output : List ℕ) × (outputs ≡ put_ones ++ output ∷ []))
  pub put : Appends p.taken q.taken (concat put_ones)

-- the first requests of the bytes were answered, and of the last reply some first bytes were put, or none
pub record CutReply (opening : State) (pass : ℕ) (users : List User) (p q : Point) : Type 0 where
  pub bytes : List ℕ
  pub requests : List Request
  pub outputs : List (List ℕ)
  pub output : List ℕ
  pub length_put : ℕ
  pub talks : Talks opening pass p q bytes requests (outputs ++ output ∷ [])
  pub first : BeginsWith users 0 bytes requests
  pub within : length_put ≤ length output
  pub put : Appends p.taken q.taken (concat outputs ++ take length_put output)

-- all requests of the bytes were answered and their replies put, and then some first bytes of the closing refusal, or
-- none
pub record CutClosing (opening : State) (pass : ℕ) (users : List User) (p q : Point) : Type 0 where
  pub bytes : List ℕ
  pub requests : List Request
  pub outputs : List (List ℕ)
  pub why : MessageFault
  pub offset : ℕ
  pub length_put : ℕ
  pub talks : Talks opening pass p q bytes requests outputs
  pub messages : Messages users bytes requests (RefusedAt why offset)
  pub within : length_put ≤ length (closing_text why)
  pub put : Appends p.taken q.taken (concat outputs ++ take length_put (closing_text why))

-- nothing is left, where it was told what was left before
abbrev pub NothingLeft : Option (List ℕ) → Option (List ℕ) → Type 0
NothingLeft None new = ⊤
NothingLeft (Some old) new = IsAtEnd new

-- what the serving of a connection did between two points, where it ended so
abbrev pub Serves : State → ℕ → List User → Point → Point → ServeEnd → Type 0
Serves opening pass users p q Ended =
    AnsweredAll opening pass users p q (Leaves true) × (q.over ≡ true) × NothingLeft p.left q.left
Serves opening pass users p q Closed = AnsweredAll opening pass users p q IsClosing
Serves opening pass users p q BrokeOff =
    AnsweredAll opening pass users p q (Leaves false) × (q.over ≡ true) × NothingLeft p.left q.left
Serves opening pass users p q ReadFault = AnsweredAll opening pass users p q IsLeft
Serves opening pass users p q WriteFault = CutReply opening pass users p q ⊎ CutClosing opening pass users p q
Serves opening pass users p q NoMemory = AnsweredSome opening pass users p q

-- the ends by a fault of the source
abbrev pub is_read_fault : ServeEnd → Bool
is_read_fault Ended = false
is_read_fault Closed = false
is_read_fault BrokeOff = false
is_read_fault ReadFault = true
is_read_fault WriteFault = false
is_read_fault NoMemory = false

-- .. and of the sink
abbrev pub is_write_fault : ServeEnd → Bool
is_write_fault Ended = false
is_write_fault Closed = false
is_write_fault BrokeOff = false
is_write_fault ReadFault = false
is_write_fault WriteFault = true
is_write_fault NoMemory = false
