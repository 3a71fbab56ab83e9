-- What one step of a connection does: it answers a request, refuses a message, or reads a piece.
use Rattle.std.specs.Prelude.{ℕ, ◌≡◌, ◌≤◌, ◌⊎◌, Bool, true, false, List, [], ◌∷◌, length, take, Option, None, Some}
use Rattle.std.specs.Io.KnownBytes.{Appends, Keeps, Consumes, IsAtEnd}
use Rattle.dsv_outside.specs.declared.serve_end.ServeEnd.{ServeEnd}
use Rattle.dsv_outside.specs.declared.serve_end.ServeEnd.TheVariants.{Ended, Closed, BrokeOff, ReadFault, WriteFault, NoMemory}
use Rattle.dsv_outside.specs.Clocks.{Reads}
use Rattle.http_front.specs.declared.message_fault.MessageFault.{MessageFault}
use Rattle.http_front.specs.declared.request.Request.{Request}
use Rattle.http_front.specs.declared.user.User.{User}
use Rattle.http_front.specs.Answers.{GivesRequest, Waits, Refuses}
use Rattle.http_front.specs.Fronts.{FrontState, fed}
use Rattle.http_front.specs.Sections.{is_idle}
use Rattle.dav_machine.specs.declared.answer.Answer.{Answer}
use Rattle.dav_machine.specs.States.{State}
use Rattle.dav_machine.specs.Talks.{call_of, output_of}
use Rattle.dav_machine.specs.Turns.{Turned}
use Rattle.dav_serve.specs.Closings.{closing_text}
use Rattle.dav_serve.specs.Points.{Point, Answering, answering}
use Rattle.dav_serve.specs.Serves.{is_read_fault, is_write_fault}

-- the most bytes that are read at once
abbrev pub most_piece_bytes : ℕ
most_piece_bytes = 65536

-- whether a step ends the connection by a fault of the source
abbrev pub has_read_fault : Option ServeEnd → Bool
has_read_fault None = false
has_read_fault (Some end) = is_read_fault end

-- .. or by one of the sink
abbrev pub has_write_fault : Option ServeEnd → Bool
has_write_fault None = false
has_write_fault (Some end) = is_write_fault end

-- ---- parts of a step

-- a reply was put, or what it came to else; the last one closes
abbrev pub SendSays : Bool → List ℕ → Option (List ℕ) → Option (List ℕ) → Option ServeEnd → Type 0
SendSays last output old new None = (last ≡ false) × Appends old new output
SendSays last output old new (Some Ended) = ⊥
SendSays last output old new (Some Closed) = (last ≡ true) × Appends old new output
SendSays last output old new (Some BrokeOff) = ⊥
SendSays last output old new (Some ReadFault) = ⊥
SendSays last output old new (Some WriteFault) = (n : ℕ) × (n ≤ length output) × Appends old new (take n output)
SendSays last output old new (Some NoMemory) = Keeps old new

-- one request was asked at a moment, and its reply was put
pub record AnswerSays (opening : State) (pass : ℕ) (request : Request) (p q : Answering) (result : Option ServeEnd) : Type 0 where
  pub moment : ℕ
  pub answer : Answer
  pub turned : Turned opening p.history pass (call_of pass request moment) answer q.history
  pub read : Reads p.readings q.readings (moment ∷ [])
  pub sent : SendSays request.last (output_of request answer.bytes) p.taken q.taken result

-- a piece was read and fed, or what it came to else
abbrev pub ReceiveSays : FrontState → FrontState → Option (List ℕ) → Option (List ℕ) → Bool → Option ServeEnd → Type 0
ReceiveSays front later old new over None =
    (piece : List ℕ) × (1 ≤ length piece) × (length piece ≤ most_piece_bytes) × Consumes old new piece
    × (later ≡ fed front piece)
ReceiveSays front later old new over (Some Ended) =
    (over ≡ true) × (is_idle front.rest ≡ true) × Keeps old new × IsAtEnd old
ReceiveSays front later old new over (Some Closed) = ⊥
ReceiveSays front later old new over (Some BrokeOff) =
    (over ≡ true) × (is_idle front.rest ≡ false) × Keeps old new × IsAtEnd old
ReceiveSays front later old new over (Some ReadFault) = Keeps old new
ReceiveSays front later old new over (Some WriteFault) = ⊥
ReceiveSays front later old new over (Some NoMemory) = (piece : List ℕ) × Consumes old new piece

-- ---- steps

-- the front gave a request, which was answered
pub record Replied (opening : State) (pass : ℕ) (users : List User) (front later : FrontState) (p q : Point) (result : Option ServeEnd) : Type 0 where
  pub request : Request
  pub gives : GivesRequest users front later request
  pub answers : AnswerSays opening pass request (answering p) (answering q) result
  pub left : q.left ≡ p.left

-- the front waited for bytes, which were read
pub record Received (users : List User) (front later : FrontState) (p q : Point) (result : Option ServeEnd) : Type 0 where
  pub waits : Waits users front
  pub receives : ReceiveSays front later p.left q.left q.over result
  pub history : q.history ≡ p.history
  pub readings : q.readings ≡ p.readings
  pub taken : q.taken ≡ p.taken

-- the front refused a message, and this was told
pub record Refused (users : List User) (front : FrontState) (p q : Point) (result : Option ServeEnd) : Type 0 where
  pub why : MessageFault
  pub refuses : Refuses users front why
  pub sent : SendSays true (closing_text why) p.taken q.taken result
  pub history : q.history ≡ p.history
  pub readings : q.readings ≡ p.readings
  pub left : q.left ≡ p.left

-- memory was wanting before anything was done
abbrev pub Wants : Point → Point → Option ServeEnd → Type 0
Wants p q result = (result ≡ Some NoMemory) × (q ≡ p)

-- what a step does
abbrev pub StepSays : State → ℕ → List User → FrontState → FrontState → Point → Point → Option ServeEnd → Type 0
StepSays opening pass users front later p q result =
    Replied opening pass users front later p q result
    ⊎ (Received users front later p q result ⊎ (Refused users front p q result ⊎ Wants p q result))
