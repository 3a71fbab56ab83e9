-- How far a connection came, and how it goes on by one step.
use Rattle.std.proofs.Common.{◌≡◌, ℕ, ◌+◌, ◌-◌, ◌*◌, ◌<◌, ◌≤◌, Bool, true, false, List, [], ◌∷◌, ◌++◌, length, Option, None, Some, refl, sym, ap, ◌∙◌, subst, inl, inr, append_assoc, append-nil, arith, if◌then◌else◌, length-append, length-drop}
use Rattle.std.proofs.KnownBytes.{Appends-nil, Appends-trans, Consumes-nil, Consumes-trans, Consumes-kept}
use Rattle.std.specs.Io.KnownBytes.{Appends, Consumes, Keeps}
use Rattle.std.specs.List.{concat}
use Rattle.dsv_outside.specs.Causes.{last_count}
use Rattle.dsv_outside.specs.Clocks.{Reads}
use Rattle.dsv_outside.specs.declared.serve_end.ServeEnd.TheVariants.{NoMemory}
use Rattle.http_front.specs.declared.phase.Phase.{Phase}
use Rattle.http_front.specs.declared.phase.Phase.TheVariants.{Open, Finished}
use Rattle.http_front.specs.declared.request.Request.{Request}
use Rattle.http_front.specs.declared.user.User.{User}
use Rattle.http_front.specs.Answers.{phase_after}
use Rattle.http_front.specs.Fronts.{FrontState, new_front, fed_in, fed, given}
use Rattle.http_front.specs.Limits.{most_requests, most_message_bytes}
use Rattle.dav_machine.specs.declared.answer.Answer.{Answer}
use Rattle.dav_machine.specs.Histories.{HistoryEntry}
use Rattle.dav_machine.specs.States.{State}
use Rattle.dav_machine.specs.Talks.{Talk, call_of, output_of}
use Rattle.dav_machine.specs.Turns.{Turned}
use Rattle.dav_machine.proofs.Talking.{Talk-empty, Talk-push}
use Rattle.dav_serve.specs.Points.{Point}
use Rattle.dav_serve.specs.Serves.{Talks}
use Rattle.dav_serve.specs.Steps.{most_piece_bytes, StepSays, Replied, Received}
use Rattle.http_front.proofs.Laws.{whole_size}
use Rattle.dav_serve.proofs.Passed.{Passed, Passed-push, Passed-fed}

-- ---- readings and outputs

pub Reads-nil : (a : Option (List ℕ)) → Reads a a []
Reads-nil None = tt
Reads-nil (Some x) = sym (append-nil x)

-- readings that are known stop being so only where they are too many, and more of them are too many too
longer : (x bs cs : List ℕ) → last_count ≤ length x + length bs → last_count ≤ length x + length (bs ++ cs)
longer x bs cs h = rw (length-append bs cs) (omega arith)

joined : (x y bs cs : List ℕ) → y ≡ x ++ bs → last_count ≤ length y + length cs → last_count ≤ length x + length (bs ++ cs)
joined x y bs cs e h =
    let size : length y ≡ length x + length bs = ap length e ∙ length-append x bs in
    rw (length-append bs cs) (omega arith)

pub Reads-trans : (a b c : Option (List ℕ)) (bs cs : List ℕ) → Reads a b bs → Reads b c cs → Reads a c (bs ++ cs)
Reads-trans None None None bs cs p q = tt
Reads-trans None None (Some z) bs cs p q = absurd q
Reads-trans None (Some y) c bs cs p q = absurd p
Reads-trans (Some x) None None bs cs p q = longer x bs cs p
Reads-trans (Some x) None (Some z) bs cs p q = absurd q
Reads-trans (Some x) (Some y) None bs cs p q = joined x y bs cs p q
Reads-trans (Some x) (Some y) (Some z) bs cs p q = q ∙ ap (λ l. l ++ cs) p ∙ append_assoc x bs cs

pub concat-push : (outputs : List (List ℕ)) (output : List ℕ) → concat (outputs ++ output ∷ []) ≡ concat outputs ++ output
concat-push [] output = append-nil output
concat-push (o ∷ os) output = ap (λ l. o ++ l) (concat-push os output) ∙ sym (append_assoc o (concat os) output)

-- ---- talks

module _ (opening : State) (pass : ℕ) (start p q : Point) where
  -- one request more, answered
  pub Talks-push : (bytes : List ℕ) (requests : List Request) (outputs : List (List ℕ)) (request : Request) (moment : ℕ) (answer : Answer)
      → Talks opening pass start p bytes requests outputs
      → q.left ≡ p.left
      → Turned opening p.history pass (call_of pass request moment) answer q.history
      → Reads p.readings q.readings (moment ∷ [])
      → Talks opening pass start q bytes (requests ++ request ∷ []) (outputs ++ output_of request answer.bytes ∷ [])
  Talks-push bytes requests outputs request moment answer talks left turned read = record {
    consumed = subst (λ (l : Option (List ℕ)). Consumes start.left l bytes) (sym left) talks.consumed;
    moments = talks.moments ++ moment ∷ [];
    read = Reads-trans start.readings p.readings q.readings talks.moments (moment ∷ []) talks.read read;
    talk = Talk-push opening pass start.history requests talks.moments outputs p.history q.history request moment answer talks.talk turned;
  }

  -- more bytes, or none
  pub Talks-read : (bytes piece : List ℕ) (requests : List Request) (outputs : List (List ℕ))
      → Talks opening pass start p bytes requests outputs
      → Consumes p.left q.left piece
      → q.history ≡ p.history → q.readings ≡ p.readings
      → Talks opening pass start q (bytes ++ piece) requests outputs
  Talks-read bytes piece requests outputs talks more history readings = record {
    consumed = Consumes-trans start.left p.left q.left bytes piece talks.consumed more;
    moments = talks.moments;
    read = subst (λ (r : Option (List ℕ)). Reads start.readings r talks.moments) (sym readings) talks.read;
    talk = subst (λ (h : List HistoryEntry). Talk opening start.history pass requests talks.moments outputs h) (sym history) talks.talk;
  }

  pub Talks-kept : (bytes : List ℕ) (requests : List Request) (outputs : List (List ℕ))
      → Talks opening pass start p bytes requests outputs
      → Keeps p.left q.left
      → q.history ≡ p.history → q.readings ≡ p.readings
      → Talks opening pass start q bytes requests outputs
  Talks-kept bytes requests outputs talks kept history readings = record {
    consumed = Consumes-kept start.left p.left q.left bytes talks.consumed kept;
    moments = talks.moments;
    read = subst (λ (r : Option (List ℕ)). Reads start.readings r talks.moments) (sym readings) talks.read;
    talk = subst (λ (h : List HistoryEntry). Talk opening start.history pass requests talks.moments outputs h) (sym history) talks.talk;
  }

-- ---- the connection so far

-- what grows smaller with each step: a request makes the rest shorter, and a piece makes longer what was taken, which is
-- bounded
abbrev pub measure : FrontState → ℕ
measure front = (most_requests * most_message_bytes + most_piece_bytes + 1 - (front.at + length front.rest)) * 2 + length front.rest

-- the front gave requests of the bytes that were taken, none of them the last, and all were answered
pub record SoFar (opening : State) (pass : ℕ) (users : List User) (start : Point) (front : FrontState) (p : Point) : Type 0 where
  pub bytes : List ℕ
  pub requests : List Request
  pub outputs : List (List ℕ)
  pub talks : Talks opening pass start p bytes requests outputs
  pub passed : Passed users 0 0 bytes requests front.number front.at front.rest
  pub is_open : front.phase ≡ Open
  pub put : Appends start.taken p.taken (concat outputs)

fed_open : (s : FrontState) (piece : List ℕ) → s.phase ≡ Open → fed s piece ≡ record s { rest = s.rest ++ piece }
fed_open s piece is = ap (λ (phase : Phase). fed_in phase s piece) is

open_after : (r : Request) → r.last ≡ false → phase_after r ≡ Open
open_after r more = ap (λ (last : Bool). if last then Finished else Open) more

module _ (opening : State) (pass : ℕ) (users : List User) (start : Point) where
  -- nothing is done yet
  pub begun : (front : FrontState) → front ≡ new_front → SoFar opening pass users start front start
  begun front new = subst (λ (f : FrontState). SoFar opening pass users start f start) (sym new) (record {
    bytes = [];
    requests = [];
    outputs = [];
    talks = record {
      consumed = Consumes-nil start.left;
      moments = [];
      read = Reads-nil start.readings;
      talk = Talk-empty opening pass start.history;
    };
    passed = (refl, refl, refl);
    is_open = refl;
    put = Appends-nil start.taken;
  })

  module _ (front later : FrontState) (p q : Point) where
    replied : SoFar opening pass users start front p → Replied opening pass users front later p q None → SoFar opening pass users start later q
    replied far step =
        let r = step.request in
        let more : r.last ≡ false = step.answers.sent.0 in
        let output = output_of r step.answers.answer.bytes in
        let is : later ≡ given step.gives.size Open front = step.gives.new_is ∙ ap (λ (phase : Phase). given step.gives.size phase front) (open_after r more) in
        record {
          bytes = far.bytes;
          requests = far.requests ++ r ∷ [];
          outputs = far.outputs ++ output ∷ [];
          talks = Talks-push opening pass start p q far.bytes far.requests far.outputs r step.answers.moment step.answers.answer far.talks step.left step.answers.turned step.answers.read;
          passed = subst (λ (f : FrontState). Passed users 0 0 far.bytes (far.requests ++ r ∷ []) f.number f.at f.rest) (sym is)
              (Passed-push users 0 0 far.bytes far.requests front.number front.at front.rest r step.gives.size far.passed step.gives.first more);
          is_open = ap (λ (f : FrontState). f.phase) is;
          put = subst (λ (l : List ℕ). Appends start.taken q.taken l) (sym (concat-push far.outputs output))
              (Appends-trans start.taken p.taken q.taken (concat far.outputs) output far.put step.answers.sent.1);
        }

    received : SoFar opening pass users start front p → Received users front later p q None → SoFar opening pass users start later q
    received far step =
        let piece = step.receives.0 in
        let is : later ≡ record front { rest = front.rest ++ piece } = step.receives.4 ∙ fed_open front piece far.is_open in
        record {
          bytes = far.bytes ++ piece;
          requests = far.requests;
          outputs = far.outputs;
          talks = Talks-read opening pass start p q far.bytes piece far.requests far.outputs far.talks step.receives.3 step.history step.readings;
          passed = subst (λ (f : FrontState). Passed users 0 0 (far.bytes ++ piece) far.requests f.number f.at f.rest) (sym is)
              (Passed-fed users 0 0 far.bytes piece far.requests front.number front.at front.rest far.passed);
          is_open = ap (λ (f : FrontState). f.phase) is ∙ far.is_open;
          put = subst (λ (t : Option (List ℕ)). Appends start.taken t (concat far.outputs)) (sym step.taken) far.put;
        }

    -- a step that doesn't end the connection
    pub goes_on : SoFar opening pass users start front p → StepSays opening pass users front later p q None → SoFar opening pass users start later q
    goes_on far (inl step) = replied far step
    goes_on far (inr (inl step)) = received far step
    goes_on far (inr (inr (inl step))) = let never : true ≡ false = step.sent.0 in absurd (cc)
    goes_on far (inr (inr (inr wants))) = let never : None ≡ Some NoMemory = wants.0 in absurd (cc)

    -- it brings the connection nearer to its end
    pub smaller : SoFar opening pass users start front p → StepSays opening pass users front later p q None → measure later < measure front
    smaller far (inl step) =
        let size = whole_size users front.number front.rest step.request step.gives.size step.gives.first in
        let some : 0 < step.gives.size = size.0 in
        let within : step.gives.size ≤ length front.rest = size.1 in
        let is : later ≡ given step.gives.size Open front = step.gives.new_is ∙ ap (λ (phase : Phase). given step.gives.size phase front) (open_after step.request step.answers.sent.0) in
        let at : later.at ≡ front.at + step.gives.size = ap (λ (f : FrontState). f.at) is in
        let left : length later.rest ≡ length front.rest - step.gives.size = ap (λ (f : FrontState). length f.rest) is ∙ length-drop step.gives.size front.rest in
        omega arith
    smaller far (inr (inl step)) =
        let piece = step.receives.0 in
        let is : later ≡ record front { rest = front.rest ++ piece } = step.receives.4 ∙ fed_open front piece far.is_open in
        let at : later.at ≡ front.at = ap (λ (f : FrontState). f.at) is in
        let left : length later.rest ≡ length front.rest + length piece = ap (λ (f : FrontState). length f.rest) is ∙ length-append front.rest piece in
        let some : 1 ≤ length piece = step.receives.1 in
        let few : length piece ≤ most_piece_bytes = step.receives.2 in
        let requests : front.number < most_requests = step.waits.bounded.requests in
        let bytes : front.at + length front.rest ≤ (front.number + 1) * most_message_bytes = step.waits.bounded.bytes in
        omega arith
    smaller far (inr (inr (inl step))) = let never : true ≡ false = step.sent.0 in absurd (cc)
    smaller far (inr (inr (inr wants))) = let never : None ≡ Some NoMemory = wants.0 in absurd (cc)
