-- What a step that ends the connection says of the whole.
use Rattle.std.proofs.Common.{◌≡◌, ℕ, ◌<◌, true, false, List, [], ◌∷◌, ◌++◌, take, Option, None, Some, refl, sym, ap, ◌∙◌, subst, inl, inr, append-nil}
use Rattle.std.proofs.KnownBytes.{Appends-trans, Appends-kept, Consumes-nil, Keeps-refl}
use Rattle.std.specs.Io.KnownBytes.{Appends, Consumes, Keeps, IsAtEnd}
use Rattle.std.specs.List.{concat}
use Rattle.dsv_outside.specs.declared.serve_end.ServeEnd.{ServeEnd}
use Rattle.dsv_outside.specs.declared.serve_end.ServeEnd.TheVariants.{Ended, Closed, BrokeOff, ReadFault, WriteFault, NoMemory}
use Rattle.http_front.specs.declared.request.Request.{Request}
use Rattle.http_front.specs.declared.user.User.{User}
use Rattle.http_front.specs.Answers.{Waits}
use Rattle.http_front.specs.Fronts.{FrontState, new_front}
use Rattle.http_front.specs.Messages.{MessagesFrom, Messages, End, LastGiven, Left, RefusedAt}
use Rattle.dav_machine.specs.States.{State}
use Rattle.dav_machine.specs.Talks.{output_of}
use Rattle.dav_serve.specs.Closings.{closing_text}
use Rattle.dav_serve.specs.Points.{Point}
use Rattle.dav_serve.specs.Serves.{Serves, AnsweredAll, AnsweredSome, CutReply, CutClosing, BeginsWith, Leaves, IsLeft, IsClosing, NothingLeft}
use Rattle.dav_serve.specs.Steps.{StepSays, Replied, Refused, Wants}
use Rattle.dav_serve.proofs.Passed.{Passed-fed, Passed-messages, Passed-begins, BeginsWith-one}
use Rattle.dav_serve.proofs.Progress.{SoFar, measure, goes_on, smaller, Talks-push, Talks-read, Talks-kept, concat-push, begun}

-- ---- known bytes

nothing_left : (a b c : Option (List ℕ)) (bs : List ℕ) → Consumes a b bs → Keeps b c → IsAtEnd b → NothingLeft a c
nothing_left None b c bs taken kept end = tt
nothing_left (Some x) None c bs taken kept end = absurd taken
nothing_left (Some x) (Some y) None bs taken kept end = absurd kept
nothing_left (Some x) (Some y) (Some z) bs taken kept end = kept ∙ end

Keeps-same : (a b : Option (List ℕ)) → b ≡ a → Keeps a b
Keeps-same a b same = subst (λ (o : Option (List ℕ)). Keeps a o) (sym same) (Keeps-refl a)

module _ (opening : State) (pass : ℕ) (users : List User) (start : Point) (front : FrontState) (p : Point) (far : SoFar opening pass users start front p) where
  -- ---- what the bytes come to

  messages_end : (end : End) → MessagesFrom users front.number front.at front.rest [] end → Messages users far.bytes far.requests end
  messages_end end last =
      subst (λ (rs : List Request). Messages users far.bytes rs end) (append-nil far.requests)
      (Passed-messages users 0 0 far.bytes far.requests front.number front.at front.rest [] end far.passed last)

  begins : (more : List Request) → BeginsWith users front.number front.rest more → BeginsWith users 0 far.bytes (far.requests ++ more)
  begins more first = Passed-begins users 0 0 far.bytes far.requests front.number front.at front.rest more far.passed first

  -- ---- the ends

  module _ (later : FrontState) (q : Point) where
    -- the rest is a part
    left : (Ends : End → Type 0) → Ends (Left front.rest) → Waits users front → Keeps p.left q.left → q.history ≡ p.history → q.readings ≡ p.readings → q.taken ≡ p.taken → AnsweredAll opening pass users start q Ends
    left Ends ends waits kept history readings taken = record {
      bytes = far.bytes;
      requests = far.requests;
      outputs = far.outputs;
      end = Left front.rest;
      talks = Talks-kept opening pass start p q far.bytes far.requests far.outputs far.talks kept history readings;
      messages = messages_end (Left front.rest) (waits.first, refl);
      ends = ends;
      put = subst (λ (l : List ℕ). Appends start.taken q.taken l) (sym (append-nil (concat far.outputs)))
          (Appends-kept start.taken p.taken q.taken (concat far.outputs) far.put (Keeps-same p.taken q.taken taken));
    }

    -- the last request was answered
    last_answered : Replied opening pass users front later p q (Some Closed) → AnsweredAll opening pass users start q IsClosing
    last_answered step =
        let r = step.request in
        let is_last : r.last ≡ true = step.answers.sent.0 in
        let output = output_of r step.answers.answer.bytes in
        let last : MessagesFrom users front.number front.at front.rest (r ∷ []) LastGiven = (step.gives.size, step.gives.first, rw is_last (refl, refl)) in
        record {
          bytes = far.bytes;
          requests = far.requests ++ r ∷ [];
          outputs = far.outputs ++ output ∷ [];
          end = LastGiven;
          talks = Talks-push opening pass start p q far.bytes far.requests far.outputs r step.answers.moment step.answers.answer far.talks step.left step.answers.turned step.answers.read;
          messages = Passed-messages users 0 0 far.bytes far.requests front.number front.at front.rest (r ∷ []) LastGiven far.passed last;
          ends = tt;
          put = subst (λ (l : List ℕ). Appends start.taken q.taken l) (sym (append-nil (concat (far.outputs ++ output ∷ [])) ∙ concat-push far.outputs output))
              (Appends-trans start.taken p.taken q.taken (concat far.outputs) output far.put step.answers.sent.1);
        }

    -- a message was refused
    refusal_told : Refused users front p q (Some Closed) → AnsweredAll opening pass users start q IsClosing
    refusal_told step = record {
      bytes = far.bytes;
      requests = far.requests;
      outputs = far.outputs;
      end = RefusedAt step.why front.at;
      talks = Talks-kept opening pass start p q far.bytes far.requests far.outputs far.talks (Keeps-same p.left q.left step.left) step.history step.readings;
      messages = messages_end (RefusedAt step.why front.at) (step.refuses.first, refl);
      ends = tt;
      put = Appends-trans start.taken p.taken q.taken (concat far.outputs) (closing_text step.why) far.put step.sent.1;
    }

    -- a reply wasn't put whole
    reply_cut : Replied opening pass users front later p q (Some WriteFault) → CutReply opening pass users start q
    reply_cut step =
        let r = step.request in
        let output = output_of r step.answers.answer.bytes in
        let n = step.answers.sent.0 in
        record {
          bytes = far.bytes;
          requests = far.requests ++ r ∷ [];
          outputs = far.outputs;
          output = output;
          length_put = n;
          talks = Talks-push opening pass start p q far.bytes far.requests far.outputs r step.answers.moment step.answers.answer far.talks step.left step.answers.turned step.answers.read;
          first = begins (r ∷ []) (BeginsWith-one users front.number front.rest r step.gives.size step.gives.first);
          within = step.answers.sent.1;
          put = Appends-trans start.taken p.taken q.taken (concat far.outputs) (take n output) far.put step.answers.sent.2;
        }

    -- the closing refusal wasn't put whole
    closing_cut : Refused users front p q (Some WriteFault) → CutClosing opening pass users start q
    closing_cut step = record {
      bytes = far.bytes;
      requests = far.requests;
      outputs = far.outputs;
      why = step.why;
      offset = front.at;
      length_put = step.sent.0;
      talks = Talks-kept opening pass start p q far.bytes far.requests far.outputs far.talks (Keeps-same p.left q.left step.left) step.history step.readings;
      messages = messages_end (RefusedAt step.why front.at) (step.refuses.first, refl);
      within = step.sent.1;
      put = Appends-trans start.taken p.taken q.taken (concat far.outputs) (take step.sent.0 (closing_text step.why)) far.put step.sent.2;
    }

    -- ---- want of memory

    -- a reply wasn't put
    reply_missing : Replied opening pass users front later p q (Some NoMemory) → AnsweredSome opening pass users start q
    reply_missing step =
        let r = step.request in
        let output = output_of r step.answers.answer.bytes in
        record {
          bytes = far.bytes;
          requests = far.requests ++ r ∷ [];
          outputs = far.outputs ++ output ∷ [];
          put_ones = far.outputs;
          talks = Talks-push opening pass start p q far.bytes far.requests far.outputs r step.answers.moment step.answers.answer far.talks step.left step.answers.turned step.answers.read;
          first = begins (r ∷ []) (BeginsWith-one users front.number front.rest r step.gives.size step.gives.first);
          most = inr (output, refl);
          put = Appends-kept start.taken p.taken q.taken (concat far.outputs) far.put step.answers.sent;
        }

    -- nothing more was asked or put
    nothing_more : (piece : List ℕ) → Consumes p.left q.left piece → q.history ≡ p.history → q.readings ≡ p.readings → Keeps p.taken q.taken → AnsweredSome opening pass users start q
    nothing_more piece more history readings kept = record {
      bytes = far.bytes ++ piece;
      requests = far.requests;
      outputs = far.outputs;
      put_ones = far.outputs;
      talks = Talks-read opening pass start p q far.bytes piece far.requests far.outputs far.talks more history readings;
      first = subst (λ (rs : List Request). BeginsWith users 0 (far.bytes ++ piece) rs) (append-nil far.requests)
          (Passed-begins users 0 0 (far.bytes ++ piece) far.requests front.number front.at (front.rest ++ piece) []
          (Passed-fed users 0 0 far.bytes piece far.requests front.number front.at front.rest far.passed) tt);
      most = inl refl;
      put = Appends-kept start.taken p.taken q.taken (concat far.outputs) far.put kept;
    }

    keeps_all : q.left ≡ p.left → Consumes p.left q.left []
    keeps_all same = subst (λ (l : Option (List ℕ)). Consumes p.left l []) (sym same) (Consumes-nil p.left)

    memory_wanting : Wants p q (Some NoMemory) → AnsweredSome opening pass users start q
    memory_wanting wants =
        let same : q ≡ p = wants.1 in
        nothing_more [] (keeps_all (ap (λ (x : Point). x.left) same)) (ap (λ (x : Point). x.history) same) (ap (λ (x : Point). x.readings) same) (Keeps-same p.taken q.taken (ap (λ (x : Point). x.taken) same))

    -- ---- all together

    ended : (end : ServeEnd) → StepSays opening pass users front later p q (Some end) → Serves opening pass users start q end
    ended Ended (inl step) = absurd step.answers.sent
    ended Ended (inr (inl step)) = (left (Leaves true) step.receives.1 step.waits step.receives.2 step.history step.readings step.taken, step.receives.0, nothing_left start.left p.left q.left far.bytes far.talks.consumed step.receives.2 step.receives.3)
    ended Ended (inr (inr (inl step))) = absurd step.sent
    ended Ended (inr (inr (inr wants))) = let never : Some Ended ≡ Some NoMemory = wants.0 in absurd (cc)
    ended Closed (inl step) = last_answered step
    ended Closed (inr (inl step)) = absurd step.receives
    ended Closed (inr (inr (inl step))) = refusal_told step
    ended Closed (inr (inr (inr wants))) = let never : Some Closed ≡ Some NoMemory = wants.0 in absurd (cc)
    ended BrokeOff (inl step) = absurd step.answers.sent
    ended BrokeOff (inr (inl step)) = (left (Leaves false) step.receives.1 step.waits step.receives.2 step.history step.readings step.taken, step.receives.0, nothing_left start.left p.left q.left far.bytes far.talks.consumed step.receives.2 step.receives.3)
    ended BrokeOff (inr (inr (inl step))) = absurd step.sent
    ended BrokeOff (inr (inr (inr wants))) = let never : Some BrokeOff ≡ Some NoMemory = wants.0 in absurd (cc)
    ended ReadFault (inl step) = absurd step.answers.sent
    ended ReadFault (inr (inl step)) = left IsLeft tt step.waits step.receives step.history step.readings step.taken
    ended ReadFault (inr (inr (inl step))) = absurd step.sent
    ended ReadFault (inr (inr (inr wants))) = let never : Some ReadFault ≡ Some NoMemory = wants.0 in absurd (cc)
    ended WriteFault (inl step) = inl (reply_cut step)
    ended WriteFault (inr (inl step)) = absurd step.receives
    ended WriteFault (inr (inr (inl step))) = inr (closing_cut step)
    ended WriteFault (inr (inr (inr wants))) = let never : Some WriteFault ≡ Some NoMemory = wants.0 in absurd (cc)
    ended NoMemory (inl step) = reply_missing step
    ended NoMemory (inr (inl step)) = nothing_more step.receives.0 step.receives.1 step.history step.readings (Keeps-same p.taken q.taken step.taken)
    ended NoMemory (inr (inr (inl step))) = nothing_more [] (keeps_all step.left) step.history step.readings step.sent
    ended NoMemory (inr (inr (inr wants))) = memory_wanting wants

-- ---- at the loop

-- a connection that found no memory before its first read
pub never_begun : (opening : State) (pass : ℕ) (users : List User) (start : Point) → AnsweredSome opening pass users start start
never_begun opening pass users start =
    memory_wanting opening pass users start new_front start (begun opening pass users start new_front refl) new_front start (refl, refl)

module _ (opening now_opening : State) (pass now_pass : ℕ) (users : List User) (start : Point) (front later : FrontState) (p q : Point) where
  -- the turn's opening state and pass are still those of the start
  abbrev Step : Option ServeEnd → Type 0
  Step result = StepSays now_opening now_pass users front later p q result

  same_step : (result : Option ServeEnd) → now_opening ≡ opening → now_pass ≡ pass → Step result → StepSays opening pass users front later p q result
  same_step result first second step =
      subst (λ (o : State). StepSays o pass users front later p q result) first
      (subst (λ (k : ℕ). StepSays now_opening k users front later p q result) second step)

  pub ends_now : (end : ServeEnd) → now_opening ≡ opening → now_pass ≡ pass → SoFar opening pass users start front p → Step (Some end) → Serves opening pass users start q end
  ends_now end first second far step = ended opening pass users start front p far later q end (same_step (Some end) first second step)

  pub goes_on_now : now_opening ≡ opening → now_pass ≡ pass → SoFar opening pass users start front p → Step None → SoFar opening pass users start later q
  goes_on_now first second far step = goes_on opening pass users start front later p q far (same_step None first second step)

  pub smaller_now : now_opening ≡ opening → now_pass ≡ pass → SoFar opening pass users start front p → Step None → measure later < measure front
  smaller_now first second far step = smaller opening pass users start front later p q far (same_step None first second step)
