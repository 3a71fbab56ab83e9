-- The calls of one connection, one after another.
use Rattle.std.specs.Prelude.{ℕ, ◌≡◌, List, [], ◌∷◌}
use Rattle.http_front.specs.declared.request.Request.{Request}
use Rattle.dav_replies.specs.declared.refusal.Refusal.TheVariants.{NoMemory}
use Rattle.dav_replies.specs.Refusals.{refusal_bytes}
use Rattle.dav_machine.specs.declared.answer.Answer.{Answer}
use Rattle.dav_machine.specs.declared.call.Call.{Call}
use Rattle.dav_machine.specs.declared.outgoing.Outgoing.{Outgoing}
use Rattle.dav_machine.specs.declared.outgoing.Outgoing.TheVariants as outgoing
use Rattle.dav_machine.specs.Histories.{HistoryEntry}
use Rattle.dav_machine.specs.Chains.{is_head}
use Rattle.dav_machine.specs.Clients.{client_of}
use Rattle.dav_machine.specs.States.{State}
use Rattle.dav_machine.specs.Turns.{Turned}

-- a call of this pass, for this request at this moment
abbrev pub call_of : ℕ → Request → ℕ → Call
call_of pass request moment = record { pass = pass; request = request; moment = moment }

-- what is sent for an answer: its bytes, or the reply for want of memory
abbrev pub output_of : Request → Outgoing → List ℕ
output_of request (outgoing.Bytes bytes) = bytes
output_of request outgoing.NoMemory = refusal_bytes (client_of request) NoMemory (is_head request) request.last

-- these requests at these moments have these outputs, between the history at the last call's point before
-- them and that at the last one's
abbrev pub Talk : State → List HistoryEntry → ℕ → List Request → List ℕ → List (List ℕ) → List HistoryEntry → Type 0
Talk opening front pass [] [] [] later = later ≡ front
Talk opening front pass [] [] (output ∷ outputs) later = ⊥
Talk opening front pass [] (moment ∷ moments) outputs later = ⊥
Talk opening front pass (request ∷ requests) [] outputs later = ⊥
Talk opening front pass (request ∷ requests) (moment ∷ moments) [] later = ⊥
Talk opening front pass (request ∷ requests) (moment ∷ moments) (output ∷ outputs) later =
    (middle : List HistoryEntry)
    × (answer : Answer)
    × Turned opening front pass (call_of pass request moment) answer middle
    × (output ≡ output_of request answer.bytes)
    × Talk opening middle pass requests moments outputs later
