-- From what a hub says of a call to what a turn says of it.
use Rattle.std.proofs.Common.{◌≡◌, ℕ, List, refl, sym, ap, ◌∙◌, subst, inl, inr}
use Rattle.dav_machine.specs.declared.answer.Answer.{Answer}
use Rattle.dav_machine.specs.declared.call.Call.{Call}
use Rattle.dav_machine.specs.Histories.{HistoryEntry, replay, own, IsPrefix}
use Rattle.dav_machine.specs.States.{State}
use Rattle.dav_machine.specs.Turns.{Acted, Turned, RepliesOnly}
use Rattle.dav_machine.proofs.Talking.{IsPrefix-refl}

-- a call at the end of a history that goes on from a front, with no more entries of the pass
pub acted_turns : (opening : State) (front history : List HistoryEntry) (pass : ℕ) (call : Call) (answer : Answer) (later : List HistoryEntry)
    → IsPrefix front history → own pass history ≡ own pass front → Acted opening history call answer later → Turned opening front pass call answer later
acted_turns opening front history pass call answer later grown owned acted = elim acted [
  | inl kept ↦ inl (record {
    grown = subst (λ (to : List HistoryEntry). IsPrefix front to) (sym kept.same) grown;
    owned = ap (own pass) kept.same ∙ owned;
    bytes = subst (λ (to : List HistoryEntry). RepliesOnly (replay opening to) call answer.bytes) (sym kept.same) kept.bytes;
    at_front = kept.at_front;
    not_own = kept.not_own;
  })
  | inr added ↦ inr (record {
    before = history;
    entry = added.entry;
    made = added.made;
    grown = grown;
    owned = owned;
    is_of_call = added.is_of_call;
    bytes = added.bytes;
    at_front = added.at_front;
    is_own = added.is_own;
  })
]

-- .. where nobody else extends the history
pub acted_turned : (opening : State) (history : List HistoryEntry) (pass : ℕ) (call : Call) (answer : Answer) (later : List HistoryEntry)
    → Acted opening history call answer later → Turned opening history pass call answer later
acted_turned opening history pass call answer later acted = acted_turns opening history history pass call answer later (IsPrefix-refl history) refl acted
