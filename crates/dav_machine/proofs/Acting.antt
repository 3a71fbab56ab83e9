-- As yet nothing is ever done: a history has no entries, and no state is replayed into another.
use Rattle.std.proofs.Common.{◌≡◌, ℕ, false, List, [], ◌∷◌, length, refl, ap, subst, inl, suc, arith}
use Rattle.dav_machine.specs.declared.answer.Answer.{Answer}
use Rattle.dav_machine.specs.declared.call.Call.{Call}
use Rattle.dav_machine.specs.declared.event.Event.{Event}
use Rattle.dav_machine.specs.Histories.{HistoryEntry}
use Rattle.dav_machine.specs.Hubs.{IsHubOf, entries_by_events, events_of}
use Rattle.dav_machine.specs.States.{State, youngest_of}
use Rattle.dav_machine.specs.Turns.{Acted, RepliesOnly}

-- nothing is done yet
pub opened : (opening state : State) (first now : ℕ) → state ≡ opening → now ≡ first → IsHubOf opening state [] first now
opened opening state first now same count = record {
  replayed = same;
  counted = let a = ap youngest_of same in omega (arith, a);
  failed = inl (omega (arith, count));
}

-- an answer over the present state, after which the history is the same
pub answered : (opening state : State) (history : List HistoryEntry) (first now : ℕ) (call : Call) (answer : Answer)
    → IsHubOf opening state history first now → RepliesOnly state call answer.bytes → answer.front ≡ length history → answer.own ≡ false
    → Acted opening history call answer history
answered opening state history first now call answer hub replies at_front not_own = inl (record {
  same = refl;
  bytes = subst (λ (s : State). RepliesOnly s call answer.bytes) hub.replayed replies;
  at_front = at_front;
  not_own = not_own;
})

-- each event has its name, so that all events are among the entries
pub events_of-entries : (events : List Event) (names : List (List ℕ)) → length names ≡ length events → events_of (entries_by_events events names) ≡ events
events_of-entries [] names e = refl
events_of-entries (event ∷ events) [] e = absurd (omega (arith, e))
events_of-entries (event ∷ events) (name ∷ names) e = ap (λ (es : List Event). event ∷ es) (events_of-entries events names (omega (arith, e)))

pub length-entries : (events : List Event) (names : List (List ℕ)) → length names ≡ length events → length (entries_by_events events names) ≡ length events
length-entries [] names e = refl
length-entries (event ∷ events) [] e = absurd (omega (arith, e))
length-entries (event ∷ events) (name ∷ names) e = ap (λ (n : ℕ). suc n) (length-entries events names (omega (arith, e)))
