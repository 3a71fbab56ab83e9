-- A talk goes on by one call.
use Rattle.std.proofs.Common.{ℕ, List, [], ◌∷◌, ◌++◌, refl, subst, ◌∙◌, sym, ap, inl, inr, append-nil, append_assoc}
use Rattle.http_front.specs.declared.request.Request.{Request}
use Rattle.dav_machine.specs.declared.answer.Answer.{Answer}
use Rattle.dav_machine.specs.declared.call.Call.{Call}
use Rattle.dav_machine.specs.Histories.{HistoryEntry, IsPrefix}
use Rattle.dav_machine.specs.States.{State}
use Rattle.dav_machine.specs.Turns.{Turned}
use Rattle.dav_machine.specs.Talks.{Talk, call_of, output_of}

module _ (opening : State) (pass : ℕ) where
  -- nothing is said yet
  pub Talk-empty : (front : List HistoryEntry) → Talk opening front pass [] [] [] front
  Talk-empty front = refl

  -- one call more, at the end
  pub Talk-push : (front : List HistoryEntry) (requests : List Request) (moments : List ℕ) (outputs : List (List ℕ)) (middle later : List HistoryEntry) (request : Request) (moment : ℕ) (answer : Answer)
      → Talk opening front pass requests moments outputs middle
      → Turned opening middle pass (call_of pass request moment) answer later
      → Talk opening front pass (requests ++ request ∷ []) (moments ++ moment ∷ []) (outputs ++ output_of request answer.bytes ∷ []) later
  Talk-push front [] [] [] middle later request moment answer talk turned =
      (later, answer, subst (λ from. Turned opening from pass (call_of pass request moment) answer later) talk turned, refl, refl)
  Talk-push front [] [] (o ∷ os) middle later request moment answer talk turned = absurd talk
  Talk-push front [] (m ∷ ms) outputs middle later request moment answer talk turned = absurd talk
  Talk-push front (r ∷ rs) [] outputs middle later request moment answer talk turned = absurd talk
  Talk-push front (r ∷ rs) (m ∷ ms) [] middle later request moment answer talk turned = absurd talk
  Talk-push front (r ∷ rs) (m ∷ ms) (o ∷ os) middle later request moment answer talk turned =
      (talk.0, talk.1, talk.2, talk.3, Talk-push talk.0 rs ms os middle later request moment answer talk.4 turned)

-- ---- histories grow

pub IsPrefix-refl : (front : List HistoryEntry) → IsPrefix front front
IsPrefix-refl front = ([], sym (append-nil front))

pub IsPrefix-trans : (front middle later : List HistoryEntry) → IsPrefix front middle → IsPrefix middle later → IsPrefix front later
IsPrefix-trans front middle later p q = (p.0 ++ q.0, q.1 ∙ ap (λ (entries : List HistoryEntry). entries ++ q.0) p.1 ∙ append_assoc front p.0 q.0)

module _ (opening : State) (pass : ℕ) where
  pub Turned-grown : (front later : List HistoryEntry) (call : Call) (answer : Answer) → Turned opening front pass call answer later → IsPrefix front later
  Turned-grown front later call answer turned = elim turned [
    | inl only ↦ only.grown
    | inr more ↦ IsPrefix-trans front more.before later more.grown (more.entry ∷ [], more.made)
  ]

  pub Talk-grown : (front : List HistoryEntry) (requests : List Request) (moments : List ℕ) (outputs : List (List ℕ)) (later : List HistoryEntry) → Talk opening front pass requests moments outputs later → IsPrefix front later
  Talk-grown front [] [] [] later talk = subst (λ (to : List HistoryEntry). IsPrefix front to) (sym talk) (IsPrefix-refl front)
  Talk-grown front [] [] (o ∷ os) later talk = absurd talk
  Talk-grown front [] (m ∷ ms) outputs later talk = absurd talk
  Talk-grown front (r ∷ rs) [] outputs later talk = absurd talk
  Talk-grown front (r ∷ rs) (m ∷ ms) [] later talk = absurd talk
  Talk-grown front (r ∷ rs) (m ∷ ms) (o ∷ os) later talk =
      IsPrefix-trans front talk.0 later (Turned-grown front talk.0 (call_of pass r m) talk.1 talk.2) (Talk-grown talk.0 rs ms os later talk.4)
