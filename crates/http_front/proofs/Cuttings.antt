-- However the bytes are cut, and whenever the front is asked, its answers are the messages of all bytes together.
use Rattle.std.proofs.Common.{◌≡◌, ℕ, ◌+◌, true, false, List, [], ◌∷◌, ◌++◌, drop, refl, sym, ap, ◌∙◌, subst, append_assoc, append-nil, inl, inr}
use Rattle.std.specs.Prelude.{MatchBool, if◌then◌else◌}
use Rattle.std.proofs.lemmas.List.{drop-append-le}
use Rattle.http_front.specs.declared.next.Next.{Next}
use Rattle.http_front.specs.declared.next.Next.TheVariants as nexts
use Rattle.http_front.specs.declared.phase.Phase.{Phase}
use Rattle.http_front.specs.declared.phase.Phase.TheVariants.{Open, Finished, Stopped}
use Rattle.http_front.specs.declared.message_fault.MessageFault.{MessageFault}
use Rattle.http_front.specs.declared.request.Request.{Request}
use Rattle.http_front.specs.declared.user.User.{User}
use Rattle.http_front.specs.Answers.{NextSays, GivesRefusal}
use Rattle.http_front.specs.Fronts.{FrontState, new_front, fed, given, stopped}
use Rattle.http_front.specs.Messages.{IsFirst, End, LastGiven, RefusedAt, MessagesFrom, Messages}
use Rattle.http_front.specs.Outcomes.{Whole, Part}
use Rattle.http_front.specs.Runs.{Step, Fed, Asked, Run, fed_bytes, given_requests, with_request, EndsAt}
use Rattle.http_front.proofs.Laws.{whole_stable, refused_stable, whole_size}

-- no more requests come from a front that isn't open
abbrev IsShut : Phase → Type 0
IsShut Open = ⊥
IsShut Finished = Unit {0}
IsShut (Stopped why) = Unit {0}

open_is_not_shut : (p : Phase) → p ≡ Open → IsShut p → ⊥
open_is_not_shut p e s = subst IsShut e s

-- a shut front stays as it is, and gives nothing
pub record Stays (s t : FrontState) (requests : List Request) : Type 0 where
  pub same : s ≡ t
  pub none : requests ≡ []

fed_shut : (p : Phase) (s : FrontState) (piece : List ℕ) → s.phase ≡ p → IsShut p → fed s piece ≡ s
fed_shut Open s piece e shut = absurd shut
fed_shut Finished s piece e shut = rw e refl
fed_shut (Stopped why) s piece e shut = rw e refl

stopped_same : (s : FrontState) (why : MessageFault) → s.phase ≡ Stopped why → stopped why s ≡ s
stopped_same s why e = λ i. record { number = s.number; at = s.at; rest = s.rest; phase = sym e i }

stopped_not_open : (why : MessageFault) → Stopped why ≡ Open → ⊥
stopped_not_open why e = cc

fed_open : (s : FrontState) (piece : List ℕ) → s.phase ≡ Open → fed s piece ≡ record s { rest = s.rest ++ piece }
fed_open s piece e = rw e refl

module _ (users : List User) where
  refusal_shut : (s m : FrontState) (why : MessageFault) → IsShut s.phase → GivesRefusal users s m why → m ≡ s
  refusal_shut s m why shut g =
      elim g.when [
        | inl refuses ↦ absurd (open_is_not_shut s.phase refuses.is_open shut)
        | inr was ↦ g.stops ∙ stopped_same s why was
      ]

  asked_shut : (s m : FrontState) (next : Next) (requests : List Request) → IsShut s.phase → NextSays users s m next → (m ≡ s) × (with_request next requests ≡ requests)
  asked_shut s m (nexts.Request r) requests shut g = absurd (open_is_not_shut s.phase g.is_open shut)
  asked_shut s m nexts.More requests shut g = (g.same, refl)
  asked_shut s m (nexts.BadMessage at) requests shut g = (refusal_shut s m _ shut g.0, refl)
  asked_shut s m nexts.HeadTooLarge requests shut g = (refusal_shut s m _ shut g, refl)
  asked_shut s m nexts.BodyTooLarge requests shut g = (refusal_shut s m _ shut g, refl)
  asked_shut s m nexts.NoMemory requests shut g = (g, refl)

  run_shut : (steps : List Step) (s t : FrontState) → IsShut s.phase → Run users steps s t → Stays s t (given_requests steps)
  run_shut [] s t shut run = record { same = run; none = refl }
  run_shut (Fed piece ∷ steps) s t shut run =
      let here : run.0 ≡ s = run.1 ∙ fed_shut s.phase s piece refl shut in
      run_shut steps s t shut (subst (λ m. Run users steps m t) here run.2)
  run_shut (Asked next ∷ steps) s t shut run =
      let here = asked_shut s run.0 next (given_requests steps) shut run.1 in
      let rest = run_shut steps s t shut (subst (λ m. Run users steps m t) here.0 run.2) in
      record { same = rest.same; none = here.1 ∙ rest.none }

  -- what a run from an open front comes to
  abbrev pub Comes : FrontState → List ℕ → List Request → End → Type 0
  Comes s bytes requests end = MessagesFrom users s.number s.at (s.rest ++ bytes) requests end

  after_refusal : (steps : List Step) (s m t : FrontState) (why : MessageFault) (end : End) → s.phase ≡ Open → GivesRefusal users s m why → Run users steps m t → EndsAt users t.phase t end
      → Comes s (fed_bytes steps) (given_requests steps) end
  after_refusal steps s m t why end is_open g run ends =
      elim g.when [
        | inl refuses ↦
            let stays = run_shut steps (stopped why s) t tt (subst (λ k. Run users steps k t) g.stops run) in
            let end_is : end ≡ RefusedAt why s.at = subst (λ (k : FrontState). EndsAt users k.phase k end) (sym stays.same) ends in
            subst (λ rs. Comes s (fed_bytes steps) rs end) (sym stays.none)
            (subst (λ e. Comes s (fed_bytes steps) [] e) (sym end_is)
            (refused_stable users s.number s.rest (fed_bytes steps) why refuses.first, refl))
        | inr was ↦ absurd (stopped_not_open why (sym was ∙ is_open))
      ]

  after_last : (steps : List Step) (s m t : FrontState) (r : Request) (n : ℕ) (end : End) → r.last ≡ true → IsFirst users s.number s.rest (Whole r n) → m ≡ given n Finished s → Run users steps m t → EndsAt users t.phase t end
      → Comes s (fed_bytes steps) (r ∷ given_requests steps) end
  after_last steps s m t r n end last first m_is run ends =
      let stays = run_shut steps (given n Finished s) t tt (subst (λ k. Run users steps k t) m_is run) in
      let end_is : end ≡ LastGiven = subst (λ (k : FrontState). EndsAt users k.phase k end) (sym stays.same) ends in (
        n,
        whole_stable users s.number s.rest (fed_bytes steps) r n first,
        subst (λ b. MatchBool b ((given_requests steps ≡ []) × (end ≡ LastGiven)) (MessagesFrom users (s.number + 1) (s.at + n) (drop n (s.rest ++ fed_bytes steps)) (given_requests steps) end)) (sym last) (stays.none, end_is),
      )

  after_more : (s : FrontState) (bytes : List ℕ) (r : Request) (n : ℕ) (requests : List Request) (end : End) → r.last ≡ false → IsFirst users s.number s.rest (Whole r n)
      → MessagesFrom users (s.number + 1) (s.at + n) (drop n s.rest ++ bytes) requests end → Comes s bytes (r ∷ requests) end
  after_more s bytes r n requests end last first rest = (
    n,
    whole_stable users s.number s.rest bytes r n first,
    subst (λ b. MatchBool b ((requests ≡ []) × (end ≡ LastGiven)) (MessagesFrom users (s.number + 1) (s.at + n) (drop n (s.rest ++ bytes)) requests end)) (sym last)
        (subst (λ t. MessagesFrom users (s.number + 1) (s.at + n) t requests end) (sym (drop-append-le n s.rest bytes (whole_size users s.number s.rest r n first).1)) rest),
  )

  -- the same from any open front
  pub run_comes : (steps : List Step) (s t : FrontState) (end : End) → s.phase ≡ Open → Run users steps s t → EndsAt users t.phase t end → Comes s (fed_bytes steps) (given_requests steps) end
  run_comes [] s t end is_open run ends =
      let here : EndsAt users Open s end = subst (λ p. EndsAt users p s end) is_open (subst (λ (k : FrontState). EndsAt users k.phase k end) (sym run) ends) in
      subst (λ e. Comes s [] [] e) (sym here.1)
      (subst (λ b. IsFirst users s.number b Part) (sym (append-nil s.rest)) here.0, sym (append-nil s.rest))
  run_comes (Fed piece ∷ steps) s t end is_open run ends =
      let m : FrontState = record s { rest = s.rest ++ piece } in
      let m_is : run.0 ≡ m = run.1 ∙ fed_open s piece is_open in
      subst (λ b. MessagesFrom users s.number s.at b (given_requests steps) end) (append_assoc s.rest piece (fed_bytes steps))
      (run_comes steps m t end is_open (subst (λ k. Run users steps k t) m_is run.2) ends)
  run_comes (Asked (nexts.Request r) ∷ steps) s t end is_open run ends =
      let g = run.1 in
      elim r.last as (λ v. r.last ≡ v → Comes s (fed_bytes steps) (r ∷ given_requests steps) end) [
        | true ↦ λ last. after_last steps s run.0 t r g.size end last g.first (g.new_is ∙ ap (λ b. given g.size (if b then Finished else Open) s) last) run.2 ends
        | false ↦ λ last.
            let m_is : run.0 ≡ given g.size Open s = g.new_is ∙ ap (λ b. given g.size (if b then Finished else Open) s) last in
            after_more s (fed_bytes steps) r g.size (given_requests steps) end last g.first
            (run_comes steps (given g.size Open s) t end refl (subst (λ k. Run users steps k t) m_is run.2) ends)
      ] refl
  run_comes (Asked nexts.More ∷ steps) s t end is_open run ends = run_comes steps s t end is_open (subst (λ k. Run users steps k t) run.1.same run.2) ends
  run_comes (Asked (nexts.BadMessage at) ∷ steps) s t end is_open run ends = after_refusal steps s run.0 t _ end is_open run.1.0 run.2 ends
  run_comes (Asked nexts.HeadTooLarge ∷ steps) s t end is_open run ends = after_refusal steps s run.0 t _ end is_open run.1 run.2 ends
  run_comes (Asked nexts.BodyTooLarge ∷ steps) s t end is_open run ends = after_refusal steps s run.0 t _ end is_open run.1 run.2 ends
  run_comes (Asked nexts.NoMemory ∷ steps) s t end is_open run ends = run_comes steps s t end is_open (subst (λ k. Run users steps k t) run.1 run.2) ends

  -- the law: a run of a new front
  pub run_messages : (steps : List Step) (t : FrontState) (end : End) → Run users steps new_front t → EndsAt users t.phase t end → Messages users (fed_bytes steps) (given_requests steps) end
  run_messages steps t end run ends = run_comes steps new_front t end refl run ends
