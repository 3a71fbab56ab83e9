-- What the answer for a refusal says.
use Rattle.std.proofs.Common.{◌≡◌, ℕ, List, ◌⊎◌, refl, sym, ap, ◌∙◌, subst}
use Rattle.http_front.specs.declared.next.Next.{Next}
use Rattle.http_front.specs.declared.phase.Phase.TheVariants.{Stopped}
use Rattle.http_front.specs.declared.message_fault.MessageFault.{MessageFault}
use Rattle.http_front.specs.declared.message_fault.MessageFault.TheVariants.{BadMessage, HeadTooLarge, BodyTooLarge}
use Rattle.http_front.specs.declared.user.User.{User}
use Rattle.http_front.specs.Answers.{NextSays, GivesRefusal, Refuses, refusal_next}
use Rattle.http_front.specs.Fronts.{FrontState, stopped}

by_fault : (users : List User) (old new : FrontState) (why : MessageFault) → GivesRefusal users old new why → NextSays users old new (refusal_next why old.at)
by_fault users old new BadMessage g = (g, refl)
by_fault users old new HeadTooLarge g = g
by_fault users old new BodyTooLarge g = g

pub refusal_says : (users : List User) (old new : FrontState) (why : MessageFault) (at : ℕ) (next : Next) → new ≡ stopped why old → at ≡ old.at → next ≡ refusal_next why at
    → Refuses users old why ⊎ (old.phase ≡ Stopped why) → NextSays users old new next
refusal_says users old new why at next stops here is when =
    subst (NextSays users old new) (sym (is ∙ ap (refusal_next why) here)) (by_fault users old new why (record { stops = stops; when = when }))
