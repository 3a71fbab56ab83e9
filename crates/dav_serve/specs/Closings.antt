-- The refusal that closes a connection.
use Rattle.std.specs.Prelude.{ℕ, List, [], true, false}
use Rattle.dav_replies.specs.declared.refusal.Refusal as reply
use Rattle.dav_replies.specs.declared.refusal.Refusal.TheVariants as replies
use Rattle.dav_replies.specs.Refusals.{refusal_bytes}
use Rattle.dav_replies.specs.declared.client.Client.TheVariants.{Plain}
use Rattle.http_front.specs.declared.message_fault.MessageFault.{MessageFault}
use Rattle.http_front.specs.declared.message_fault.MessageFault.TheVariants.{BadMessage, HeadTooLarge, BodyTooLarge}
use Rattle.http_front.specs.Messages.{End, LastGiven, Left, RefusedAt}

-- the refusal of a message, as it is told
abbrev pub told : MessageFault → reply.Refusal
told BadMessage = replies.BadMessage
told HeadTooLarge = replies.HeadTooLarge
told BodyTooLarge = replies.BodyTooLarge

-- its bytes, which say that the connection ends, and have their content whatever the method; they are the same for every
-- client, whatever its head tells
abbrev pub closing_text : MessageFault → List ℕ
closing_text why = refusal_bytes Plain (told why) false true

-- what is put where the bytes of a connection end so
abbrev pub closing : End → List ℕ
closing LastGiven = []
closing (Left rest) = []
closing (RefusedAt why offset) = closing_text why
