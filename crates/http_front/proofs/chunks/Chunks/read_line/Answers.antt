use Rattle.std.proofs.Common.{refl, subst}
use Rattle.http_front.specs.declared.message_fault.MessageFault.TheVariants.{BadMessage}
use Rattle.http_front.specs.declared.size_line.SizeLine.TheVariants.{Unreadable}
use Rattle.http_front.specs.Chunks.{IsSizeLine}
use Rattle.http_front.specs.Outcomes.{Refused}
use Rattle.http_front.proofs.ReadingLemmas.{content_from}
use Rattle.http_front.proofs.chunks.Chunks.read_line.Goals as goal

pub returns-in-Unreadable : goal.returns-in-Unreadable
returns-in-Unreadable c =
    content_from c.args.bytes.now c.args.self.now.body.items c.args.self.now.used Unreadable (Refused BadMessage) c.requires.reads.chunks
    (subst (λ t. IsSizeLine t Unreadable) c.rest_from.ensures c.in-Unreadable.ensures) refl
