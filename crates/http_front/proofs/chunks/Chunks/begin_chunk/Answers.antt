use Rattle.std.proofs.Common.{drop, arith}
use Rattle.http_front.specs.declared.message_fault.MessageFault.TheVariants.{BodyTooLarge}
use Rattle.http_front.specs.declared.size_line.SizeLine.TheVariants.{Line}
use Rattle.http_front.specs.Outcomes.{Refused}
use Rattle.http_front.proofs.ReadingLemmas.{content_from, large_step}
use Rattle.http_front.proofs.chunks.Chunks.begin_chunk.Goals as goal

pub returns-then-size-len : goal.returns-then-size-len
returns-then-size-len c =
    content_from c.args.bytes.now c.args.self.now.body.items c.args.self.now.used (Line c.args.len c.args.size) (Refused BodyTooLarge) c.requires.reads.chunks c.requires.line
    (large_step c.args.self.now.body.items (drop c.args.self.now.used c.args.bytes.now) c.args.len c.args.size (omega arith) (omega arith))
