use Rattle.std.proofs.Common.{◌+◌, length, take, drop, arith, subst, sym, ap, ◌∙◌, length-take}
use Rattle.http_front.specs.declared.chunk_step.ChunksEnd.TheVariants.{Waits}
use Rattle.http_front.specs.Advances.{request_with}
use Rattle.http_front.specs.Chunks.{IsContent}
use Rattle.http_front.specs.Messages.{IsFirst}
use Rattle.http_front.specs.Outcomes.{Whole, Part}
use Rattle.http_front.specs.Readings.{ChunksSay, ReadsChunks}
use Rattle.http_front.proofs.AdvanceLemmas.{first_chunked, first_chunks_open, first_chunks_long}
use Rattle.http_front.proofs.ContentLemmas.{content_size}
use Rattle.http_front.proofs.SectionLemmas.{head_size}
use Rattle.http_front.proofs.advancing.advance_chunks.Goals as goal

pub overflow_add-len : goal.overflow_add-len
overflow_add-len c =
    let ended : IsContent (take 134217728 (drop c.args.head.len c.args.bytes.now)) (Whole c.read.new.self.body.items c.in-Ended.used) = subst (λ t. IsContent t (Whole c.read.new.self.body.items c.in-Ended.used)) (c.front_bytes.ensures ∙ ap (take 134217728) c.rest_from-after.ensures) (subst (ChunksSay c.front_bytes.result.now c.read.new.self) c.in-Ended.is c.in_ok-used.ensures) in
    omega (arith, content_size (take 134217728 (drop c.args.head.len c.args.bytes.now)) c.read.new.self.body.items c.in-Ended.used ended, length-take 134217728 (drop c.args.head.len c.args.bytes.now), (head_size c.args.bytes.now c.args.head.len c.requires.framed.head_is.ends).2)

pub returns-then-after-gt-MOST_ENCODED_BYTES : goal.returns-then-after-gt-MOST_ENCODED_BYTES
returns-then-after-gt-MOST_ENCODED_BYTES c = λ users number.
    let waits : ChunksSay c.front_bytes.result.now c.read.new.self Waits = subst (ChunksSay c.front_bytes.result.now c.read.new.self) c.in-Waits.is c.in_ok-used.ensures in
    first_chunks_long users number c.args.bytes.now c.args.head c.requires.framed
    (subst (λ t. IsContent t Part) (c.front_bytes.ensures ∙ ap (take 134217728) c.rest_from-after.ensures) waits.1)
    (omega (arith, ap length c.rest_from-after.ensures))

pub returns-in-Ended : goal.returns-in-Ended
returns-in-Ended c = λ users number.
    let ended : IsContent (take 134217728 (drop c.args.head.len c.args.bytes.now)) (Whole c.read.new.self.body.items c.in-Ended.used) = subst (λ t. IsContent t (Whole c.read.new.self.body.items c.in-Ended.used)) (c.front_bytes.ensures ∙ ap (take 134217728) c.rest_from-after.ensures) (subst (ChunksSay c.front_bytes.result.now c.read.new.self) c.in-Ended.is c.in_ok-used.ensures) in
    subst (λ b. IsFirst users number c.args.bytes.now (Whole (request_with users number c.args.head b) (c.args.head.len + c.in-Ended.used))) (sym c.from_vec.ensures)
    (first_chunked users number c.args.bytes.now c.args.head c.requires.framed c.read.new.self.body.items c.in-Ended.used ended)

pub returns-else-after-gt-MOST_ENCODED_BYTES : goal.returns-else-after-gt-MOST_ENCODED_BYTES
returns-else-after-gt-MOST_ENCODED_BYTES c =
    let waits : ChunksSay c.front_bytes.result.now c.read.new.self Waits = subst (ChunksSay c.front_bytes.result.now c.read.new.self) c.in-Waits.is c.in_ok-used.ensures in (
      λ users number.
          first_chunks_open users number c.args.bytes.now c.args.head c.requires.framed
          (subst (λ t. IsContent t Part) (c.front_bytes.ensures ∙ ap (take 134217728) c.rest_from-after.ensures) waits.1)
          (omega (arith, ap length c.rest_from-after.ensures)),
      (c.requires.framed, subst (λ t. ReadsChunks t c.read.new.self) (c.front_bytes.ensures ∙ ap (take 134217728) c.rest_from-after.ensures) waits.0),
    )
