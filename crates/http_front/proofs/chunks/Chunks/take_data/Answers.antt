use Rattle.std.proofs.Common.{◌≡◌, ℕ, List, ◌++◌, ◌+◌, ◌≤◌, length, None, take, drop, arith, subst, ap, sym, ◌∙◌}
use Rattle.http_front.specs.declared.message_fault.MessageFault.TheVariants.{BadMessage}
use Rattle.http_front.specs.declared.stage.Stage.TheVariants.{AtLine}
use Rattle.http_front.specs.Chunks.{after_data, chunk_length}
use Rattle.http_front.specs.Outcomes.{Part, Refused}
use Rattle.http_front.specs.Readings.{IsReading}
use Rattle.http_front.proofs.ReadingLemmas.{data_bound, data_ends, data_fits, data_taken}
use Rattle.http_front.proofs.chunks.Chunks.take_data.Goals as goal

pub overflow_add-len : goal.overflow_add-len
overflow_add-len c = omega (arith, data_bound c.args.bytes.now c.args.self.now.body.items c.args.self.now.used c.args.self.now.stage c.requires.reads c.args.len c.args.size c.requires.stage)

pub returns-in_ok-extend_from_slice-in-Closed : goal.returns-in_ok-extend_from_slice-in-Closed
returns-in_ok-extend_from_slice-in-Closed c =
    let rest = drop c.args.self.now.used c.args.bytes.now in
    let closed : after_data (drop (c.args.len + c.args.size) rest) ≡ None = ap after_data (sym (c.rest_from.ensures ∙ ap (drop (c.args.len + c.args.size)) c.rest_from-chunk.ensures)) ∙ c.in-Closed.ensures in
    let taken : c.front_bytes.result.now ≡ take c.args.size (drop c.args.len rest) =
    c.front_bytes.ensures ∙ ap (take c.args.size) (c.rest_from-in-Closed.ensures ∙ ap (drop c.args.len) c.rest_from-chunk.ensures) in
    let body : c.extend_from_slice.new.self.items ≡ c.args.self.now.body.items ++ take c.args.size (drop c.args.len rest) =
    c.in_ok-extend_from_slice-in-Closed.ensures.items ∙ ap (λ (t : List ℕ). c.args.self.now.body.items ++ t) taken in
    let fits : c.args.self.now.used + chunk_length c.args.len c.args.size ≤ length c.args.bytes.now = data_fits c.args.bytes.now c.args.self.now.body.items c.args.self.now.used c.args.self.now.stage c.requires.reads c.args.len c.args.size c.requires.stage closed in (
      subst (λ b. IsReading c.args.bytes.now b (c.args.self.now.used + chunk_length c.args.len c.args.size) AtLine) (sym body) (data_taken c.args.bytes.now c.args.self.now.body.items c.args.self.now.used c.args.self.now.stage c.requires.reads c.args.len c.args.size c.requires.stage closed),
      omega (arith, fits),
    )

pub returns-in-Open : goal.returns-in-Open
returns-in-Open c = (
  c.requires.reads,
  data_ends c.args.bytes.now c.args.self.now.body.items c.args.self.now.used c.args.self.now.stage c.requires.reads c.args.len c.args.size c.requires.stage Part (ap after_data (sym (c.rest_from.ensures ∙ ap (drop (c.args.len + c.args.size)) c.rest_from-chunk.ensures)) ∙ c.in-Open.ensures),
)

pub returns-in-Wrong : goal.returns-in-Wrong
returns-in-Wrong c =
    data_ends c.args.bytes.now c.args.self.now.body.items c.args.self.now.used c.args.self.now.stage c.requires.reads c.args.len c.args.size c.requires.stage (Refused BadMessage) (ap after_data (sym (c.rest_from.ensures ∙ ap (drop (c.args.len + c.args.size)) c.rest_from-chunk.ensures)) ∙ c.in-Wrong.ensures)
