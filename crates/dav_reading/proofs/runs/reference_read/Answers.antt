use Rattle.std.proofs.Common.{◌∙◌, ◌++◌, ap}
use Rattle.dav_reading.proofs.Running.{referred_run}
use Rattle.dav_reading.proofs.runs.reference_read.Goals as goal

pub returns-clause-goes : goal.returns-clause-goes
returns-clause-goes c = λ at on. referred_run c.args.run at on c.args.read.items c.args.word.now c.args.behind.now c.in_ok-bytes.bytes c.extend_from_slice.new.self.items c.in_ok-read.read.items c.in_ok-read.rest.now c.in_ok-bytes.ensures (c.in_ok-extend_from_slice.ensures.items ∙ ap (λ b. c.args.read.items ++ b) c.get.ensures) c.in_ok-read.ensures.left
