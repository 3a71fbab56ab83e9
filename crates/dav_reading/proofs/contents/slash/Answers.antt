use Rattle.std.proofs.Common.{◌∙◌}
use Rattle.dav_reading.proofs.Slashes.{slash_ok, slash_err}
use Rattle.dav_reading.proofs.contents.slash.Goals as goal
use Rattle.dav_reading.proofs.contents.slash.Goals.{in-Ok, in-Err}

pub returns-then-b-eq62 : goal.returns-then-b-eq62
returns-then-b-eq62 c = elim c.match-leave.branch [
  | in-Ok w ↦ rw w.result-is (slash_ok c.args.progress c.in_ok-inside.inside w.in-Ok.progress c.args.tag c.get.result.now c.args.b c.if-b-eq62.true c.in_ok-inside.ensures (c.get.ensures ∙ c.in_ok-name.ensures) w.in-Ok.ensures)
  | in-Err w ↦ rw w.result-is (slash_err c.args.progress c.in_ok-inside.inside c.args.tag c.get.result.now c.args.b w.in-Err.fault c.if-b-eq62.true c.in_ok-inside.ensures (c.get.ensures ∙ c.in_ok-name.ensures) w.in-Err.ensures)
]
