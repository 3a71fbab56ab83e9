use Rattle.std.proofs.Common.{◌≡◌, ◌++◌, drop}
use Rattle.dav_reading.specs.LineEnds.{ends_joined, lines_joined}
use Rattle.dav_reading.proofs.line_ends.lines_joined.Given as goal

abbrev pub invariant-bytes : goal.invariant-bytes
invariant-bytes l = l.out.items ++ ends_joined l.after (drop l.b-index l.text) ≡ lines_joined l.text
