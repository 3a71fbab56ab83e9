use Rattle.std.proofs.Common.{◌≡◌, false}
use Rattle.std.specs.Prelude.{All}
use Rattle.rows.proofs.serve_rows.doors_of.Given as goal

abbrev pub invariant-doors : goal.invariant-doors
invariant-doors l = All (λ d. d.door.out ≡ false) l.doors.items
