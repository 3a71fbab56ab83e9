use Rattle.std.proofs.Common.{arith}
use Rattle.hub_turn.specs.Starts.{start_over}
use Rattle.hub_turn.proofs.Dealing.{founds}
use Rattle.hub_turn.proofs.starting.start.Goals as goal

pub put_hub-requires-clause-founding : goal.put_hub-requires-clause-founding
put_hub-requires-clause-founding g c =
    founds (start_over g.H.Core.told c.args.hub c.args.passes) c.in-Some.ready.seat.me (omega arith) c.in-Some.ensures.seat
