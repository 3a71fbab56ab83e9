use Rattle.std.proofs.Common.{◌≡◌}
use Rattle.hub_turn.proofs.Holdings.{IsQueued}
use Rattle.hub_turn.proofs.holding.take_hub.Given as goal

abbrev pub invariant-loop : goal.invariant-loop
invariant-loop g l = record {
  table : l.seat.table_id ≡ l.fn.seat.table_id;
  id : l.seat.id ≡ l.fn.seat.id;
  queued : IsQueued g.H.Core.told l.fn.seat.me.0 l.ticket l.seat.me;
}
