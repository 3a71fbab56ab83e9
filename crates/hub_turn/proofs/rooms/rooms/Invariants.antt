use Rattle.std.proofs.Common.{◌≡◌, vec_len, vec_capacity}
use Rattle.std.specs.Arc.{arc_value}
use Rattle.hub_turn.specs.Rooms.{Only}
use Rattle.hub_turn.proofs.rooms.rooms.Given as goal

abbrev pub invariant-loop : goal.invariant-loop
invariant-loop g l = record {
  only : Only (arc_value l.fn.board).shared.table_id l.rooms.items;
  len : vec_len l.rooms ≡ l.counter;
  room : vec_capacity l.rooms ≡ l.fn.count;
}
