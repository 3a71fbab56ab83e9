use Rattle.std.proofs.Common.{arith, ◌∙◌, sym, ap, subst}
use Rattle.std.specs.Arc.{arc_value}
use Rattle.hub_turn.proofs.Dealing.{only_push}
use Rattle.hub_turn.specs.Rooms.{Only}
use Rattle.hub_turn.proofs.rooms.rooms.Goals as goal

pub loop-preserved : goal.loop-preserved
loop-preserved g c =
    let z = (arc_value c.args.board.now).shared.table_id in
    let a = c.push_reserved.ensures in
    let l = c.loop.invariant.len in
    record {
      only = subst (Only z) (sym a.items) (only_push z c.loop.rooms.items _ c.loop.invariant.only (ap (λ (t : _). t.shared.table_id) c.in-Ok-try_clone.ensures));
      len = omega (arith, a.len, l);
      room = a.capacity ∙ c.loop.invariant.room;
    }
