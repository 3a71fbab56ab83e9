use Rattle.std.proofs.Common.{arith, ◌∙◌, sym, ap, subst, ◌<◌}
use Rattle.atomic_table.specs.Seated.{TableId}
use Rattle.hub_turn.proofs.Steps.{splits}
use Rattle.hub_turn.proofs.Dealing.{some_next}
use Rattle.hub_turn.proofs.starting.split.Goals as goal

pub split_seat-theirs-requires : goal.split_seat-theirs-requires
split_seat-theirs-requires g c =
    let here = ap (λ (t : _). t.shared.table_id) c.deref.ensures in
    let w = subst (λ (z : TableId). 0 < z.words) (sym here) (let q = c.room.invariant.words in omega arith) in
    (c.requires.board ∙ sym c.room.view_is ∙ sym here, w, splits g.H.Core.told _ _ _ c.requires.seat.idle (some_next _ _ _ c.requires.seat))
