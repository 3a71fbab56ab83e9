use Rattle.std.proofs.Common.{arith, ◌∙◌, sym, subst, refl, ◌≡◌, List, []}
use Rattle.atomic_table.specs.Seated.{TableId}
use Rattle.hub_turn.specs.Passes.{PassState, IsBoard}
use Rattle.hub_turn.specs.Gatherings.{Gathered}
use Rattle.hub_turn.proofs.Gathering.{gathers_first, gathers_seat, gathers_some, gathers_more, gathers_idle, gathers_whole, nil_of, ends}
use Rattle.hub_turn.proofs.ending.end.Goals as goal

pub loop-init : goal.loop-init
loop-init g c = record {
  table = c.open-board.ensures.board.0;
  board = c.open-board.ensures.board.1;
  left = omega (arith, c.len-end.ensures);
  gathered = gathers_first c.args.passes.items c.pop.new.self.items c.in-Some.last _ _ c.requires c.in-Some.ensures.items c.open-board.ensures.seat;
}

pub gather-requires-clause-seat : goal.gather-requires-clause-seat
gather-requires-clause-seat g c =
    gathers_seat c.args.passes.items c.loop.passes.items c.pop-in-loop.new.self.items c.in-Some-pop.pass _ _ c.loop.invariant.gathered c.in-Some-pop.ensures.items

pub gather-requires-clause-some : goal.gather-requires-clause-some
gather-requires-clause-some g c = gathers_some c.args.passes.items c.loop.passes.items _ _ c.loop.invariant.gathered

pub loop-preserved : goal.loop-preserved
loop-preserved g c = record {
  table = c.loop.invariant.table ∙ sym c.gather.ensures.same;
  board = subst (λ (z : TableId). IsBoard z) (sym c.gather.ensures.same) c.loop.invariant.board;
  left = let l = c.loop.invariant.left in omega (arith, c.in-Some-pop.ensures.len);
  gathered = gathers_more c.args.passes.items c.loop.passes.items c.pop-in-loop.new.self.items c.in-Some-pop.pass _ _ _ _ c.loop.invariant.gathered c.in-Some-pop.ensures.items c.gather.ensures.seat;
}

pub take_hub_alone-hub-requires-clause-idle : goal.take_hub_alone-hub-requires-clause-idle
take_hub_alone-hub-requires-clause-idle g c = gathers_idle c.args.passes.items c.loop.passes.items _ _ c.loop.invariant.gathered

pub take_hub_alone-hub-requires-clause-whole : goal.take_hub_alone-hub-requires-clause-whole
take_hub_alone-hub-requires-clause-whole g c =
    let o = c.loop.passes.ok in
    let l = c.loop.invariant.left in
    let none : c.loop.passes.items ≡ [] = nil_of c.loop.passes.items (let o₀ = o.0 in let t = c.loop-test.false in omega arith) in
    gathers_whole c.args.passes.items c.loop.seat.table_id c.loop.seat.me
    (subst (λ (ps : List PassState). Gathered c.args.passes.items ps c.loop.seat.table_id c.loop.seat.me) none c.loop.invariant.gathered) (c.if-are_few.ensures.all refl)

pub returns : goal.returns
returns g c =
    let o = c.loop.passes.ok in
    let l = c.loop.invariant.left in
    let none : c.loop.passes.items ≡ [] = nil_of c.loop.passes.items (let o₀ = o.0 in let t = c.loop-test.false in omega arith) in
    ends g.H.Core.told c.args.passes.items c.loop.seat.table_id c.loop.seat.me _ c.take_hub_alone-hub.result
    (subst (λ (ps : List PassState). Gathered c.args.passes.items ps c.loop.seat.table_id c.loop.seat.me) none c.loop.invariant.gathered) (c.if-are_few.ensures.all refl)
    c.take_hub_alone-hub.ensures.holds c.learn.ensures
