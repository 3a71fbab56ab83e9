use Rattle.std.proofs.Common.{◌≤◌, reverse, refl, sym, ap, subst, ◌∙◌, arith}
use Rattle.tree_settling.specs.Listed.{AreBehind}
use Rattle.tree_settling.specs.Settled.{IsMadeOf}
use Rattle.tree_settling.proofs.Lists.{reversed-push}
use Rattle.tree_settling.proofs.Turns.{turned_first, next_within, next_behind, next_turned}
use Rattle.tree_settling.proofs.settling.settle_all.Goals as goal

pub touches-init : goal.touches-init
touches-init c = record {
  within = omega arith;
  turned = turned_first c.args.cells.now c.args.touches.now c.requires.sound c.args.more.now.items c.requires.none (reverse c.in_ok-made.made.items) (ap reverse c.in_ok-made.ensures.items) _ refl;
}

pub settle_one-requires-clause-on : goal.settle_one-requires-clause-on
settle_one-requires-clause-on c =
    let some : 1 ≤ c.touches.left = (let h = c.touches-test.true in omega (arith, h)) in
    next_within c.args.cells.now c.args.touches.now c.touches.more.items (reverse c.touches.made.items) c.touches.left c.index-touches-left.result some c.touches.invariant.within c.index-touches-left.is c.touches.invariant.turned c.requires.touched c.requires.sound

pub settle_one-requires-clause-behind : goal.settle_one-requires-clause-behind
settle_one-requires-clause-behind c =
    let some : 1 ≤ c.touches.left = (let h = c.touches-test.true in omega (arith, h)) in
    subst (λ xs. AreBehind c.index-touches-left.result.0 (reverse xs)) (sym c.as_slice.ensures.value)
    (next_behind c.args.cells.now c.args.touches.now c.touches.more.items (reverse c.touches.made.items) c.touches.left c.index-touches-left.result some c.touches.invariant.within c.index-touches-left.is c.touches.invariant.turned c.requires.touched c.requires.sound)

pub touches-preserved : goal.touches-preserved
touches-preserved c =
    let some : 1 ≤ c.touches.left = (let h = c.touches-test.true in omega (arith, h)) in
    let last = c.index-touches-left.result in
    let made : IsMadeOf c.args.cells.now (reverse c.touches.made.items) last.0 last.1 c.touches.more.items c.settle_one.new.more.items c.in_ok-one.one =
    subst (λ xs. IsMadeOf c.args.cells.now (reverse xs) last.0 last.1 c.touches.more.items c.settle_one.new.more.items c.in_ok-one.one) c.as_slice.ensures.value c.in_ok-one.ensures in
    record {
      within = let w = c.touches.invariant.within in omega (arith, w);
      turned = next_turned c.args.cells.now c.args.touches.now c.touches.more.items (reverse c.touches.made.items) c.touches.left last some c.touches.invariant.within c.index-touches-left.is c.touches.invariant.turned c.requires.touched c.requires.sound
          c.settle_one.new.more.items c.in_ok-one.one made (reverse c.push.new.self.items) (ap reverse c.in_ok-push.ensures.items ∙ reversed-push c.touches.made.items c.in_ok-one.one);
    }
