use Rattle.std.proofs.Common.{arith, ◌∙◌}
use Rattle.dav_elements.proofs.SpaceMaps.{spaces_more}
use Rattle.dav_elements.proofs.layer.spaces_of.Goals as goal

pub bounds-preserved-in_ok-insert : goal.bounds-preserved-in_ok-insert
bounds-preserved-in_ok-insert c = record {
  within = omega (arith, c.bounds.invariant.within);
  finds = spaces_more (λ k. k.items) c.bounds.spaces c.insert.new.self c.args.bounds.now c.bounds.left c.index-bounds-left.result c.in_ok-prefix.prefix c.in_ok-space.space
      c.in_ok-insert.ensures.entries (c.in_ok-prefix.ensures.items ∙ c.get.ensures) c.in_ok-space.ensures c.bounds-test.true c.bounds.invariant.within c.index-bounds-left.is c.bounds.invariant.finds;
}

pub bounds-preserved : goal.bounds-preserved
bounds-preserved c = record {
  within = omega (arith, c.bounds.invariant.within);
  finds = spaces_more (λ k. k.items) c.bounds.spaces c.insert.new.self c.args.bounds.now c.bounds.left c.index-bounds-left.result c.in_ok-prefix.prefix c.in_ok-space.space
      c.in_ok-insert.ensures.entries (c.in_ok-prefix.ensures.items ∙ c.get.ensures) c.in_ok-space.ensures c.bounds-test.true c.bounds.invariant.within c.index-bounds-left.is c.bounds.invariant.finds;
}
