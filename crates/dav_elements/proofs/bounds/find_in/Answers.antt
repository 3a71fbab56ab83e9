use Rattle.std.specs.Arc.{arc_value}
use Rattle.dav_elements.proofs.SpaceMaps.{found_here, absent_here}
use Rattle.dav_elements.proofs.bounds.find_in.Goals as goal

pub returns-in-Some : goal.returns-in-Some
returns-in-Some c =
    found_here (λ layer. arc_value layer) c.args.layers.now c.layers.layer-index c.layer-item.result c.args.prefix.now c.in-Some.space c.in_ok-found.found _ c.layers-test.true c.layer-item.is c.in_ok-found.ensures c.in-Some.is c.layers.invariant

pub layers-preserved : goal.layers-preserved
layers-preserved c =
    absent_here (λ layer. arc_value layer) c.args.layers.now c.layers.layer-index c.layer-item.result c.args.prefix.now c.in_ok-found.found _ c.layers-test.true c.layer-item.is c.in_ok-found.ensures c.in-None.is c.layers.invariant
