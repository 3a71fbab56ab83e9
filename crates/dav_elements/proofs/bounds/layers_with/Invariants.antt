use Rattle.std.proofs.Common.{◌≡◌, ◌++◌, take}
use Rattle.std.specs.List.{flat_map}
use Rattle.std.specs.Arc.{arc_value}
use Rattle.dav_elements.proofs.bounds.layers_with.Given as goal

abbrev pub invariant-layers : goal.invariant-layers
invariant-layers l = flat_map (λ layer. arc_value layer) l.all.items ≡ arc_value l.fn.own ++ flat_map (λ layer. arc_value layer) (take l.layer-index l.others)
