use Rattle.std.proofs.Common.{◌≡◌, drop}
use Rattle.std.specs.List.{flat_map}
use Rattle.std.specs.Arc.{arc_value}
use Rattle.dav_elements.specs.Names.{first_space}
use Rattle.dav_elements.proofs.bounds.find_in.Given as goal

abbrev pub invariant-layers : goal.invariant-layers
invariant-layers l = first_space (flat_map (λ layer. arc_value layer) (drop l.layer-index l.layers)) l.prefix ≡ first_space (flat_map (λ layer. arc_value layer) l.layers) l.prefix
