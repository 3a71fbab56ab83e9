use Rattle.std.proofs.Common.{◌≡◌, take}
use Rattle.std.specs.List.{flat_map}
use Rattle.dav_elements.specs.Bindings.{bindings_of}
use Rattle.dav_elements.proofs.binding.bound_in_tag.Given as goal

abbrev pub invariant-raws : goal.invariant-raws
invariant-raws l = l.own.items ≡ flat_map bindings_of (take l.raw-index l.raws)
