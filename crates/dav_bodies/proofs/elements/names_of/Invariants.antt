use Rattle.std.proofs.Common.{◌≡◌, ◌++◌, drop, map}
use Rattle.dav_bodies.specs.Elements.{elements_in, name_of_elem}
use Rattle.dav_bodies.proofs.elements.names_of.Given as goal

abbrev pub invariant-parts : goal.invariant-parts
invariant-parts l = l.names ++ map name_of_elem (elements_in (drop l.part-index l.parts)) ≡ map name_of_elem (elements_in l.parts)
