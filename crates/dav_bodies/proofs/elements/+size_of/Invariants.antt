use Rattle.std.proofs.Common.{◌≡◌, ◌+◌, drop}
use Rattle.dav_bodies.specs.Elements.{elements_in, size_of, size_of_all}
use Rattle.dav_bodies.proofs.elements.+size_of.Given as goal

abbrev pub invariant-parts : goal.invariant-parts
invariant-parts l = l.size + size_of_all (elements_in (drop l.part-index l.parts)) ≡ size_of l.elem
