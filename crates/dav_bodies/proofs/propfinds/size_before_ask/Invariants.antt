use Rattle.std.proofs.Common.{◌≡◌, ◌+◌, drop}
use Rattle.dav_bodies.specs.Elements.{elements_in, size_of_all, items_before}
use Rattle.dav_bodies.specs.Propfinds.{is_ask}
use Rattle.dav_bodies.proofs.propfinds.size_before_ask.Given as goal

abbrev pub invariant-parts : goal.invariant-parts
invariant-parts l = l.size + size_of_all (items_before is_ask (elements_in (drop l.part-index l.parts))) ≡ size_of_all (items_before is_ask (elements_in l.parts))
