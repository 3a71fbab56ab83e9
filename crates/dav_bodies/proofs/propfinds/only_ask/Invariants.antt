use Rattle.std.proofs.Common.{◌≡◌, ◌++◌, drop, option_copied, option_to_list}
use Rattle.std.specs.List.{filter}
use Rattle.dav_bodies.specs.Elements.{elements_in}
use Rattle.dav_bodies.specs.Propfinds.{is_ask}
use Rattle.dav_bodies.proofs.propfinds.only_ask.Given as goal

abbrev pub invariant-parts : goal.invariant-parts
invariant-parts l = option_to_list (option_copied l.found) ++ filter is_ask (elements_in (drop l.part-index l.parts)) ≡ filter is_ask (elements_in l.parts)
