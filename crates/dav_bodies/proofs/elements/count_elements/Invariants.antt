use Rattle.std.proofs.Common.{◌≡◌, ◌+◌, ◌≤◌, drop, length}
use Rattle.dav_bodies.specs.Elements.{elements_in}
use Rattle.dav_bodies.proofs.elements.count_elements.Given as goal

abbrev pub invariant-parts : goal.invariant-parts
invariant-parts l = record {
  counted : l.count + length (elements_in (drop l.part-index l.parts)) ≡ length (elements_in l.parts);
  within : l.count ≤ l.part-index;
}
