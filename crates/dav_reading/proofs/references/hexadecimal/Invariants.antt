use Rattle.std.proofs.Common.{◌≡◌, drop}
use Rattle.dav_reading.specs.References.{hex_after}
use Rattle.dav_reading.proofs.references.hexadecimal.Given as goal

abbrev pub invariant-digits : goal.invariant-digits
invariant-digits l = hex_after l.number (drop l.b-index l.digits) ≡ hex_after 0 l.digits
