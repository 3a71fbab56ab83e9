use Rattle.std.proofs.Common.{◌≡◌, ◌≤◌, drop}
use Rattle.dav_reading.specs.References.{decimal_after}
use Rattle.dav_reading.proofs.references.decimal.Given as goal

abbrev pub invariant-digits : goal.invariant-digits
invariant-digits l = record {
  read : decimal_after l.number (drop l.b-index l.digits) ≡ decimal_after 0 l.digits;
  small : l.number ≤ 11141119;
}
