use Rattle.std.proofs.Common.{◌≡◌, ◌≤◌, ◌+◌, ◌-◌, length, drop}
use Rattle.http_front.specs.Sections.{blank_length}
use Rattle.http_front.proofs.scan.blank_length.Given as goal

abbrev pub invariant-ends : goal.invariant-ends
invariant-ends l = record {
  within : l.at ≤ length l.bytes;
  so_far : blank_length l.bytes ≡ l.at + blank_length (drop l.at l.bytes);
}

abbrev pub decreases-ends : goal.decreases-ends
decreases-ends l = length l.bytes - l.at
