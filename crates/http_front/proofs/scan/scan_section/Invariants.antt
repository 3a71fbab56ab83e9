use Rattle.std.proofs.Common.{◌-◌, length}
use Rattle.http_front.specs.Scans.{IsScanned}
use Rattle.http_front.proofs.scan.scan_section.Given as goal

-- read up to there
abbrev pub invariant-bytes : goal.invariant-bytes
invariant-bytes l = IsScanned l.fn.first l.bytes (record { at = l.at; place = l.place })

abbrev pub decreases-bytes : goal.decreases-bytes
decreases-bytes l = length l.bytes - l.at
