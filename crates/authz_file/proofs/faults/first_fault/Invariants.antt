use Rattle.std.proofs.Common.{◌≡◌, drop}
use Rattle.authz_file.specs.Resolving.{faults_from}
use Rattle.authz_file.proofs.faults.first_fault.Given as goal

-- the entries that are left decide
abbrev pub invariant-entries : goal.invariant-entries
invariant-entries l = faults_from l.book l.place (drop l.place l.book) ≡ faults_from l.book 0 l.book
