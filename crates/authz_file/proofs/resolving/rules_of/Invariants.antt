use Rattle.std.proofs.Common.{◌≡◌, ◌++◌, drop}
use Rattle.authz_file.specs.Resolving.{rules_from}
use Rattle.authz_file.proofs.resolving.rules_of.Given as goal

-- the rules so far, and those of the entries that are left
abbrev pub invariant-entries : goal.invariant-entries
invariant-entries l = l.list.items ++ rules_from l.book l.place (drop l.place l.book) ≡ rules_from l.book 0 l.book
