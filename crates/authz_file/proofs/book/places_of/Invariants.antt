use Rattle.std.proofs.Common.{take}
use Rattle.authz_file.specs.Searching.{FindsLabels}
use Rattle.authz_file.proofs.book.places_of.Given as goal

-- the places of the entries so far
abbrev pub invariant-entries : goal.invariant-entries
invariant-entries l = FindsLabels l.places (λ k. k.items) (take l.at l.entries)
