use Rattle.std.proofs.Common.{ℕ, ◌<◌, ◌≤◌}
use Rattle.std.specs.Prelude.{slice_index}
use Rattle.authz_file.specs.Groups.{named_at}
use Rattle.authz_file.specs.Searching.{Has}
use Rattle.authz_file.proofs.ranks.never_rise.Given as goal

-- so far the ranks don't rise
abbrev pub invariant-entries : goal.invariant-entries
invariant-entries l = (place named : ℕ) → place < l.place → Has (named_at l.graph place) named → slice_index l.ranks named ≤ slice_index l.ranks place
