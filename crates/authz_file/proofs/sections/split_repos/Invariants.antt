use Rattle.std.proofs.Common.{◌≡◌, ◌-◌, ◌≤◌, length, take, drop}
use Rattle.authz_file.specs.Sections.{split_repos}
use Rattle.authz_file.proofs.RepositoryCut.{after_front}
use Rattle.authz_file.proofs.sections.split_repos.Given as goal

-- what is left decides
abbrev pub invariant-places : goal.invariant-places
invariant-places l = record {
  within : l.at ≤ length l.name;
  cut : after_front (take l.at l.name) (split_repos (drop l.at l.name)) ≡ split_repos l.name;
}

abbrev pub decreases-places : goal.decreases-places
decreases-places l = length l.name - l.at
