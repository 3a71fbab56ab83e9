use Rattle.std.proofs.Common.{ℕ, ◌<◌, ◌≤◌, get_or}
use Rattle.std.specs.Option.{option_copied}
use Rattle.authz_check.specs.Weights.{level, weight, weight_at, top}
use Rattle.authz_check.proofs.sections.right_in.Given as goal

-- no place so far gives more than was found, and some rule gives that
abbrev pub invariant-places : goal.invariant-places
invariant-places l = record {
  reached : (k d : ℕ) → k < l.place-index → weight_at (option_copied l.user) (option_copied l.repos) l.path l.rules (get_or l.places k d) ≤ level l.best;
  attained : level l.best ≤ top (weight (option_copied l.user) (option_copied l.repos) l.path) l.rules;
}
