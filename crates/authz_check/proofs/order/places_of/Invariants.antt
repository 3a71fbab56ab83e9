use Rattle.std.proofs.Common.{◌≡◌, ℕ, ◌<◌, true, Some}
use Rattle.std.specs.List.{Contains, slice_get}
use Rattle.authz_file.specs.declared.rule.Rule.{Rule}
use Rattle.authz_check.specs.Everywhere.{speaks_of}
use Rattle.authz_check.proofs.order.places_of.Given as goal

-- the rules so far that speak of the repository have their places
abbrev pub invariant-rules : goal.invariant-rules
invariant-rules l = (i : ℕ) (rule : Rule) → slice_get l.rules i ≡ Some rule → speaks_of l.name rule ≡ true → i < l.at → Contains l.places.items i
