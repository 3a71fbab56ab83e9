use Rattle.std.proofs.Common.{◌≡◌}
use Rattle.std.specs.Prelude.{map}
use Rattle.authz_file.proofs.names.listed.Given as goal

abbrev pub invariant-names : goal.invariant-names
invariant-names l = l.list.items ≡ map (λ k. k.items) l.yielded
