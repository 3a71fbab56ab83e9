use Rattle.std.proofs.Common.{◌≡◌, ◌++◌, drop}
use Rattle.prop_values.proofs.query.looked_up.Given as goal

-- those that were looked up, and then those that are left
abbrev pub invariant-names : goal.invariant-names
invariant-names l = l.all.items ++ drop l.name-index l.names ≡ l.names
