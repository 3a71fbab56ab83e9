use Rattle.std.proofs.Common.{◌≡◌, ◌++◌, drop}
use Rattle.prop_values.specs.DeadValues.{named_values}
use Rattle.prop_values.proofs.dead.named_values.Given as goal

-- what was made, and then those that are left
abbrev pub invariant-props : goal.invariant-props
invariant-props l = l.values.items ++ named_values (drop l.prop-index l.props) ≡ named_values l.props
