use Rattle.std.proofs.Common.{◌≡◌, drop}
use Rattle.std.specs.List.{find}
use Rattle.prop_values.specs.PropTags.{same_name, dead_name}
use Rattle.prop_values.proofs.dead.value_among.Given as goal

-- none so far has the name
abbrev pub invariant-values : goal.invariant-values
invariant-values l = find (λ named. same_name (dead_name named.0) l.name) (drop l.named-index l.values) ≡ find (λ named. same_name (dead_name named.0) l.name) l.values
