use Rattle.std.proofs.Common.{◌≡◌, ◌∷◌, ◌++◌, drop}
use Rattle.prop_values.proofs.dead.ended.Given as goal

-- what was made, and then the others that are left
abbrev pub invariant-rest : goal.invariant-rest
invariant-rest l = l.all.items ++ drop l.other-index l.rest ≡ l.fn.made.items ++ l.fn.named ∷ l.rest
