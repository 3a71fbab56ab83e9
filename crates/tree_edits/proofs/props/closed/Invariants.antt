use Rattle.std.proofs.Common.{◌≡◌, ◌++◌, ◌∷◌, [], take}
use Rattle.tree_edits.proofs.props.closed.Given as goal

abbrev pub invariant-rest : goal.invariant-rest
invariant-rest l = l.new.items ≡ (l.fn.before.items ++ record { name = l.name; value = l.value } ∷ []) ++ take l.prop-index l.rest
