use Rattle.std.proofs.Common.{◌≡◌, ◌++◌, length}
use Rattle.rev_nodes.specs.Changes.{with_prop}
use Rattle.tree_edits.proofs.props.with_prop.Given as goal

abbrev pub invariant-front : goal.invariant-front
invariant-front l = l.new.items ++ with_prop (record { name = l.name; value = l.value }) l.rest ≡ with_prop (record { name = l.name; value = l.value }) l.props

abbrev pub decreases-front : goal.decreases-front
decreases-front l = length l.rest
