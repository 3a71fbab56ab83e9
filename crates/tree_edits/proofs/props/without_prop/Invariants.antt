use Rattle.std.proofs.Common.{◌≡◌, ◌++◌, drop}
use Rattle.rev_nodes.specs.Changes.{without_prop}
use Rattle.tree_edits.proofs.props.without_prop.Given as goal

abbrev pub invariant-props : goal.invariant-props
invariant-props l = l.new.items ++ without_prop l.name (drop l.prop-index l.props) ≡ without_prop l.name l.props
