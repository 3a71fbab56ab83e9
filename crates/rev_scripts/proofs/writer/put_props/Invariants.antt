use Rattle.std.proofs.Common.{◌≡◌, ◌++◌, take}
use Rattle.std.specs.List.{flat_map}
use Rattle.rev_scripts.specs.Written.{prop_text}
use Rattle.rev_scripts.proofs.writer.put_props.Given as goal

-- those so far were put
abbrev pub invariant-props : goal.invariant-props
invariant-props l = l.out.items ≡ l.fn.out.items ++ flat_map prop_text (take l.prop-index l.props)
