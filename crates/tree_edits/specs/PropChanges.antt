-- Changes of properties, of which one that sets has a value.
use Rattle.std.specs.Prelude.{ℕ, List, Option, Some, None}
use Rattle.dsv_base.specs.declared.prop.Prop.{Prop}
use Rattle.rev_nodes.specs.declared.change.Change.{Change}
use Rattle.rev_nodes.specs.declared.change.Change.TheVariants.{SetProp, DelProp}
use Rattle.rev_nodes.specs.Changes.{with_prop, without_prop}

-- the change that sets a property of the node at a path to a value, or removes it where there is none
abbrev pub prop_change : List ℕ → List ℕ → Option (List ℕ) → Change
prop_change path name None = DelProp path name
prop_change path name (Some value) = SetProp path name value

-- the properties after a change of one of them
abbrev pub changed_props : List ℕ → Option (List ℕ) → List Prop → List Prop
changed_props name None props = without_prop name props
changed_props name (Some value) props = with_prop (record { name = name; value = value }) props
