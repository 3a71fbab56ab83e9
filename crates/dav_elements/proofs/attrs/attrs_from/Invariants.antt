use Rattle.std.proofs.Common.{◌≡◌, ◌++◌, drop}
use Rattle.std.specs.Prelude.{option_map}
use Rattle.dav_elements.specs.Opening.{attrs_from}
use Rattle.dav_elements.proofs.attrs.attrs_from.Given as goal

-- the attributes so far and those of what is left are those of all
abbrev pub invariant-raws : goal.invariant-raws
invariant-raws l = option_map (λ more. l.attrs.items ++ more) (attrs_from l.spaces (drop l.raw-index l.raws)) ≡ attrs_from l.spaces l.raws
