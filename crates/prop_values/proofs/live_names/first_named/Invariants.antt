use Rattle.std.proofs.Common.{◌≡◌, drop}
use Rattle.std.specs.List.{find}
use Rattle.prop_values.specs.PropTags.{same_name}
use Rattle.prop_values.specs.LiveNames.{live_name}
use Rattle.prop_values.proofs.live_names.first_named.Given as goal

-- no live property so far has the name
abbrev pub invariant-lives : goal.invariant-lives
invariant-lives l = find (λ live. same_name (live_name live) l.name) (drop l.live-index l.lives) ≡ find (λ live. same_name (live_name live) l.name) l.lives
