use Rattle.std.proofs.Common.{◌≡◌, drop}
use Rattle.std.specs.List.{list_any}
use Rattle.prop_values.specs.Responses.{has_value}
use Rattle.prop_values.proofs.found.any_found.Given as goal

-- none so far has a value
abbrev pub invariant-names : goal.invariant-names
invariant-names l = list_any (has_value l.sources.told.now l.sources.subject.now) (drop l.asked-index l.names) ≡ list_any (has_value l.sources.told.now l.sources.subject.now) l.names
