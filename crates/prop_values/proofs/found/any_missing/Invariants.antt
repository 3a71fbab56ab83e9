use Rattle.std.proofs.Common.{◌≡◌, not, drop}
use Rattle.std.specs.List.{list_any}
use Rattle.prop_values.specs.Responses.{has_value}
use Rattle.prop_values.proofs.found.any_missing.Given as goal

-- none so far has no value
abbrev pub invariant-names : goal.invariant-names
invariant-names l = list_any (λ name. not (has_value l.sources.told.now l.sources.subject.now name)) (drop l.asked-index l.names) ≡ list_any (λ name. not (has_value l.sources.told.now l.sources.subject.now name)) l.names
