use Rattle.std.proofs.Common.{◌≡◌, drop}
use Rattle.std.specs.List.{list_any}
use Rattle.prop_values.specs.Records.{asks_record}
use Rattle.prop_values.proofs.query.any_asks_record.Given as goal

-- none so far is told from the record
abbrev pub invariant-names : goal.invariant-names
invariant-names l = list_any (asks_record l.subject) (drop l.asked-index l.names) ≡ list_any (asks_record l.subject) l.names
