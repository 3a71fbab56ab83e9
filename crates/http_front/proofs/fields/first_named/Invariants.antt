use Rattle.std.proofs.Common.{◌≡◌, drop}
use Rattle.std.specs.List.{find}
use Rattle.http_front.specs.Fields.{is_named}
use Rattle.http_front.proofs.fields.first_named.Given as goal

-- no field so far has the name
abbrev pub invariant-fields : goal.invariant-fields
invariant-fields l = find (is_named l.name) (drop l.field-index l.fields) ≡ find (is_named l.name) l.fields
