use Rattle.std.proofs.Common.{◌≡◌, length}
use Rattle.http_front.specs.Fields.{values_named}
use Rattle.http_front.proofs.fields.field_named.Given as goal

-- no field so far has the name
abbrev pub invariant-fields : goal.invariant-fields
invariant-fields l = values_named l.name l.rest ≡ values_named l.fn.name l.fn.fields

abbrev pub decreases-fields : goal.decreases-fields
decreases-fields l = length l.rest
