use Rattle.std.proofs.Common.{◌≡◌, map, take}
use Rattle.http_front.specs.Heads.{field_at}
use Rattle.http_front.proofs.heads.fields_of.Given as goal

-- the fields so far
abbrev pub invariant-headers : goal.invariant-headers
invariant-headers l = l.fields.items ≡ map (field_at l.text) (take l.header-index l.headers)
