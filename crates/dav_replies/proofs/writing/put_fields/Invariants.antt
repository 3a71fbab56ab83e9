use Rattle.std.proofs.Common.{◌≡◌, ◌++◌, take}
use Rattle.std.specs.List.{flat_map}
use Rattle.dav_replies.specs.Replies.{field_text}
use Rattle.dav_replies.proofs.writing.put_fields.Given as goal

-- the fields so far were put
abbrev pub invariant-fields : goal.invariant-fields
invariant-fields l = l.out.items ≡ l.fn.out.items ++ flat_map field_text (take l.field-index l.fields)
