-- How far below its resource a request reaches: the field Depth (RFC 4918, section 10.2).
use Rattle.std.specs.Prelude.{ℕ, Bool, true, false, List, codes, Option, None, Some, Result, Ok, Err, if◌then◌else◌}
use Rattle.std.specs.Str.{bytes_eq, str_eq_ignore_ascii_case}
use Rattle.dsv_base.specs.declared.field.Field.{Field}
use Rattle.http_front.specs.Fields.{field_named}
use Rattle.http_front.specs.declared.field_fault.FieldFault.{FieldFault}
use Rattle.dav_replies.specs.declared.allow_kind.AllowKind.{AllowKind}
use Rattle.dav_replies.specs.declared.allow_kind.AllowKind.TheVariants.{Public, Rvr, RevOnly, Me, Txr, TxrRoot, Txn}
use Rattle.dav_replies.specs.declared.refusal.Refusal.{Refusal}
use Rattle.dav_replies.specs.declared.refusal.Refusal.TheVariants.{BadHeader, InfiniteDepth}
use Rattle.dav_machine.specs.declared.depth.Depth.{Depth}
use Rattle.dav_machine.specs.declared.depth.Depth.TheVariants.{Zero, One, Infinity}

-- the depth that a value of the field says: `0`, `1`, or `infinity` in any case of letters; any other is a bad header
abbrev pub depth_said : List ℕ → Result Depth Refusal
depth_said value =
    if bytes_eq value (codes "0") then Ok Zero
    else if bytes_eq value (codes "1") then Ok One
    else if str_eq_ignore_ascii_case value (codes "infinity") then Ok Infinity
    else Err BadHeader

-- the depth by what was found of the field: infinity where it isn't there, and where it stands twice, a bad header
abbrev pub depth_by : Result (Option (List ℕ)) FieldFault → Result Depth Refusal
depth_by (Ok None) = Ok Infinity
depth_by (Ok (Some value)) = depth_said value
depth_by (Err fault) = Err BadHeader

-- the depth that the fields of a request say
unfoldable pub depth_of : List Field → Result Depth Refusal
depth_of fields = depth_by (field_named (codes "depth") fields)

-- a PROPFIND of this depth of a node asks about its children too; all below it is refused (RFC 4918, section 9.1)
abbrev pub node_children_asked : Depth → Result Bool Refusal
node_children_asked Zero = Ok false
node_children_asked One = Ok true
node_children_asked Infinity = Err InfiniteDepth

-- a PROPFIND of this depth of a resource of this kind asks about its children too; a revision has no children, so that
-- each depth is 0 there
abbrev pub children_asked : AllowKind → Depth → Result Bool Refusal
children_asked Public depth = node_children_asked depth
children_asked Rvr depth = node_children_asked depth
children_asked RevOnly depth = Ok false
children_asked Me depth = node_children_asked depth
children_asked Txr depth = node_children_asked depth
children_asked TxrRoot depth = node_children_asked depth
children_asked Txn depth = node_children_asked depth
