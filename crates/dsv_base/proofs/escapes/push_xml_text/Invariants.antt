use Rattle.std.proofs.Common.{◌≡◌, ◌++◌, take}
use Rattle.std.specs.List.{flat_map}
use Rattle.dsv_base.specs.Escapes.{xml_escape}
use Rattle.dsv_base.proofs.escapes.push_xml_text.Given as goal

abbrev pub invariant-bytes : goal.invariant-bytes
invariant-bytes l = l.out.items ≡ l.fn.out.items ++ flat_map xml_escape (take l.byte-index l.bytes)
