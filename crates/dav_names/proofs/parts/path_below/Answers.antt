use Rattle.std.proofs.Common.{rules}
use Rattle.dav_names.proofs.Components.{path_from_parts-joined, path_from_parts-refused}
use Rattle.dav_names.proofs.parts.path_below.Goals as goal

pub returns-in-Ok : goal.returns-in-Ok
returns-in-Ok c = path_from_parts-joined c.in_ok-root.root c.args.text.now c.in-Ok.path c.in_ok-root.ensures (search rules) c.in-Ok.ensures.value.0 c.in-Ok.ensures.value.1

pub returns-in-Err-BadPath : goal.returns-in-Err-BadPath
returns-in-Err-BadPath c = path_from_parts-refused c.in_ok-root.root c.args.text.now c.in_ok-root.ensures (c.in-Err-BadPath.ensures.bad (search rules))
