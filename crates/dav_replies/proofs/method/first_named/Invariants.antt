use Rattle.std.proofs.Common.{◌≡◌, drop}
use Rattle.std.specs.List.{find}
use Rattle.dav_replies.specs.Methods.{has_name}
use Rattle.dav_replies.proofs.method.first_named.Given as goal

-- no method so far has the name
abbrev pub invariant-methods : goal.invariant-methods
invariant-methods l = find (has_name l.name) (drop l.method-index l.methods) ≡ find (has_name l.name) l.methods
