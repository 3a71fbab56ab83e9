use Rattle.std.proofs.Common.{◌≡◌, take}
use Rattle.authz_file.proofs.base.copy_names.Given as goal

-- the copies so far
abbrev pub invariant-names : goal.invariant-names
invariant-names l = l.copies.items ≡ take l.name-index l.names
