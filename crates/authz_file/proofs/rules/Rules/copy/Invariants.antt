use Rattle.std.proofs.Common.{◌≡◌, take}
use Rattle.authz_file.proofs.rules.Rules.copy.Given as goal

-- the copies so far
abbrev pub invariant-rules : goal.invariant-rules
invariant-rules l = l.list.items ≡ take l.rule-index l.self.list
