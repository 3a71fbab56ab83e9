use Rattle.std.proofs.Common.{◌≡◌, length}
use Rattle.std.specs.Option.{option_copied}
use Rattle.dsv_base.specs.Paths.{ancestors}
use Rattle.authz_check.specs.Access.{access, right_at}
use Rattle.authz_check.proofs.AccessWalk.{IsRooted, along}
use Rattle.authz_check.proofs.policy.Policy.access.Given as goal

-- the way that is left decides
abbrev pub invariant-upwards : goal.invariant-upwards
invariant-upwards l = record {
  rooted : IsRooted l.at;
  left : along (right_at l.self.rules l.self.name (option_copied l.user)) (ancestors l.at) ≡ access l.self.rules l.self.name (option_copied l.user) l.path;
}

abbrev pub decreases-upwards : goal.decreases-upwards
decreases-upwards l = length l.at
