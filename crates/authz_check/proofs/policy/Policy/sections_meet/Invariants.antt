use Rattle.std.proofs.Common.{◌≡◌, ℕ, ◌<◌, true, get_or}
use Rattle.std.specs.Option.{option_copied}
use Rattle.authz_check.specs.Everywhere.{meets, tested}
use Rattle.authz_check.proofs.SectionsBelow.{passes_at}
use Rattle.authz_check.proofs.policy.Policy.sections_meet.Given as goal

-- the right at the path that was asked about last is as asked, and the sections so far pass
abbrev pub invariant-places : goal.invariant-places
invariant-places l = record {
  here : tested (meets l.fn.demand) l.fn.self.rules l.fn.self.name (option_copied l.fn.user) l.last ≡ true;
  passed : (k d : ℕ) → k < l.place-index → passes_at (tested (meets l.fn.demand) l.fn.self.rules l.fn.self.name (option_copied l.fn.user)) l.fn.self.name l.fn.path l.fn.self.rules (get_or l.place-items k d) ≡ true;
}
