use Rattle.std.proofs.Common.{sym, ap, ◌∙◌}
use Rattle.std.specs.Option.{option_copied}
use Rattle.authz_check.specs.Everywhere.{meets}
use Rattle.authz_check.proofs.Bools.{both}
use Rattle.authz_check.proofs.Under.{law}
use Rattle.authz_check.proofs.policy.Policy.everywhere.Goals as goal

pub returns-clause-law : goal.returns-clause-law
returns-clause-law c h =
    law (meets c.args.demand) c.args.self.now.rules c.args.self.now.name (option_copied c.args.user) c.args.path.now c.text-text.ensures.path
    (both _ _ (ap (meets c.args.demand) (sym c.access.ensures) ∙ sym c.meets.ensures ∙ c.if-not-meets.false) (sym c.sections_meet.ensures ∙ h))
