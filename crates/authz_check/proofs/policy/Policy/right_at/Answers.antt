use Rattle.std.proofs.Common.{Some, sym, ap, ◌∙◌}
use Rattle.std.specs.List.{slice_get}
use Rattle.authz_check.specs.Access.{is_in_section}
use Rattle.authz_check.proofs.Speaking.{plain_speaks, own_speaks}
use Rattle.authz_check.proofs.policy.Policy.right_at.Goals as goal

pub right_at-requires-clause-own : goal.right_at-requires-clause-own
right_at-requires-clause-own c i rule is member =
    c.places_at.ensures i rule (ap (λ rs. slice_get rs i) (sym c.rules.ensures) ∙ is)
    (own_speaks c.args.self.now.name c.args.path.now rule (ap (λ name. is_in_section (Some name) c.args.path.now rule) (sym c.name.ensures) ∙ member))

pub right_at-requires-clause-plain : goal.right_at-requires-clause-plain
right_at-requires-clause-plain c i rule is member =
    c.places_at.ensures i rule (ap (λ rs. slice_get rs i) (sym c.rules.ensures) ∙ is) (plain_speaks c.args.self.now.name c.args.path.now rule member)
