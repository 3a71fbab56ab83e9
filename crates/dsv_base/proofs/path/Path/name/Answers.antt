use Rattle.std.proofs.Common.{◌≡◌, subst, true}
use Rattle.dsv_base.specs.Paths.{is_path}
use Rattle.dsv_base.proofs.Joins.{name_is_component}
use Rattle.dsv_base.proofs.path.Path.name.Goals as goal

pub returns-clause-component : goal.returns-clause-component
returns-clause-component c = name_is_component c.args.self.now (subst (λ p. is_path p ≡ true) c.self.view_is c.self.invariant)
