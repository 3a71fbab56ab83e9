use Rattle.std.proofs.Common.{◌≡◌, subst, true}
use Rattle.dsv_base.specs.Paths.{is_path}
use Rattle.dsv_base.proofs.Joins.{parent_joined, name_of-join}
use Rattle.dsv_base.proofs.path.Path.join.Goals as goal

pub returns-clause-parent : goal.returns-clause-parent
returns-clause-parent c one = rw (c.from_vec-text.ensures, c.in_ok-text.ensures, c.get.ensures, c.self.view_is) (parent_joined c.args.self.now c.args.name.now (subst (λ p. is_path p ≡ true) c.self.view_is c.self.invariant) one)

pub returns-clause-name : goal.returns-clause-name
returns-clause-name c one = rw (c.from_vec-text.ensures, c.in_ok-text.ensures, c.get.ensures, c.self.view_is) (name_of-join c.args.self.now c.args.name.now one)
