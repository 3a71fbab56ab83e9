use Rattle.std.proofs.Common.{rules, ◌≡◌, subst}
use Rattle.dsv_base.specs.Paths.{join_text, name_of}
use Rattle.dsv_base.proofs.Joins.{parent_is_path, join_parent}
use Rattle.dsv_base.proofs.path.Path.parent.Goals as goal

pub invariant_of-result : goal.invariant_of-result
invariant_of-result c = rw c.in_ok-text-in-Some.ensures (parent_is_path c.self.inside.text c.in-Some.parent.now c.self.invariant (search rules))

pub returns-in_ok-text-in-Some-clause-joined : goal.returns-in_ok-text-in-Some-clause-joined
returns-in_ok-text-in-Some-clause-joined c = rw c.in_ok-text-in-Some.ensures (subst (λ p. join_text c.in-Some.parent.now (name_of p) ≡ p) c.self.view_is (join_parent c.self.inside.text c.in-Some.parent.now c.self.invariant (search rules)))
