use Rattle.std.proofs.Common.{arith}
use Rattle.std.proofs.lemmas.Grind.{common_steps}
use Rattle.dsv_base.specs.Paths.{is_under}
use Rattle.dsv_base.proofs.Under.{starts_with-slash}
use Rattle.tree_edits.proofs.store.is_under.Goals as goal

pub returns-then-text-top : goal.returns-then-text-top
unfolding is_under
returns-then-text-top c = grind (arith, common_steps, starts_with-slash c.args.top.now c.args.text.now)

pub returns-else-text-top : goal.returns-else-text-top
unfolding is_under
returns-else-text-top c = grind (arith, common_steps, starts_with-slash c.args.top.now c.args.text.now)
