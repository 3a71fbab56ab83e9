use Rattle.std.proofs.Common.{Option, sym, subst}
use Rattle.std.specs.Prelude.{IfSome}
use Rattle.tree_edits.specs.declared.sight.Sight.{Sight}
use Rattle.tree_edits.specs.Reading.{IsUnder}
use Rattle.tree_edits.proofs.Glances.{sight_under}
use Rattle.tree_edits.proofs.store.Store.sight.Goals as goal

pub returns-in-None-clause-under : goal.returns-in-None-clause-under
returns-in-None-clause-under c = subst (λ (o : Option Sight). IfSome o (λ sight. IsUnder c.args.cells.now sight.under)) (sym c.table_sight.ensures) (sight_under c.args.cells.now c.requires.can.sound c.args.name.now c.args.above.now.glance.since c.args.above.now.under c.requires.under)
