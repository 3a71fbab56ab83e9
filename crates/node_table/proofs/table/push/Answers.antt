use Rattle.node_table.proofs.Roots.{pushed_longer}
use Rattle.node_table.proofs.table.push.Goals as goal

pub returns-clause-longer : goal.returns-clause-longer
returns-clause-longer c = pushed_longer c.push.result c.args.cells.now.items c.push.new.self.items c.args.cell c.push.ensures.items
