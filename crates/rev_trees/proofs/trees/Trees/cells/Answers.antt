use Rattle.std.proofs.Common.{List, sym, subst}
use Rattle.rev_nodes.specs.declared.cell.Cell.{Cell}
use Rattle.node_table.specs.Tables.{IsSoundTable}
use Rattle.rev_trees.proofs.Viewed.{nodes-of}
use Rattle.rev_trees.proofs.trees.Trees.cells.Goals as goal

pub returns-clause-sound : goal.returns-clause-sound
returns-clause-sound c = subst (λ (cells : List Cell). IsSoundTable cells) (sym (nodes-of c.self.inside.name c.self.inside.uuid c.self.inside.table.cells c.self.inside.revisions.items _ _ c.args.self.now c.self.view_is)) c.self.invariant.sound
