use Rattle.std.proofs.Common.{List, sym, subst, ap, ◌∙◌}
use Rattle.rev_nodes.specs.declared.cell.Cell.{Cell}
use Rattle.rev_nodes.specs.declared.node.Node.{Node}
use Rattle.rev_nodes.specs.Forests.{IsNodeOf}
use Rattle.node_table.specs.Tables.{cell_at}
use Rattle.rev_trees.proofs.Viewed.{nodes-of}
use Rattle.rev_trees.proofs.Learned.{id_below, node-of}
use Rattle.rev_trees.proofs.trees.Trees.node.Goals as goal

pub node-requires : goal.node-requires
node-requires c = id_below c.self.inside.name c.self.inside.uuid c.self.inside.table.cells c.self.inside.revisions.items _ _ c.args.self.now c.self.view_is c.self.invariant c.args.id c.requires

pub returns-clause-is : goal.returns-clause-is
returns-clause-is c = subst (λ (node : Node). IsNodeOf c.args.self.now c.args.id node) (sym c.node.ensures) (node-of c.self.inside.name c.self.inside.uuid c.self.inside.table.cells c.self.inside.revisions.items _ _ c.args.self.now c.self.view_is c.self.invariant c.args.id)

pub returns-clause-stored : goal.returns-clause-stored
returns-clause-stored c = c.node.ensures ∙ ap (λ (cells : List Cell). (cell_at cells c.args.id).node) (sym (nodes-of c.self.inside.name c.self.inside.uuid c.self.inside.table.cells c.self.inside.revisions.items _ _ c.args.self.now c.self.view_is))
