use Rattle.std.proofs.Common.{ap, ◌∙◌}
use Rattle.rev_nodes.specs.declared.kind.Kind.TheVariants.{Dir}
use Rattle.node_table.specs.Steps.{new_cell}
use Rattle.node_table.proofs.Roots.{ok_both, root_kept, root_is_base, root_is_shown}
use Rattle.node_table.proofs.table.Table.add_root.Goals as goal

pub invariant_of-self : goal.invariant_of-self
invariant_of-self c = root_kept c.args.rev c.self.inside.nodes.items c.new_cell.result (c.new_cell.ensures ∙ ap (new_cell c.args.rev Dir) c.empty.ensures) c.push.result c.self.invariant c.push.new.cells.items c.push.ensures.cells c.push.ensures.full

pub returns-clause-base : goal.returns-clause-base
returns-clause-base c = ok_both c.push.result _ _ _ c.push.ensures.number c.push.ensures.cells (λ root n m. root_is_base c.args.rev c.self.inside.nodes.items c.new_cell.result (c.new_cell.ensures ∙ ap (new_cell c.args.rev Dir) c.empty.ensures) c.self.invariant c.push.new.cells.items m root n)

pub returns-clause-shown : goal.returns-clause-shown
returns-clause-shown c = ok_both c.push.result _ _ _ c.push.ensures.number c.push.ensures.cells (λ root n m. root_is_shown c.args.rev c.self.inside.nodes.items c.new_cell.result (c.new_cell.ensures ∙ ap (new_cell c.args.rev Dir) c.empty.ensures) c.push.new.cells.items m root n)
