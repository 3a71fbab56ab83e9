use Rattle.std.proofs.Common.{List, sym, subst, ap, ◌∙◌}
use Rattle.rev_nodes.specs.declared.cell.Cell.{Cell}
use Rattle.rev_nodes.specs.declared.entry.Entry.{Entry}
use Rattle.rev_nodes.specs.Entries.{AreEntriesOf, HasNoneInFile}
use Rattle.node_table.specs.Tables.{cell_at}
use Rattle.rev_trees.proofs.Viewed.{nodes-of}
use Rattle.rev_trees.proofs.Learned.{id_below, entries-of, none-of, sound-of}
use Rattle.rev_trees.proofs.trees.Trees.entries.Goals as goal

pub entries-requires : goal.entries-requires
entries-requires c = id_below c.self.inside.name c.self.inside.uuid c.self.inside.table.cells c.self.inside.revisions.items _ _ c.args.self.now c.self.view_is c.self.invariant c.args.id c.requires

pub returns-clause-are : goal.returns-clause-are
returns-clause-are c = subst (λ (entries : List Entry). AreEntriesOf c.args.self.now c.args.id entries) (sym c.entries.ensures) (entries-of c.self.inside.name c.self.inside.uuid c.self.inside.table.cells c.self.inside.revisions.items _ _ c.args.self.now c.self.view_is c.self.invariant c.args.id)

pub returns-clause-none : goal.returns-clause-none
returns-clause-none c = subst (λ (entries : List Entry). HasNoneInFile c.args.self.now c.args.id entries) (sym c.entries.ensures) (none-of c.self.inside.name c.self.inside.uuid c.self.inside.table.cells c.self.inside.revisions.items _ _ c.args.self.now c.self.view_is c.self.invariant c.args.id)

pub returns-clause-sound : goal.returns-clause-sound
returns-clause-sound c = sound-of c.self.inside.name c.self.inside.uuid c.self.inside.table.cells c.self.inside.revisions.items _ _ c.args.self.now c.self.view_is c.self.invariant

pub returns-clause-stored : goal.returns-clause-stored
returns-clause-stored c = c.entries.ensures ∙ ap (λ (cells : List Cell). (cell_at cells c.args.id).entries) (sym (nodes-of c.self.inside.name c.self.inside.uuid c.self.inside.table.cells c.self.inside.revisions.items _ _ c.args.self.now c.self.view_is))
