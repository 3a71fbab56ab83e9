use Rattle.std.proofs.Common.{List, sym, ap, subst, ◌∙◌}
use Rattle.std.specs.Option.{option_map}
use Rattle.rev_nodes.specs.declared.cell.Cell.{Cell}
use Rattle.rev_nodes.specs.Drafts.{coming}
use Rattle.node_table.specs.Ways.{names_in}
use Rattle.tree_edits.specs.Edits.{held}
use Rattle.tree_edits.specs.Reading.{glance_of, CanReadEdits}
use Rattle.rev_trees.specs.Drafts.{seen_glance}
use Rattle.rev_trees.proofs.Drafting.{here_now, looks}
use Rattle.rev_trees.proofs.Untouched.{can_read}
use Rattle.rev_trees.proofs.draft.Draft.look.Goals as goal

pub glance-requires : goal.glance-requires
glance-requires c =
    let d = here_now c.self.inside.trees.value c.self.inside.base c.self.inside.changes.items c.self.inside.edits c.args.self.now c.self.view_is c.self.invariant c.args.trees.now c.requires c.cells.ensures.sound in
    subst (λ (cells : List Cell). CanReadEdits cells c.self.inside.edits) (sym c.cells.ensures.cells) (can_read coming c.args.trees.now.nodes c.self.inside.edits d.are)

pub returns : goal.returns
returns c =
    c.seen_of.ensures
    ∙ ap (option_map seen_glance) (c.glance.ensures.glance ∙ ap (λ (cells : List Cell). option_map glance_of (held cells c.self.inside.edits (names_in c.args.path.now))) c.cells.ensures.cells)
    ∙ looks c.self.inside.trees.value c.self.inside.base c.self.inside.changes.items c.self.inside.edits c.args.self.now c.self.view_is c.self.invariant c.args.trees.now c.requires c.cells.ensures.sound c.args.path.now c.glance.ensures.path
