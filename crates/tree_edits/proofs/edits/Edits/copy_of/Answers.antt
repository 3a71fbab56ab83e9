use Rattle.std.proofs.Common.{sym, ap, ◌∙◌}
use Rattle.rev_nodes.specs.declared.cell.Cell.{Cell}
use Rattle.node_table.specs.Ways.{names_in}
use Rattle.tree_edits.specs.Edits.{held}
use Rattle.tree_edits.specs.Hanging.{copied_held}
use Rattle.tree_edits.proofs.StepsDown.{can_read}
use Rattle.tree_edits.proofs.Deleting.{some_of, none_of}
use Rattle.tree_edits.proofs.Grafts.{copy_there, copy_no_parent, copy_too_long, copy_does}
use Rattle.tree_edits.proofs.edits.Edits.copy_of.Goals as goal

pub hang-requires-clause-can : goal.hang-requires-clause-can
hang-requires-clause-can c = can_read c.args.rev c.args.cells.now c.args.self.now c.requires.are

pub returns-then-stands : goal.returns-then-stands
returns-then-stands c =
    let h = some_of (held c.args.cells.now c.args.self.now (names_in c.args.path.now)) (sym c.stands.ensures.there ∙ c.if-stands.true) in
    (λ i. c.args.self.now, λ trees tree sources is src. copy_there c.args.source_rev c.args.source.now c.args.path.now c.args.cells.now c.args.self.now c.args.from trees tree sources is src.0 c.requires.source c.args.id c.requires.there c.stands.ensures.path h.0 h.1)

pub returns-then-not-has_parent : goal.returns-then-not-has_parent
returns-then-not-has_parent c =
    let absent = none_of (held c.args.cells.now c.args.self.now (names_in c.args.path.now)) (sym c.stands.ensures.there ∙ c.if-stands.false) in
    (λ i. c.args.self.now, λ trees tree sources is src. copy_no_parent c.args.source_rev c.args.source.now c.args.path.now c.args.cells.now c.args.self.now c.args.from trees tree sources is src.0 c.requires.source c.args.id c.requires.there c.stands.ensures.path absent (c.has_parent.ensures tree is ∙ c.if-not-has_parent.true))

pub returns-then-not-is_short : goal.returns-then-not-is_short
returns-then-not-is_short c =
    let absent = none_of (held c.args.cells.now c.args.self.now (names_in c.args.path.now)) (sym c.stands.ensures.there ∙ c.if-stands.false) in
    (λ i. c.args.self.now, λ trees tree sources is src. copy_too_long c.args.source_rev c.args.source.now c.args.path.now c.args.cells.now c.args.self.now c.args.from trees tree sources is src.0 c.requires.source c.args.id c.requires.there c.stands.ensures.path absent c.requires.are.sound (c.has_parent.ensures tree is ∙ c.if-not-has_parent.false) (c.is_short.ensures.some c.if-not-is_short.true))

pub returns : goal.returns
returns c =
    let absent = none_of (held c.args.cells.now c.args.self.now (names_in c.args.path.now)) (sym c.stands.ensures.there ∙ c.if-stands.false) in
    copy_does c.args.rev c.args.cells.now c.args.self.now c.hang.new.self c.requires.are c.args.from c.args.id c.requires.from c.args.source.now c.requires.source c.args.source_rev c.requires.there c.args.path.now c.stands.ensures.path c.in_ok-held.held
    (c.in_ok-held.ensures ∙ ap (λ (cell : Cell). copied_held c.args.rev c.args.source.now c.args.source_rev c.args.id cell.node) c.cell_of.ensures)
    absent (λ tree is. c.has_parent.ensures tree is ∙ c.if-not-has_parent.false) (c.is_short.ensures.all c.if-not-is_short.false) c.hang.result c.hang.ensures.says c.hang.ensures.root
