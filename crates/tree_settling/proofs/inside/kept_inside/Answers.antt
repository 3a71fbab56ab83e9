use Rattle.std.proofs.Common.{◌++◌, sym, ap, ◌∙◌}
use Rattle.node_table.specs.Tables.{height_over}
use Rattle.rev_nodes.specs.declared.cell.Cell.{Cell}
use Rattle.tree_settling.proofs.Growths.{kept_height}
use Rattle.tree_settling.proofs.inside.kept_inside.Goals as goal

pub returns-in_ok-entries-in-Some-clause-height : goal.returns-in_ok-entries-in-Some-clause-height
returns-in_ok-entries-in-Some-clause-height c = λ more.
    ap (λ (x : Cell). x.height) c.cell_of-cell.ensures
    ∙ kept_height c.args.cells.now more c.requires.sound c.in-Some.id (c.requires.within c.in-Some.id c.in-Some.is)
    ∙ ap (height_over (c.args.cells.now ++ more)) (sym (c.in_ok-entries-in-Some.ensures ∙ ap (λ (x : Cell). x.entries) c.cell_of-cell.ensures))
