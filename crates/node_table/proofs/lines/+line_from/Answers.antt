use Rattle.std.proofs.Common.{sym, ◌∙◌, arith}
use Rattle.dsv_base.specs.Paths.{components}
use Rattle.node_table.proofs.Growing.{child_within}
use Rattle.node_table.proofs.LineLaws.{none_seen, paths_there, path_there}
use Rattle.node_table.proofs.lines.+line_from.Goals as goal

pub cell_of-requires : goal.cell_of-requires
cell_of-requires t c = child_within c.args.cells.now c.requires.sound c.args.rest.now c.args.id c.in-Some-child_at.child c.requires.within (sym c.child_at.ensures ∙ c.in-Some-child_at.is)

pub line_below-requires : goal.line_below-requires
line_below-requires t c = path_there c.args.cells.now c.args.id c.args.line.now c.args.rest.now c.in-Some-child_at.child (sym c.child_at.ensures ∙ c.in-Some-child_at.is) c.requires.paths c.cell_of.result.now c.cell_of.ensures

pub cell_of-requires-in-Some-child_at-2 : goal.cell_of-requires-in-Some-child_at-2
cell_of-requires-in-Some-child_at-2 t c = child_within c.args.cells.now c.requires.sound c.in-Some.name.now c.args.id c.in-Some-child_at-2.child c.requires.within (sym c.child_at-in-Some.ensures ∙ c.in-Some-child_at-2.is)

pub line_below-requires-in-Some-child_at-2 : goal.line_below-requires-in-Some-child_at-2
line_below-requires-in-Some-child_at-2 t c = path_there c.args.cells.now c.args.id c.args.line.now c.in-Some.name.now c.in-Some-child_at-2.child (sym c.child_at-in-Some.ensures ∙ c.in-Some-child_at-2.is) c.requires.paths c.cell_of-in-Some-child_at-2.result.now c.cell_of-in-Some-child_at-2.ensures

pub line_from-requires : goal.line_from-requires
line_from-requires t c =
    let found = sym c.child_at-in-Some.ensures ∙ c.in-Some-child_at-2.is in
    let shorter = c.in-Some.ensures.shorter in
    let d = c.decreases in (
      omega (arith, shorter, d),
      (
        c.requires.sound,
        (
          child_within c.args.cells.now c.requires.sound c.in-Some.name.now c.args.id c.in-Some-child_at-2.child c.requires.within found,
          paths_there c.args.cells.now c.args.id c.args.line.now c.in-Some.name.now c.in-Some-child_at-2.child found c.requires.paths c.cell_of-in-Some-child_at-2.result.now c.cell_of-in-Some-child_at-2.ensures c.in_ok-line-in-Some-child_at-2.line c.in_ok-line-in-Some-child_at-2.ensures,
        ),
      ),
    )

pub returns-in-None-child_at-2 : goal.returns-in-None-child_at-2
returns-in-None-child_at-2 t c = none_seen c.args.cells.now c.args.id c.args.line.now c.in-Some.name.now (components c.in-Some.after.now) (components c.args.rest.now) c.in-Some.ensures.cut (sym c.child_at-in-Some.ensures ∙ c.in-None-child_at-2.is)
