use Rattle.std.proofs.Common.{sym}
use Rattle.node_table.specs.Ways.{names_in}
use Rattle.node_table.proofs.Growing.{reach_within}
use Rattle.rev_trees.proofs.changed_list.kind_before.Goals as goal

pub cell_of-requires : goal.cell_of-requires
cell_of-requires c = reach_within c.args.cells.now c.requires.sound (names_in c.args.path.now) c.args.root c.in-Some.id c.requires.within (sym c.in-Some.ensures.place)
