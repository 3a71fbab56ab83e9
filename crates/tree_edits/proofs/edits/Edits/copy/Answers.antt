use Rattle.std.proofs.Common.{sym, ◌∙◌}
use Rattle.node_table.specs.Ways.{names_in}
use Rattle.node_table.proofs.Growing.{reach_within}
use Rattle.tree_edits.proofs.Grafts.{copy_absent}
use Rattle.tree_edits.proofs.edits.Edits.copy.Goals as goal

pub copy_of-requires-clause-within : goal.copy_of-requires-clause-within
copy_of-requires-clause-within c = reach_within c.args.cells.now c.requires.are.sound (names_in c.args.source.now) c.args.from c.in-Some.id c.requires.from.within (sym c.place_at.ensures.place ∙ c.in-Some.is)

pub returns-in-None : goal.returns-in-None
returns-in-None c = (λ i. c.args.self.now, λ trees tree sources is src. copy_absent c.args.source_rev c.args.source.now c.args.path.now c.args.cells.now c.args.self.now c.args.from trees tree sources is src.0 c.place_at.ensures.path (sym c.place_at.ensures.place ∙ c.in-None.is))
