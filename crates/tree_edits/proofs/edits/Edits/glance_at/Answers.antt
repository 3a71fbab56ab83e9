use Rattle.std.proofs.Common.{ap, sym, ◌∙◌}
use Rattle.node_table.specs.Ways.{are_names}
use Rattle.node_table.proofs.PathNames.{names_of_path}
use Rattle.tree_edits.proofs.Texts.{root_rest}
use Rattle.tree_edits.proofs.edits.Edits.glance_at.Goals as goal

pub glance_below-requires-clause-rest : goal.glance_below-requires-clause-rest
glance_below-requires-clause-rest c = root_rest c.args.text.now c.in-Some-below_root.rest.now c.requires.path c.in-Some-below_root.ensures

pub glance_below-requires-clause-names : goal.glance_below-requires-clause-names
glance_below-requires-clause-names c = ap are_names (sym c.in-Some-below_root.ensures) ∙ (names_of_path c.args.text.now c.requires.path).names
