use Rattle.std.proofs.Common.{ap, sym, ◌∙◌}
use Rattle.dsv_base.specs.Paths.{is_path}
use Rattle.node_table.specs.Ways.{are_names}
use Rattle.node_table.proofs.PathNames.{names_of_path}
use Rattle.tree_edits.proofs.Texts.{root_rest}
use Rattle.tree_edits.proofs.edits.Edits.look.Goals as goal

pub look_below-requires-clause-rest : goal.look_below-requires-clause-rest
look_below-requires-clause-rest c = root_rest c.text-text.result.now c.in-Some-below_root.rest.now (ap is_path c.text-text.ensures.text ∙ c.text-text.ensures.path) c.in-Some-below_root.ensures

pub look_below-requires-clause-names : goal.look_below-requires-clause-names
look_below-requires-clause-names c = ap are_names (sym c.in-Some-below_root.ensures) ∙ (names_of_path c.text-text.result.now (ap is_path c.text-text.ensures.text ∙ c.text-text.ensures.path)).names
