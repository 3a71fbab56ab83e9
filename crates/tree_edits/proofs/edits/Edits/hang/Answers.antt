use Rattle.std.proofs.Common.{ap, sym, ◌∙◌}
use Rattle.dsv_base.specs.Paths.{is_path}
use Rattle.node_table.specs.Ways.{are_names}
use Rattle.node_table.proofs.PathNames.{names_of_path}
use Rattle.tree_edits.proofs.Texts.{root_rest}
use Rattle.tree_edits.proofs.edits.Edits.hang.Goals as goal

pub hang_root-requires-clause-rest : goal.hang_root-requires-clause-rest
hang_root-requires-clause-rest c = root_rest c.text-text.result.now c.in-Some.rest.now (ap is_path c.text-text.ensures.text ∙ c.text-text.ensures.path) c.in-Some.ensures

pub hang_root-requires-clause-names : goal.hang_root-requires-clause-names
hang_root-requires-clause-names c = ap are_names (sym c.in-Some.ensures) ∙ (names_of_path c.text-text.result.now (ap is_path c.text-text.ensures.text ∙ c.text-text.ensures.path)).names
