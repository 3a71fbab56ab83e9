use Rattle.std.proofs.Common.{sym, ap, ◌∙◌}
use Rattle.dsv_base.specs.Paths.{parent_text}
use Rattle.dsv_base.proofs.Joins.{parent_is_path}
use Rattle.rev_nodes.specs.Trees.{is_dir_kind}
use Rattle.tree_edits.proofs.Glances.{sees_dir}
use Rattle.tree_edits.proofs.Grafts.{parent_glanced}
use Rattle.tree_edits.proofs.edits.Edits.has_parent.Goals as goal

pub glance_at-requires-clause-path : goal.glance_at-requires-clause-path
glance_at-requires-clause-path c = parent_is_path c.args.path.now c.in-Some.parent.now c.text.ensures.path (ap parent_text (sym c.text.ensures.text) ∙ sym c.in-Some.ensures)

pub returns-in-None-glance_at : goal.returns-in-None-glance_at
returns-in-None-glance_at c =
    let is = ap parent_text (sym c.text.ensures.text) ∙ sym c.in-Some.ensures in
    λ tree shows. parent_glanced c.args.cells.now c.args.self.now c.args.path.now c.in-Some.parent.now is (parent_is_path c.args.path.now c.in-Some.parent.now c.text.ensures.path is) c.glance_at.result c.glance_at.ensures tree shows
    ∙ ap sees_dir c.in-None-glance_at.is

pub returns-in-Dir : goal.returns-in-Dir
returns-in-Dir c =
    let is = ap parent_text (sym c.text.ensures.text) ∙ sym c.in-Some.ensures in
    λ tree shows. parent_glanced c.args.cells.now c.args.self.now c.args.path.now c.in-Some.parent.now is (parent_is_path c.args.path.now c.in-Some.parent.now c.text.ensures.path is) c.glance_at.result c.glance_at.ensures tree shows
    ∙ ap sees_dir c.in-Some-glance_at.is ∙ ap is_dir_kind c.in-Dir.is

pub returns-in-File : goal.returns-in-File
returns-in-File c =
    let is = ap parent_text (sym c.text.ensures.text) ∙ sym c.in-Some.ensures in
    λ tree shows. parent_glanced c.args.cells.now c.args.self.now c.args.path.now c.in-Some.parent.now is (parent_is_path c.args.path.now c.in-Some.parent.now c.text.ensures.path is) c.glance_at.result c.glance_at.ensures tree shows
    ∙ ap sees_dir c.in-Some-glance_at.is ∙ ap is_dir_kind c.in-File.is
