use Rattle.std.proofs.Common.{List, sym, ap, ◌∙◌}
use Rattle.std.specs.Option.{option_copied}
use Rattle.dsv_base.specs.declared.prop.Prop.{Prop}
use Rattle.rev_nodes.specs.declared.node.Node.{Node}
use Rattle.tree_edits.specs.Hanging.{held_with_props}
use Rattle.tree_edits.specs.PropChanges.{prop_change, changed_props}
use Rattle.tree_edits.proofs.Steps.{over_does, prop_changed, none_to_change}
use Rattle.tree_edits.proofs.edits.Edits.change_prop.Goals as goal

pub returns-in-None : goal.returns-in-None
returns-in-None c = λ from. (λ i. c.args.self.now, λ trees tree sources is has. none_to_change c.args.cells.now c.args.self.now c.args.path.now c.args.name.now (option_copied c.args.value) c.in_ok-look.ensures.path (sym c.in_ok-look.ensures.place ∙ c.in-None.is) trees tree is)

pub returns-in_ok-held-in-Some : goal.returns-in_ok-held-in-Some
returns-in_ok-held-in-Some c =
    over_does c.args.rev c.args.cells.now c.args.self.now c.hang.new.self c.requires (prop_change c.args.path.now c.args.name.now (option_copied c.args.value)) c.args.path.now c.in_ok-look.ensures.path c.in-Some.place c.in_ok-held-in-Some.held (sym c.in_ok-look.ensures.place ∙ c.in-Some.is)
    (prop_changed c.args.rev c.args.path.now c.args.name.now (option_copied c.args.value) c.in-Some.place c.in_ok-held-in-Some.held
    (c.in_ok-held-in-Some.ensures ∙ ap (λ (ps : List Prop). held_with_props c.args.rev ps c.in-Some.place) (c.in_ok-props-in-Some.ensures ∙ ap (changed_props c.args.name.now (option_copied c.args.value)) (c.get.ensures ∙ ap (λ (n : Node). n.props) c.node.ensures)))) c.hang.result c.hang.ensures.says c.hang.ensures.root
