use Rattle.std.proofs.Common.{[], ℕ, List, None, sym, ap, ◌∙◌}
use Rattle.rev_nodes.specs.declared.change.Change.TheVariants as changes
use Rattle.rev_nodes.specs.declared.kind.Kind.TheVariants.{File}
use Rattle.rev_nodes.specs.declared.node.Node.{Node}
use Rattle.tree_edits.specs.Edits.{Held}
use Rattle.tree_edits.proofs.Steps.{over_does, add_does, text_over, put_exists, file_added}
use Rattle.tree_edits.proofs.edits.Edits.put.Goals as goal

pub returns-in_ok-share-in-None : goal.returns-in_ok-share-in-None
returns-in_ok-share-in-None c =
    let file = λ (t : List ℕ). let h : Held = record { node = record { kind = File; props = []; text = t; created = c.args.rev }; line = record { since = c.args.rev; source = None }; under = None } in h in
    add_does c.args.rev c.args.cells.now c.args.self.now c.hang.new.self c.requires (changes.Put c.args.path.now c.args.text.now) c.args.path.now c.in_ok-look.ensures.path c.new_held-held.result (sym c.in_ok-look.ensures.place ∙ c.in-None.is)
    (file_added c.args.rev c.args.cells.now c.args.path.now c.args.text.now c.new_held-held.result (c.new_held-held.ensures ∙ ap file c.in_ok-share-in-None.ensures)) c.hang.result c.hang.ensures.says c.hang.ensures.root

pub returns-in-Dir : goal.returns-in-Dir
returns-in-Dir c = λ from. (λ i. c.args.self.now, λ trees tree sources is has. put_exists c.args.cells.now c.args.self.now c.args.path.now c.args.text.now c.in_ok-look.ensures.path c.in-Some.place (sym c.in_ok-look.ensures.place ∙ c.in-Some.is) (ap (λ (n : Node). n.kind) (sym c.node.ensures) ∙ c.in-Dir.is) trees tree is)

pub returns-in_ok-held-in-File : goal.returns-in_ok-held-in-File
returns-in_ok-held-in-File c =
    over_does c.args.rev c.args.cells.now c.args.self.now c.hang-in-File.new.self c.requires (changes.Put c.args.path.now c.args.text.now) c.args.path.now c.in_ok-look.ensures.path c.in-Some.place c.in_ok-held-in-File.held (sym c.in_ok-look.ensures.place ∙ c.in-Some.is)
    (text_over c.args.rev c.args.path.now c.args.text.now c.in-Some.place c.in_ok-held-in-File.held (ap (λ (n : Node). n.kind) (sym c.node.ensures) ∙ c.in-File.is) c.in_ok-held-in-File.ensures) c.hang-in-File.result c.hang-in-File.ensures.says c.hang-in-File.ensures.root
