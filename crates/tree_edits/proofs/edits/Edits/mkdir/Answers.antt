use Rattle.std.proofs.Common.{[], ℕ, List, None, sym, ap, ◌∙◌}
use Rattle.rev_nodes.specs.declared.change.Change.TheVariants as changes
use Rattle.rev_nodes.specs.declared.kind.Kind.TheVariants.{Dir}
use Rattle.node_table.specs.Ways.{names_in}
use Rattle.tree_edits.specs.Edits.{Held, held}
use Rattle.tree_edits.proofs.Deleting.{some_of, none_of}
use Rattle.tree_edits.proofs.Steps.{add_does, dir_added, dir_exists}
use Rattle.tree_edits.proofs.edits.Edits.mkdir.Goals as goal

pub returns-then-stands : goal.returns-then-stands
returns-then-stands c =
    let h = some_of (held c.args.cells.now c.args.self.now (names_in c.args.path.now)) (sym c.stands.ensures.there ∙ c.if-stands.true) in
    λ from. (λ i. c.args.self.now, λ trees tree sources is has. dir_exists c.args.cells.now c.args.self.now c.args.path.now c.stands.ensures.path h.0 h.1 trees tree is)

pub returns : goal.returns
returns c =
    let absent = none_of (held c.args.cells.now c.args.self.now (names_in c.args.path.now)) (sym c.stands.ensures.there ∙ c.if-stands.false) in
    let dir = λ (t : List ℕ). let h : Held = record { node = record { kind = Dir; props = []; text = t; created = c.args.rev }; line = record { since = c.args.rev; source = None }; under = None } in h in
    add_does c.args.rev c.args.cells.now c.args.self.now c.hang.new.self c.requires (changes.Mkdir c.args.path.now) c.args.path.now c.stands.ensures.path c.new_held-held.result absent
    (dir_added c.args.rev c.args.cells.now c.args.path.now c.new_held-held.result (c.new_held-held.ensures ∙ ap dir c.empty.ensures)) c.hang.result c.hang.ensures.says c.hang.ensures.root
