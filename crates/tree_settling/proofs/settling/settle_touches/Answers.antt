use Rattle.std.proofs.Common.{reverse, ap, ◌∙◌}
use Rattle.tree_edits.specs.Edits.{EditedTree}
use Rattle.tree_settling.specs.Settled.{root_made}
use Rattle.tree_settling.proofs.Turns.{all_settled}
use Rattle.tree_settling.proofs.settling.settle_touches.Goals as goal

pub returns : goal.returns
returns c = λ rev are.
    let edits : EditedTree = record { root = c.args.root; touched = c.args.touches.now } in
    all_settled rev c.args.cells.now edits c.settle_all.new.more.items (reverse c.in_ok-made.made.items) c.root_made-root.result are c.in_ok-made.ensures (c.root_made-root.ensures ∙ ap (λ xs. root_made (reverse xs) c.args.root) c.as_slice.ensures.value)
