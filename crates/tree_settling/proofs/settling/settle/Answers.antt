use Rattle.std.proofs.Common.{◌≡◌, ℕ, IfOk, sym, ap, subst, ◌∙◌}
use Rattle.std.proofs.lemmas.Result.{IfOk-weaker}
use Rattle.tree_edits.specs.Edits.{EditedTree, Touched}
use Rattle.tree_edits.specs.AreEdits.{AreTouched}
use Rattle.tree_settling.specs.Settled.{Settles, edits_of}
use Rattle.tree_settling.proofs.settling.settle.Goals as goal

pub settle_touches-requires-clause-sound : goal.settle_touches-requires-clause-sound
settle_touches-requires-clause-sound c = c.requires.sound

pub settle_touches-requires-clause-touched : goal.settle_touches-requires-clause-touched
settle_touches-requires-clause-touched c = (c.args.rev, subst (λ (xs : Touched). AreTouched c.args.rev c.args.cells.now xs) (sym (c.as_slice.ensures.value ∙ c.in_ok-touches.ensures)) c.requires.touched)

pub returns : goal.returns
returns c =
    let same : edits_of c.root.result c.as_slice.result.now ≡ c.args.edits.now = ap (λ (r : ℕ). edits_of r c.as_slice.result.now) c.root.ensures ∙ ap (λ (t : Touched). edits_of c.args.edits.now.root t) (c.as_slice.ensures.value ∙ c.in_ok-touches.ensures) in
    IfOk-weaker c.settle_touches.result _ _ (λ all says. says c.args.rev c.requires) (subst (λ (e : EditedTree). IfOk c.settle_touches.result (λ all. Settles c.args.cells.now e all.0.items all.1)) same c.settle_touches.ensures)
