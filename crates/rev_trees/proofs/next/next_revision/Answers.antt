use Rattle.std.proofs.Common.{◌-◌, length, ap, ◌∙◌, refl}
use Rattle.std.proofs.lemmas.Result.{err_from_is_err_and}
use Rattle.rev_trees.specs.Kept.{trees_in, youngest, kept_at}
use Rattle.rev_trees.proofs.Applied.{youngest_kept, fails, makes}
use Rattle.rev_trees.proofs.Untouched.{untouched, shows_tree}
use Rattle.rev_trees.proofs.next.next_revision.Goals as goal

pub apply_all-requires-clause-shown : goal.apply_all-requires-clause-shown
apply_all-requires-clause-shown c =
    let k = youngest_kept c.args.cells.now c.args.revisions.now c.requires.kept in
    shows_tree c.args.cells.now (kept_at c.args.revisions.now (length c.args.revisions.now - 1)).root (youngest (trees_in c.args.revisions.now)) c.on-edits.result
    (c.on-edits.ensures ∙ ap untouched c.youngest_root-before.ensures) k.shown

pub returns-in_err-apply_all : goal.returns-in_err-apply_all
returns-in_err-apply_all c =
    let p = err_from_is_err_and c.from_residual.result c.from_residual.ensures.1 in
    rw (p.1, p.2) (fails c.args.cells.now c.args.revisions.now c.args.rev c.requires.number c.args.commit c.get.result.now c.get.ensures c.apply_all.new.edits c.in_err-apply_all.field-0.0 c.in_err-apply_all.ensures.says)

pub returns : goal.returns
returns c =
    makes c.args.cells.now c.args.revisions.now c.args.rev c.requires.number c.args.commit c.get.result.now c.get.ensures c.apply_all.new.edits c.requires.kept
    c.in_ok-apply_all.ensures.says c.in_ok-apply_all.ensures.few _ refl c.in_ok-more.ensures
    c.youngest_root-before.result c.youngest_root-before.ensures c.get-2.result.now c.get-2.ensures c.in_ok-changed.ensures
