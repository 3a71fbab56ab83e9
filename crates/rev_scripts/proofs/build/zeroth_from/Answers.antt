use Rattle.std.proofs.Common.{ℕ, List, refl, sym, ap, subst, ◌∙◌}
use Rattle.std.proofs.lemmas.Result.{err_from_is_err_and}
use Rattle.rev_nodes.specs.declared.commit.Commit.{Commit}
use Rattle.rev_scripts.specs.Items.{Told, nothing_told}
use Rattle.rev_scripts.proofs.ReadRevisions.{head_fault, zeroth_of, zeroth_fault, zeroth_whole, none_told}
use Rattle.rev_nodes.specs.Commits.{IsSoundCommit}
use Rattle.rev_scripts.proofs.SoundTold.{read_commit}
use Rattle.rev_scripts.proofs.build.zeroth_from.Goals as goal

pub returns-in-Err-clause-value : goal.returns-in-Err-clause-value
returns-in-Err-clause-value c = rw c.at.ensures (head_fault zeroth_of 0 4 c.args.text.now c.in-Err.fault (rw c.zeroth.ensures at c.in-Err.ensures.value))

pub returns-in_err-line-clause-value : goal.returns-in_err-line-clause-value
returns-in_err-line-clause-value c =
    let p = err_from_is_err_and c.from_residual.result c.from_residual.ensures.1 in
    let head : ℕ × List ℕ × List ℕ = (c.in-Ok.head.0, c.in-Ok.head.1, c.in-Ok.head.2) in
    rw (p.1, p.2) (zeroth_fault c.args.text.now head c.in_err-line.field-0.0 (rw c.zeroth.ensures at c.in-Ok.ensures.value) (rw (c.zeroth-2.ensures, c.new-told.ensures, c.line_after-line.ensures.value) at c.in_err-line.ensures.after))

pub returns-clause-value : goal.returns-clause-value
returns-clause-value c =
    let head : ℕ × List ℕ × List ℕ = (c.in-Ok.head.0, c.in-Ok.head.1, c.in-Ok.head.2) in
    rw c.into_commit-commit.ensures.commit (zeroth_whole c.args.text.now head c.read_items.new.told (c.in_ok-line.line, c.in_ok-line.rest) (rw c.zeroth.ensures at c.in-Ok.ensures.value) (rw (c.zeroth-2.ensures, c.new-told.ensures, c.line_after-line.ensures.value) at c.in_ok-line.ensures.told) (rw (c.zeroth-2.ensures, c.new-told.ensures, c.line_after-line.ensures.value) at c.in_ok-line.ensures.after))

pub returns-clause-none : goal.returns-clause-none
returns-clause-none c =
    ap (λ (commit : Commit). commit.changes) c.into_commit-commit.ensures.commit
    ∙ ap (λ (told : Told). told.changes) (rw (c.zeroth-2.ensures, c.new-told.ensures, c.line_after-line.ensures.value) at c.in_ok-line.ensures.told)
    ∙ none_told _ nothing_told _ _

pub returns-clause-sound : goal.returns-clause-sound
returns-clause-sound c =
    let head : ℕ × List ℕ × List ℕ = (c.in-Ok.head.0, c.in-Ok.head.1, c.in-Ok.head.2) in
    subst IsSoundCommit (sym c.into_commit-commit.ensures.commit)
    (read_commit 0 4 c.args.text.now head _ _ c.read_items.new.told c.in-Ok.head.1 c.in-Ok.head.0 (rw c.zeroth.ensures at c.in-Ok.ensures.value) refl
    (rw (c.zeroth-2.ensures, c.new-told.ensures, c.line_after-line.ensures.value) at c.in_ok-line.ensures.told))
