use Rattle.std.proofs.Common.{ℕ, List, refl, sym, ◌∙◌}
use Rattle.std.proofs.lemmas.Result.{err_from_is_err_and}
use Rattle.rev_scripts.specs.Scripts.{with_read}
use Rattle.rev_trees.specs.Readies.{revisions_of}
use Rattle.rev_scripts.proofs.ReadRevisions.{head_fault, fault_next, unfit_next, whole_next, length-revisions_of}
use Rattle.rev_scripts.proofs.SoundTold.{read_commit, unless_sound}
use Rattle.rev_scripts.proofs.build.push_revision.Goals as goal

pub returns-in-Err-clause-value : goal.returns-in-Err-clause-value
returns-in-Err-clause-value c =
    let revisions = revisions_of c.args.trees.now in
    let count = c.next_number-number.ensures ∙ sym (length-revisions_of c.args.trees.now) in
    rw c.at.ensures (head_fault (with_read revisions) _ c.args.line c.args.text.now c.in-Err.fault (rw count at c.in-Err.ensures.value))

pub returns-in-Err-read-clause-value : goal.returns-in-Err-read-clause-value
returns-in-Err-read-clause-value c =
    let head : ℕ × List ℕ × List ℕ = (c.in-Ok.head.0, c.in-Ok.head.1, c.in-Ok.head.2) in
    let count = c.next_number-number.ensures ∙ sym (length-revisions_of c.args.trees.now) in
    fault_next (revisions_of c.args.trees.now) c.next_number-number.result c.args.line c.args.text.now head c.read_items-read.new.told c.in-Err-read.fault c.first_fault.result count c.in-Ok.ensures.value
    (rw (c.new-told.ensures, c.line_after-begins.ensures.value) at c.in-Err-read.ensures.told)
    (rw (c.new-told.ensures, c.line_after-begins.ensures.value) at c.in-Err-read.ensures.after)
    c.first_fault.ensures

pub returns-in_err-ready-clause-value : goal.returns-in_err-ready-clause-value
returns-in_err-ready-clause-value c =
    let p = err_from_is_err_and c.from_residual.result c.from_residual.ensures.1 in
    let head : ℕ × List ℕ × List ℕ = (c.in-Ok.head.0, c.in-Ok.head.1, c.in-Ok.head.2) in
    let count = c.next_number-number.ensures ∙ sym (length-revisions_of c.args.trees.now) in
    rw (p.1, p.2) (unfit_next c.in-Ok.head.1 c.next_number-number.result c.args.line c.args.text.now head c.read_items-read.new.told (c.in-Ok-read.after.0, c.in-Ok-read.after.1) c.args.trees.now c.prepare_told.new.trees c.in_err-ready.field-0.0 refl count c.in-Ok.ensures.value
    (rw (c.new-told.ensures, c.line_after-begins.ensures.value) at c.in-Ok-read.ensures.told)
    (rw (c.new-told.ensures, c.line_after-begins.ensures.value) at c.in-Ok-read.ensures.after)
    c.in_err-ready.ensures.says)

pub returns-clause-value : goal.returns-clause-value
returns-clause-value c =
    let head : ℕ × List ℕ × List ℕ = (c.in-Ok.head.0, c.in-Ok.head.1, c.in-Ok.head.2) in
    let count = c.next_number-number.ensures ∙ sym (length-revisions_of c.args.trees.now) in
    whole_next c.next_number-number.result c.args.line c.args.text.now head c.read_items-read.new.told (c.in-Ok-read.after.0, c.in-Ok-read.after.1) c.args.trees.now c.prepare_told.new.trees c.push_ready.new.self c.in_ok-ready.ready count c.in-Ok.ensures.value
    (rw (c.new-told.ensures, c.line_after-begins.ensures.value) at c.in-Ok-read.ensures.told)
    (rw (c.new-told.ensures, c.line_after-begins.ensures.value) at c.in-Ok-read.ensures.after)
    c.in_ok-ready.ensures.kept c.in_ok-ready.ensures.says.1 c.push_ready.ensures.pushes

pub prepare_told-requires-clause-sound : goal.prepare_told-requires-clause-sound
prepare_told-requires-clause-sound c =
    let head : ℕ × List ℕ × List ℕ = (c.in-Ok.head.0, c.in-Ok.head.1, c.in-Ok.head.2) in
    read_commit c.next_number-number.result c.args.line c.args.text.now head _ _ c.read_items-read.new.told c.in-Ok.head.1 c.in-Ok.head.0 c.in-Ok.ensures.value refl
    (rw (c.new-told.ensures, c.line_after-begins.ensures.value) at c.in-Ok-read.ensures.told)

pub first_fault-requires-clause-sound : goal.first_fault-requires-clause-sound
first_fault-requires-clause-sound c =
    let head : ℕ × List ℕ × List ℕ = (c.in-Ok.head.0, c.in-Ok.head.1, c.in-Ok.head.2) in
    unless_sound c.next_number-number.result c.args.line c.args.text.now head _ _ c.read_items-read.new.told c.in-Ok.head.1 c.in-Ok.head.0 c.in-Err-read.fault c.in-Ok.ensures.value refl
    (rw (c.new-told.ensures, c.line_after-begins.ensures.value) at c.in-Err-read.ensures.told)
