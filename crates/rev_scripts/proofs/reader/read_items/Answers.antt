use Rattle.std.proofs.Common.{◌≡◌, ℕ, ◌<◌, ◌≤◌, ◌+◌, List, [], ◌∷◌, ◌++◌, length, sym, ap, arith, length-append}
use Rattle.std.proofs.lemmas.Result.{err_from_is_err_and}
use Rattle.rev_scripts.specs.Scripts.{Items}
use Rattle.rev_scripts.proofs.ItemTurns.{prop_read, change_read, end_read, fault_gives, fault_told}
use Rattle.rev_scripts.proofs.reader.read_items.Goals as goal
use Rattle.rev_scripts.proofs.reader.read_items.Goals.{in-Prop+in_ok-add_prop-in-Prop, in-Change+in_ok-add_change-in-Change}

one_taken : {X : Type 0} (xs : List X) (x : X) (after rest most : ℕ) → after < rest → length xs + rest ≤ most → length (xs ++ x ∷ []) + after ≤ most
one_taken xs x after rest most shorter few = let count : length (xs ++ x ∷ []) ≡ length xs + 1 = length-append xs (x ∷ []) in omega arith

pub returns-in_err-item-clause-after : goal.returns-in_err-item-clause-after
returns-in_err-item-clause-after c =
    let p = err_from_is_err_and c.from_residual.result c.from_residual.ensures.1 in
    rw (p.1, p.2) (fault_gives c.args.number c.items.told c.items.begins c.items.rest _ c.in_err-item.field-0.0 c.items.invariant.read c.in_err-item.ensures.value)

pub returns-in_err-item-clause-told : goal.returns-in_err-item-clause-told
returns-in_err-item-clause-told c =
    let p = err_from_is_err_and c.from_residual.result c.from_residual.ensures.1 in
    rw (p.1, p.2) (fault_told c.args.number c.items.told c.items.begins c.items.rest _ c.in_err-item.field-0.0 c.items.invariant.read c.in_err-item.ensures.value)

pub returns-in-End-clause-after : goal.returns-in-End-clause-after
returns-in-End-clause-after c =
    rw c.line_after-next.ensures.value (ap (λ (i : Items). i.1) (end_read c.args.number c.items.told c.items.begins c.items.rest c.in_ok-item.after _ c.items.invariant.read (rw c.in-End.is at c.in_ok-item.ensures.value) c.in_ok-item.ensures.shorter))

pub returns-in-End-clause-told : goal.returns-in-End-clause-told
returns-in-End-clause-told c =
    sym (ap (λ (i : Items). i.0) (end_read c.args.number c.items.told c.items.begins c.items.rest c.in_ok-item.after _ c.items.invariant.read (rw c.in-End.is at c.in_ok-item.ensures.value) c.in_ok-item.ensures.shorter))

pub items-preserved : goal.items-preserved
items-preserved c = elim c.match-item.branch [
  | in-Prop+in_ok-add_prop-in-Prop w ↦ record {
    read = rw (w.told-is, w.in_ok-add_prop-in-Prop.ensures, c.line_after-next.ensures.value) (prop_read c.args.number c.items.told c.items.begins c.items.rest c.in_ok-item.after _ w.in-Prop.prop c.items.invariant.read (rw w.in-Prop.is at c.in_ok-item.ensures.value) c.in_ok-item.ensures.shorter);
    room = omega (arith, c.line_after-next.ensures.room, c.items.invariant.room);
    shorter = omega (arith, c.in_ok-item.ensures.shorter, c.items.invariant.shorter);
    few = rw (w.told-is, w.in_ok-add_prop-in-Prop.ensures) (omega (arith, c.in_ok-item.ensures.shorter, c.items.invariant.few));
  }
  | in-Change+in_ok-add_change-in-Change w ↦ record {
    read = rw (w.told-is, w.in_ok-add_change-in-Change.ensures, c.line_after-next.ensures.value) (change_read c.args.number c.items.told c.items.begins c.items.rest c.in_ok-item.after _ w.in-Change.change c.items.invariant.read (rw w.in-Change.is at c.in_ok-item.ensures.value) c.in_ok-item.ensures.shorter);
    room = omega (arith, c.line_after-next.ensures.room, c.items.invariant.room);
    shorter = omega (arith, c.in_ok-item.ensures.shorter, c.items.invariant.shorter);
    few = rw (w.told-is, w.in_ok-add_change-in-Change.ensures) (one_taken c.items.told.changes w.in-Change.change (length c.in_ok-item.after) (length c.items.rest) _ c.in_ok-item.ensures.shorter c.items.invariant.few);
  }
]
