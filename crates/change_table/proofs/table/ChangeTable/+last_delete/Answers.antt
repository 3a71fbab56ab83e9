use Rattle.std.proofs.Common.{◌≡◌, ◌<◌, Option, None, Some, length, refl, sym, ap, ◌∙◌, arith, rules, ℕ}
use Rattle.dsv_base.specs.Paths.{parent_text}
use Rattle.dsv_base.proofs.Joins.{parent_is_path}
use Rattle.change_table.specs.ChangeTables.{later, deleted_in}
use Rattle.change_table.proofs.Ancestors.{parent_less, ancestors_none, ancestors_some}
use Rattle.change_table.proofs.table.ChangeTable.+last_delete.Goals as goal

later_none : (o : Option ℕ) → later o None ≡ o
later_none None = refl
later_none (Some n) = refl

pub last_delete-requires : goal.last_delete-requires
last_delete-requires t c =
    let up : parent_text c.args.path.now ≡ Some c.in-Some.parent.now = search rules in
    let less = parent_less c.args.path.now c.in-Some.parent.now c.requires up in
    let d = c.decreases in
    let below : length c.in-Some.parent.now < t = omega (arith, less, d) in
    (below, parent_is_path c.args.path.now c.in-Some.parent.now c.requires up)

pub returns-in-None : goal.returns-in-None
returns-in-None t c =
    let none : parent_text c.args.path.now ≡ None = search rules in
    c.delete_at-here.ensures ∙ sym (later_none _) ∙ sym (ap (deleted_in c.args.self.now) (ancestors_none c.args.path.now c.requires none))

pub returns-in-Some : goal.returns-in-Some
returns-in-Some t c =
    let up : parent_text c.args.path.now ≡ Some c.in-Some.parent.now = search rules in
    c.later.ensures ∙ (λ i. later (c.delete_at-here.ensures i) (c.last_delete.ensures i))
    ∙ sym (ap (deleted_in c.args.self.now) (ancestors_some c.args.path.now c.in-Some.parent.now c.requires up))
