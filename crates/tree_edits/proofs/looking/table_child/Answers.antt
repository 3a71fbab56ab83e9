use Rattle.std.proofs.Common.{◌≡◌, ◌<◌, ℕ, Option, Some, length, sym, ap, subst, ◌∙◌}
use Rattle.node_table.proofs.Growing.{child_within}
use Rattle.tree_edits.specs.Edits.{Held}
use Rattle.tree_edits.proofs.looking.table_child.Goals as goal

pub cell_of-cell-requires : goal.cell_of-cell-requires
cell_of-cell-requires c = child_within c.args.cells.now c.requires.sound c.args.name.now c.in-Some.id c.in-Some-child_at.child (c.requires.under c.in-Some.id c.in-Some.is) (sym c.child_at.ensures ∙ c.in-Some-child_at.is)

under_of : (of : Held) (under : Option ℕ) (child count : ℕ) → of.under ≡ Some child → child < count → (id : ℕ) → of.under ≡ Some id → id < count
under_of of under child count is less id e = let s : Some child ≡ Some id = sym is ∙ e in let t : child ≡ id = cc in subst (λ k. k < count) t less

pub returns-in_ok-line-in-Some-child_at-clause-under : goal.returns-in_ok-line-in-Some-child_at-clause-under
returns-in_ok-line-in-Some-child_at-clause-under c =
    under_of c.of.result c.of.result.under c.in-Some-child_at.child (length c.args.cells.now) (ap (λ (h : Held). h.under) c.of.ensures)
    (child_within c.args.cells.now c.requires.sound c.args.name.now c.in-Some.id c.in-Some-child_at.child (c.requires.under c.in-Some.id c.in-Some.is) (sym c.child_at.ensures ∙ c.in-Some-child_at.is))
