use Rattle.std.proofs.Common.{◌≤◌, ℕ, List, length, sym, subst, arith}
use Rattle.node_table.specs.Ways.{names_in}
use Rattle.node_table.proofs.PathNames.{names_of_path}
use Rattle.tree_edits.proofs.copy.is_short.Goals as goal

pub overflow_sub-depth : goal.overflow_sub-depth
overflow_sub-depth c =
    let few : length (names_in c.text-text.result.now) ≤ 64 = subst (λ t. length (names_in t) ≤ 64) (sym c.text-text.ensures.text) (names_of_path c.args.path.now c.text-text.ensures.path).few in
    let d = c.depth.ensures in
    omega (arith, few, d)

pub overflow_sub-text : goal.overflow_sub-text
overflow_sub-text c = subst (λ (t : List ℕ). length t ≤ 1024) (sym c.text-text.ensures.text) (names_of_path c.args.path.now c.text-text.ensures.path).short
