-- What a change does to edits.
use Rattle.std.specs.Prelude.{ℕ, ◌≡◌, ◌≤◌, ◌+◌, List, Option, None, Some, Result, Ok, Err, MatchBool, length}
use Rattle.rev_nodes.specs.declared.cell.Cell.{Cell}
use Rattle.rev_nodes.specs.declared.change.Change.{Change}
use Rattle.rev_nodes.specs.declared.unfit.Unfit.{Unfit}
use Rattle.rev_nodes.specs.Trees.{Tree}
use Rattle.rev_nodes.specs.Changes.{unfit, apply}
use Rattle.rev_nodes.specs.Fitting.{is_want, Fits}
use Rattle.node_table.specs.Steps.{AreSources, HasSource}
use Rattle.tree_edits.specs.Edits.{EditedTree, AreShown}
use Rattle.tree_edits.specs.AreEdits.{AreEdits}

-- the change fits the tree that the edits show, and they show then what it makes of it; or this is why it doesn't fit; want of memory is free
abbrev pub Applies : {X : Type 0} → ℕ → Change → List Cell → EditedTree → EditedTree → Option ℕ → Result X Unfit → Type 0
Applies rev change cells old new from result = (trees : List Tree) (tree : Tree) → AreSources trees → AreShown cells old tree → HasSource cells from change trees → Fits (λ done. AreShown cells new (apply change trees tree rev)) (unfit change trees tree) result

-- the change was done: the edits are edits of this revision still, at most 65 paths were touched more, and the change fits the tree that they showed and they show what it makes of that
pub record IsChangeDone (rev : ℕ) (change : Change) (cells : List Cell) (old new : EditedTree) (from : Option ℕ) : Type 0 where
  pub are : AreEdits rev cells new
  pub few : length new.touched ≤ length old.touched + 65
  pub says : (trees : List Tree) (tree : Tree) → AreSources trees → AreShown cells old tree → HasSource cells from change trees → (unfit change trees tree ≡ None) × AreShown cells new (apply change trees tree rev)

-- it was done, or nothing was changed and this is why it doesn't fit; want of memory is free
abbrev pub Does : {X : Type 0} → ℕ → Change → List Cell → EditedTree → EditedTree → Option ℕ → Result X Unfit → Type 0
Does rev change cells old new from (Ok x) = IsChangeDone rev change cells old new from
Does rev change cells old new from (Err why) = (new ≡ old) × MatchBool (is_want why) (Unit {0}) ((trees : List Tree) (tree : Tree) → AreSources trees → AreShown cells old tree → HasSource cells from change trees → unfit change trees tree ≡ Some why)
