-- What a change that was done, or wasn't, says of the edits.
use Rattle.std.proofs.Common.{Result, Ok, Err, ◌≡◌, ℕ, ◌+◌, ◌≤◌, Bool, true, false, List, [], Option, None, Some, length, sym, ap, subst, arith}
use Rattle.std.specs.Prelude.{MatchBool, OnErr, is_some, if◌then◌else◌}
use Rattle.rev_nodes.specs.declared.cell.Cell.{Cell}
use Rattle.rev_nodes.specs.declared.change.Change.{Change}
use Rattle.rev_nodes.specs.declared.change.Change.TheVariants as changes
use Rattle.rev_nodes.specs.declared.unfit.Unfit.{Unfit}
use Rattle.rev_nodes.specs.declared.unfit.Unfit.TheVariants as whys
use Rattle.rev_nodes.specs.Trees.{Tree, at, tree_at}
use Rattle.rev_nodes.specs.Changes.{unfit, unfit_copy, copied}
use Rattle.rev_nodes.specs.Fitting.{is_want}
use Rattle.node_table.specs.Steps.{AreSources, HasSource}
use Rattle.tree_edits.specs.Edits.{EditedTree, AreShown}
use Rattle.tree_edits.specs.AreEdits.{AreEdits}
use Rattle.tree_edits.specs.Applied.{Applies, Does}

pub does_are : {X : Type 0} (rev : ℕ) (change : Change) (cells : List Cell) (old new : EditedTree) (from : Option ℕ) → AreEdits rev cells old → (result : Result X Unfit) → Does rev change cells old new from result → AreEdits rev cells new
does_are rev change cells old new from are (Ok x) d = d.are
does_are rev change cells old new from are (Err why) d = subst (AreEdits rev cells) (sym d.0) are

pub does_few : {X : Type 0} (rev : ℕ) (change : Change) (cells : List Cell) (old new : EditedTree) (from : Option ℕ) (result : Result X Unfit) → Does rev change cells old new from result → length new.touched ≤ length old.touched + 65
does_few rev change cells old new from (Ok x) d = d.few
does_few rev change cells old new from (Err why) d = let l = ap (λ (e : EditedTree). length e.touched) d.0 in omega (arith, l)

pub does_kept : {X : Type 0} (rev : ℕ) (change : Change) (cells : List Cell) (old new : EditedTree) (from : Option ℕ) (result : Result X Unfit) → Does rev change cells old new from result → OnErr result (new ≡ old)
does_kept rev change cells old new from (Ok x) d = tt
does_kept rev change cells old new from (Err why) d = d.0

pub does_says : {X : Type 0} (rev : ℕ) (change : Change) (cells : List Cell) (old new : EditedTree) (from : Option ℕ) (result : Result X Unfit) → Does rev change cells old new from result → Applies rev change cells old new from result
does_says rev change cells old new from (Ok x) d = d.says
does_says rev change cells old new from (Err why) d = by (is_want why) d.1
  where
    by : (b : Bool) → MatchBool b (Unit {0}) ((trees : List Tree) (tree : Tree) → AreSources trees → AreShown cells old tree → HasSource cells from change trees → unfit change trees tree ≡ Some why) → (trees : List Tree) (tree : Tree) → AreSources trees → AreShown cells old tree → HasSource cells from change trees → MatchBool b (Unit {0}) (unfit change trees tree ≡ Some why)
    by true n trees tree sources is has = tt
    by false n trees tree sources is has = n trees tree sources is has

-- nothing stands in a tree that isn't there
pub no_source : (source path : List ℕ) (rev : ℕ) (trees : List Tree) (tree : Tree) → tree_at trees rev ≡ [] → unfit (changes.Copy source rev path) trees tree ≡ Some whys.NoNode
unfolding unfit
no_source source path rev trees tree none = ap (λ (t : Tree). if is_some (at source t) then unfit_copy path (copied source rev path 0 t) tree else Some whys.NoNode) none

pub no_copy : {source path : List ℕ} {rev : ℕ} (cells : List Cell) (edits : EditedTree) (change : Change) (from : Option ℕ) → change ≡ changes.Copy source rev path → from ≡ None → (trees : List Tree) (tree : Tree) → AreSources trees → AreShown cells edits tree → HasSource cells from change trees → unfit change trees tree ≡ Some whys.NoNode
no_copy {source} {path} {rev} cells edits change from is none = subst (λ ch. (trees : List Tree) (tree : Tree) → AreSources trees → AreShown cells edits tree → HasSource cells from ch trees → unfit ch trees tree ≡ Some whys.NoNode) (sym is)
    (subst (λ o. (trees : List Tree) (tree : Tree) → AreSources trees → AreShown cells edits tree → HasSource cells o (changes.Copy source rev path) trees → unfit (changes.Copy source rev path) trees tree ≡ Some whys.NoNode) (sym none)
    (λ trees tree sources shown has. no_source source path rev trees tree has))
