-- Whether a change fits, as a call answers it.
use Rattle.std.specs.Prelude.{ℕ, ◌≡◌, Bool, true, false, Option, None, Some, Result, Ok, Err, MatchBool}
use Rattle.std.specs.FinMap.{is_sorted}
use Rattle.std.specs.Ordering.{nat_cmp}
use Rattle.std.specs.Cmp.Lexicographic.{slice_cmp}
use Rattle.rev_nodes.specs.declared.unfit.Unfit.{Unfit}
use Rattle.rev_nodes.specs.declared.unfit.Unfit.TheVariants.{NoNode, IsRoot, Exists, NoParent, TooLong, NoMemory}
use Rattle.rev_nodes.specs.Trees.{TreeNode, Tree}

-- the places of a tree stand in byte order of the path, each once
abbrev pub in_order : Tree → Bool
in_order tree = is_sorted (slice_cmp nat_cmp) tree

-- want of memory, which is no reason of the tree
abbrev pub is_want : Unfit → Bool
is_want NoMemory = true
is_want NoNode = false
is_want IsRoot = false
is_want Exists = false
is_want NoParent = false
is_want TooLong = false

-- it fits and the answer says what came of it, or this is why it doesn't fit; want of memory is free
abbrev pub Fits : {X : Type 0} → (X → Type 0) → Option Unfit → Result X Unfit → Type 0
Fits says why (Ok x) = (why ≡ None) × says x
Fits says why (Err fault) = MatchBool (is_want fault) (Unit {0}) (why ≡ Some fault)

-- a node as a change of this revision leaves it
abbrev pub settled : ℕ → TreeNode → TreeNode
settled r found = record found { node = record found.node { created = r } }
