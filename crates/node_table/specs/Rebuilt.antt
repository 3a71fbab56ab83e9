-- A root of the table, a node after a change at or below it, and a table that has grown.
use Rattle.std.specs.Prelude.{ℕ, ◌≡◌, Bool, true, false, ◌++◌, List}
use Rattle.rev_nodes.specs.declared.cell.Cell.{Cell}
use Rattle.rev_nodes.specs.Trees.{TreeNode}
use Rattle.node_table.specs.Tables.{Spot, cell_at}

-- the node, changed last in this revision if a change is at or below it, and else as it was
abbrev pub stamped : ℕ → Bool → TreeNode → TreeNode
stamped r true found = record found { node = record found.node { created = r } }
stamped r false found = found

-- a number as it stands at a root: with the line of its own cell
abbrev pub root_spot : List Cell → ℕ → Spot
root_spot cells root = record { id = root; line = (cell_at cells root).line }

-- the new table has all cells of the old one, and behind them more, or none
pub record IsLonger (old new : List Cell) : Type 0 where
  pub more : List Cell
  pub is : new ≡ old ++ more
