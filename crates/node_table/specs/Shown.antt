-- What tree a number of the table shows.
use Rattle.std.specs.Prelude.{ℕ, ◌≡◌, true, List, Some}
use Rattle.dsv_base.specs.Paths.{root_text}
use Rattle.rev_nodes.specs.declared.cell.Cell.{Cell}
use Rattle.rev_nodes.specs.Trees.{Tree, at}
use Rattle.rev_nodes.specs.Formed.{IsFormed}
use Rattle.rev_nodes.specs.Subtrees.{path_below}
use Rattle.node_table.specs.Ways.{Name, are_names}
use Rattle.node_table.specs.Tables.{seen}
use Rattle.node_table.specs.Rebuilt.{root_spot}

-- the flat tree is formed, and has at each path exactly what the names of the path lead to from the root
pub record IsShown (cells : List Cell) (root : ℕ) (tree : Tree) : Type 0 where
  pub shown : (ns : List Name) → are_names ns ≡ true → at (path_below root_text ns) tree ≡ seen cells (Some (root_spot cells root)) ns
  pub formed : IsFormed tree

-- the flat tree, whatever its form, has at each path exactly what the names of the path lead to from the root
abbrev pub ShowsAll : List Cell → ℕ → Tree → Type 0
ShowsAll cells root tree = (ns : List Name) → are_names ns ≡ true → at (path_below root_text ns) tree ≡ seen cells (Some (root_spot cells root)) ns
