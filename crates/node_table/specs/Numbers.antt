-- A flat tree with the numbers that a table has for its places.
use Rattle.std.specs.Prelude.{ℕ, List, Some, map}
use Rattle.std.specs.Option.{option_map_or}
use Rattle.rev_nodes.specs.declared.cell.Cell.{Cell}
use Rattle.rev_nodes.specs.Trees.{TreeNode, Tree}
use Rattle.rev_nodes.specs.Forests.{Numbered}
use Rattle.node_table.specs.Ways.{names_in}
use Rattle.node_table.specs.Tables.{reach}

-- the number that a path's names lead to from a root, or 0 where they lead nowhere
abbrev pub number_at : List Cell → ℕ → List ℕ → ℕ
number_at cells root path = option_map_or (λ id. id) (reach cells (Some root) (names_in path)) 0

-- a place with its number
abbrev pub numbered_place : List Cell → ℕ → List ℕ × TreeNode → List ℕ × Numbered
numbered_place cells root place = (place.0, record { id = number_at cells root place.0; here = place.1 })

-- the places of a tree that a root shows, with their numbers
abbrev pub numbered : List Cell → ℕ → Tree → List (List ℕ × Numbered)
numbered cells root tree = map (numbered_place cells root) tree
