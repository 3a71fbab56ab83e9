-- What was made of paths, as it stands in one directory.
use Rattle.std.specs.Prelude.{ℕ, ◌≡◌, true, List, [], ◌∷◌, Option, Some, IsTrue, if◌then◌else◌}
use Rattle.std.specs.List.{list_all}
use Rattle.std.specs.FinMap.{is_sorted}
use Rattle.std.specs.FinMap.Entries.{below_all}
use Rattle.std.specs.Ordering.{nat_cmp}
use Rattle.std.specs.Cmp.Lexicographic.{slice_cmp}
use Rattle.dsv_base.specs.Paths.{is_path, is_component, name_of, join_text}
use Rattle.rev_nodes.specs.Entries.{is_child}
use Rattle.node_table.specs.Ways.{Name}
use Rattle.tree_settling.specs.Merged.{AllMade, made_at}

-- this is a path, and so is each of what was made, which stands in byte order and behind it
pub record AreBehind (path : List ℕ) (made : AllMade) : Type 0 where
  pub one : IsTrue (is_path path)
  pub paths : IsTrue (list_all (λ m. is_path m.0) made)
  pub sorted : IsTrue (is_sorted (slice_cmp nat_cmp) made)
  pub later : IsTrue (below_all (slice_cmp nat_cmp) path made)

-- what was made of a path by its name, if it stands right in the directory
abbrev pub listed_in : List ℕ → List ℕ × Option ℕ → AllMade
listed_in directory made = if is_child directory made.0 then (name_of made.0, made.1) ∷ [] else []

-- names in byte order, each with what was made of it in the directory
pub record AreListed (directory : List ℕ) (made names : AllMade) : Type 0 where
  pub sorted : IsTrue (is_sorted (slice_cmp nat_cmp) names)
  pub finds : (n : Name) → is_component n ≡ true → made_at names n ≡ made_at made (join_text directory n)
  pub named : (n : Name) (id : Option ℕ) → made_at names n ≡ Some id → is_component n ≡ true
