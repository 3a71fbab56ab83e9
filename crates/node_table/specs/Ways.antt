-- Ways of names from a directory down, as texts of paths.
use Rattle.std.specs.Prelude.{ℕ, Bool, true, false, ◌&&◌, List, [], ◌∷◌}
use Rattle.std.specs.List.{list_all}
use Rattle.std.specs.Str.{bytes_eq}
use Rattle.dsv_base.specs.Paths.{is_component, components, join_text}

-- a name of a node in its directory
abbrev pub Name : Type 0
Name = List ℕ

-- each is a component of a path
abbrev pub are_names : List Name → Bool
are_names ns = list_all is_component ns

-- the second way begins with the first
abbrev pub is_front : List Name → List Name → Bool
is_front [] ns = true
is_front (m ∷ ms) [] = false
is_front (m ∷ ms) (n ∷ ns) = bytes_eq n m && is_front ms ns

-- the names of a path's text
abbrev pub names_in : List ℕ → List Name
names_in [] = []
names_in (b ∷ []) = []
names_in (b ∷ c ∷ rest) = components (c ∷ rest)
