-- The text of a path as it is cut into names.
use Rattle.std.specs.Prelude.{ℕ, ◌≡◌, List, ◌∷◌, ◌++◌}
use Rattle.dsv_base.specs.Paths.{front_of}

-- a rest of a path's text, behind what leads to a place
pub record IsRest (text path rest : List ℕ) : Type 0 where
  pub is : text ≡ front_of path ++ 47 ∷ rest
