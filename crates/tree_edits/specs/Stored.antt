-- Touched paths as a map keeps them.
use Rattle.std.specs.Prelude.{ℕ, List, Option, map}
use Rattle.tree_edits.specs.Edits.{Held, Touched}

-- the entries of a map, its keys being read as texts
abbrev pub touched_of : {K : Type 0} → (K → List ℕ) → List (K × Option Held) → Touched
touched_of text entries = map (λ e. (text e.0, e.1)) entries
