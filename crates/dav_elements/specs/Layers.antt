-- How bindings are held, which no caller sees.
use Rattle.std.specs.Prelude.{ℕ, ◌≡◌, List}
use Rattle.std.specs.BTreeMap.{BTreeMap, get_by}
use Rattle.std.specs.Cmp.Lexicographic.{slice_cmp}
use Rattle.std.specs.Ordering.{nat_cmp}
use Rattle.dav_elements.specs.declared.bound.Bound.{Bound}
use Rattle.dav_elements.specs.Names.{first_space}

-- the map has at each prefix what the first binding of it binds it to, its keys being read as texts
abbrev pub FindsSpaces : {K : Type 0} → BTreeMap K (List ℕ) → (K → List ℕ) → List Bound → Type 0
FindsSpaces map text bounds = (prefix : List ℕ) → get_by (λ k. slice_cmp nat_cmp prefix (text k)) map ≡ first_space bounds prefix
