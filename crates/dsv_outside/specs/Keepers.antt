-- What a keeper does.
use Rattle.std.specs.Prelude.{ℕ, List, [], ◌∷◌, ◌++◌, Option, option_map}
use Rattle.dsv_outside.specs.declared.put.Put.{Put}
use Rattle.dsv_outside.specs.declared.put.Put.TheVariants.{Done, Failed, NoMemory}

-- what is kept after this answer to keeping a text under a number
abbrev pub kept_after : Put → ℕ → List ℕ → Option (List (ℕ × List ℕ)) → Option (List (ℕ × List ℕ))
kept_after Done number text kept = option_map (λ pairs. pairs ++ (number, text) ∷ []) kept
kept_after Failed number text kept = kept
kept_after NoMemory number text kept = kept
