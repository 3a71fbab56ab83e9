-- What the program's own calls say of rights as numbers.
use Rattle.std.specs.Prelude.{ℕ, ◌+◌, ◌&&◌, List, [], ◌∷◌, Option, None, Some, max, if◌then◌else◌}
use Rattle.std.specs.List.{slice_get}
use Rattle.std.specs.Option.{option_map_or}
use Rattle.authz_file.specs.declared.right.Right.{Right}
use Rattle.authz_file.specs.declared.rule.Rule.{Rule}
use Rattle.authz_check.specs.Access.{is_in_section, matches}
use Rattle.authz_check.specs.Everywhere.{rank}

-- no right given is less than any
abbrev pub level : Option Right → ℕ
level None = 0
level (Some right) = rank right + 1

-- what a rule gives the user, where it stands in the section
abbrev pub weight : Option (List ℕ) → Option (List ℕ) → List ℕ → Rule → ℕ
weight user repos path rule = if is_in_section repos path rule && matches rule user then level (Some rule.right) else 0

-- the weight of the rule at a place
abbrev pub weight_at : Option (List ℕ) → Option (List ℕ) → List ℕ → List Rule → ℕ → ℕ
weight_at user repos path rules place = option_map_or (weight user repos path) (slice_get rules place) 0

-- the greatest of some numbers, or 0
abbrev pub top : (Rule → ℕ) → List Rule → ℕ
top f [] = 0
top f (rule ∷ rules) = max (f rule) (top f rules)
