-- What is known of the records of revisions while an answer is written.
use Rattle.std.specs.Prelude.{ℕ, ◌≡◌, ⊤, List, [], ◌∷◌, Option}
use Rattle.dsv_base.specs.declared.prop_name.PropName.{PropName}
use Rattle.rev_nodes.specs.Forests.{revision_at}
use Rattle.log_access.specs.declared.level.Level.{Level}
use Rattle.log_access.specs.Levels.{level_of}
use Rattle.prop_requests.specs.declared.known_level.KnownLevel.{KnownLevel}
use Rattle.prop_requests.specs.Sights.{SightState, sees}

-- what answers are told from, and the properties that are wanted: those of these names, or else all
pub record TellingState : Type 0 where
  pub sight : SightState
  pub wanted : Option (List PropName)

-- the level at which the user is shown the record of a revision
abbrev pub level_in : SightState → ℕ → Level
level_in sight rev = level_of (sees sight) (revision_at sight.trees rev).changed

-- the level is that of the revision
abbrev pub IsKnown : SightState → KnownLevel → Type 0
IsKnown sight known = known.level ≡ level_in sight known.rev

-- each level that a map has is that of its revision
abbrev pub AreKnown : {K : Type 0} → SightState → List (K × KnownLevel) → Type 0
AreKnown sight [] = ⊤
AreKnown sight (e ∷ es) = IsKnown sight e.1 × AreKnown sight es
