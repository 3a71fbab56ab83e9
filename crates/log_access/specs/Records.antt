-- What a user is shown of the record of a revision: who made it and when, its properties, and what it changed.
use Rattle.std.specs.Prelude.{ℕ, Bool, List, [], ◌∷◌, Option, None, Some, map, if◌then◌else◌}
use Rattle.std.specs.List.{filter}
use Rattle.std.specs.Option.{option_and_then}
use Rattle.dsv_base.specs.declared.prop.Prop.{Prop}
use Rattle.rev_nodes.specs.declared.changed.Changed.{Changed}
use Rattle.rev_nodes.specs.Trees.{Revision}
use Rattle.log_access.specs.declared.level.Level.{Level}
use Rattle.log_access.specs.Levels.{reads_path, level_of, shows_props, shows_author}

-- the source of a copy is shown only where it is readable
abbrev pub shown_source : (List ℕ → Bool) → Option (List ℕ × ℕ) → Option (List ℕ × ℕ)
shown_source reads source = option_and_then (λ from. if reads from.0 then Some from else None) source

-- a changed path, with what it was copied from only where that is readable
abbrev pub with_shown_source : (List ℕ → Bool) → Changed → Changed
with_shown_source reads changed = record changed { source = shown_source reads changed.source }

-- the readable ones of changed paths, each as it is shown
abbrev pub shown_changed : (List ℕ → Bool) → List Changed → List Changed
shown_changed reads changed = map (with_shown_source reads) (filter (reads_path reads) changed)

-- an author, where there is one: the empty name is none
abbrev pub some_author : List ℕ → Option (List ℕ)
some_author [] = None
some_author (b ∷ bs) = Some (b ∷ bs)

-- what is shown of the record of a revision: at which level; its properties, its author where it has one, and its moment,
-- each where that level shows it; and the changed paths that are readable
pub record ShownRecord : Type 0 where
  pub level : Level
  pub props : List Prop
  pub author : Option (List ℕ)
  pub moment : Option ℕ
  pub changed : List Changed

-- the record of a revision as this level shows it
abbrev pub record_at : (List ℕ → Bool) → Revision → Level → ShownRecord
record_at reads revision level = record {
  level = level;
  props = if shows_props level then revision.commit.props else [];
  author = if shows_author level then some_author revision.commit.author else None;
  moment = if shows_author level then Some revision.commit.moment else None;
  changed = shown_changed reads revision.changed;
}

-- the record of a revision, as it is shown at its level
abbrev pub shown_record : (List ℕ → Bool) → Revision → ShownRecord
shown_record reads revision = record_at reads revision (level_of reads revision.changed)
