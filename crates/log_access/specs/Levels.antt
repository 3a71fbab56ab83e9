-- How much of the record of a revision a user is shown, by which of its changed paths, and of their sources, are
-- readable.
use Rattle.std.specs.Prelude.{ℕ, Bool, true, false, ◌&&◌, List, if◌then◌else◌}
use Rattle.std.specs.List.{list_all, list_any}
use Rattle.std.specs.Option.{option_map_or}
use Rattle.rev_nodes.specs.declared.changed.Changed.{Changed}
use Rattle.log_access.specs.declared.level.Level.{Level}
use Rattle.log_access.specs.declared.level.Level.TheVariants.{Full, Partial, None}

-- the changed path is readable
abbrev pub reads_path : (List ℕ → Bool) → Changed → Bool
reads_path reads changed = reads changed.path

-- the changed path was copied from nowhere, or from a readable path
abbrev pub reads_source : (List ℕ → Bool) → Changed → Bool
reads_source reads changed = option_map_or (λ from. reads from.0) changed.source true

-- the changed path is readable, and so is what it was copied from, if it was
abbrev pub reads_whole : (List ℕ → Bool) → Changed → Bool
reads_whole reads changed = reads_path reads changed && reads_source reads changed

-- full where every changed path, with what it was copied from, is readable, which it is where nothing was changed; else
-- partial where some changed path is readable, and none where no one is
unfoldable pub level_of : (List ℕ → Bool) → List Changed → Level
level_of reads changed = if list_all (reads_whole reads) changed then Full else if list_any (reads_path reads) changed then Partial else None

-- the properties of a revision are shown at this level, which only full does
abbrev pub shows_props : Level → Bool
shows_props Full = true
shows_props Partial = false
shows_props None = false

-- the author and the date of a revision are shown at this level, which full and partial do
abbrev pub shows_author : Level → Bool
shows_author Full = true
shows_author Partial = true
shows_author None = false
