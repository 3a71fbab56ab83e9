-- How locks are kept: as a map from a path's text to the lock on it.
use Rattle.std.specs.Prelude.{ℕ, Bool, List, [], ◌∷◌, map, filter, nat_eq, if◌then◌else◌}
use Rattle.std.specs.List.{list_all, starts_with}
use Rattle.std.specs.Str.{bytes_eq}
use Rattle.dsv_base.specs.Paths.{is_under}
use Rattle.path_locks.specs.LockStates.{LockState, Lock}

-- the entries of a map, its keys being read as texts
abbrev pub locks_in : {K : Type 0} → (K → List ℕ) → List (K × Lock) → List (List ℕ × Lock)
locks_in text entries = map (λ e. (text e.0, e.1)) entries

-- what contracts see of a map with these entries
abbrev pub seen_locks : {K : Type 0} → (K → List ℕ) → List (K × Lock) → LockState
seen_locks text entries = record { locks = locks_in text entries }

-- each key, being read as a text, is the path of its lock
abbrev pub stand_at_paths : {K : Type 0} → (K → List ℕ) → List (K × Lock) → Bool
stand_at_paths text entries = list_all (λ e. bytes_eq e.1.path (text e.0)) entries

-- the first locks of a map's entries, as long as their paths begin with a text
abbrev pub run_of : {K : Type 0} → List ℕ → List (K × Lock) → List Lock
run_of front [] = []
run_of front (e ∷ es) = if starts_with nat_eq e.1.path front then e.1 ∷ run_of front es else []

-- those of these locks that stand at a path or below it
abbrev pub those_under : List ℕ → List Lock → List Lock
those_under path locks = filter (λ lock. is_under lock.path path) locks
