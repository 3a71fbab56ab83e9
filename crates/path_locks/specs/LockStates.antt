-- Locks of paths, at each path at most one.
use Rattle.std.specs.Prelude.{ℕ, Bool, List, [], map, filter, Option, IsTrue}
use Rattle.std.specs.List.{list_all}
use Rattle.std.specs.Str.{bytes_eq}
use Rattle.std.specs.FinMap.{find, put, is_sorted}
use Rattle.std.specs.Ordering.{nat_cmp}
use Rattle.std.specs.Cmp.Lexicographic.{slice_cmp}
use Rattle.dsv_base.specs.Paths.{is_under}
pub use Rattle.path_locks.specs.declared.lock.Lock.{Lock}

-- locks, each with its path in front, in byte order of the path, each path once
pub record LockState : Type 0 where
  pub locks : List (List ℕ × Lock)

-- no locks
abbrev pub no_locks : LockState
no_locks = record { locks = [] }

-- the lock on a path
abbrev pub lock_at : List ℕ → LockState → Option Lock
lock_at path state = find (slice_cmp nat_cmp) path state.locks

-- a lock put at its path, in place of one that stands there
abbrev pub with_lock : Lock → LockState → LockState
with_lock lock state = record state { locks = put (slice_cmp nat_cmp) lock.path lock state.locks }

-- the locks at a path or below it, in byte order of their paths
abbrev pub locks_under : List ℕ → LockState → List Lock
locks_under path state = map (λ e. e.1) (filter (λ e. is_under e.0 path) state.locks)

-- the locks whose paths are readable
abbrev pub shown_locks : (List ℕ → Bool) → LockState → LockState
shown_locks reads state = record { locks = filter (λ e. reads e.0) state.locks }

-- each lock stands at its own path, and the paths strictly rise in byte order
pub record StandInOrder (state : LockState) : Type 0 where
  pub named : IsTrue (list_all (λ e. bytes_eq e.1.path e.0) state.locks)
  pub sorted : IsTrue (is_sorted (slice_cmp nat_cmp) state.locks)
