use Rattle.std.proofs.Common.{◌≡◌, ◌++◌, map}
use Rattle.path_locks.specs.Kept.{run_of, those_under}
use Rattle.path_locks.proofs.locks.found_in.Given as goal

-- what was found, and what is left to be found, is all
abbrev pub invariant-locks : goal.invariant-locks
invariant-locks l = map (λ lock. lock.now) l.found.items ++ those_under l.path (run_of l.front l._path-iterator) ≡ those_under l.path (run_of l.front l.fn.locks)
