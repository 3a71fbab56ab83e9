-- Counts of faults. Each object of the outside has one, and a call fails only where it rises.
use Rattle.std.specs.Prelude.{ℕ, ◌+◌, ◌-◌, ◌^◌, ◌≤◌, min, Bool, if◌then◌else◌}
use Rattle.std.specs.Bool.{OnTrue}

-- the last value of a count, which is a u64
abbrev pub last_count : ℕ
last_count = 2 ^ 64 - 1

-- one more; at its last value a count stands still
abbrev pub next_count : ℕ → ℕ
next_count count = min (count + 1) last_count

-- the count after a call, which failed or didn't
abbrev pub count_after : Bool → ℕ → ℕ
count_after failed count = if failed then next_count count else count

-- the count rose, or stood at its last value before
abbrev pub Rose : ℕ → ℕ → Type 0
Rose before now = next_count before ≤ now

-- what a call does to the count of faults: it never falls, and rose where the call failed
pub record HasCause (before now : ℕ) (failed : Bool) : Type 0 where
  pub later : before ≤ now
  pub rose : OnTrue failed (Rose before now)
