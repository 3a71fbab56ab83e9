-- How the days before a year are counted without a walk over the years.
use Rattle.std.specs.Prelude.{ℕ, ◌+◌, ◌-◌, ◌*◌, ◌/◌}

-- the days of so many years from the year 1 on: 365 for each, and one more for each fourth, but of those that end a
-- century only for each fourth
abbrev pub days_before : ℕ → ℕ
days_before years = years * 365 + years / 4 - years / 100 + years / 400
