use Rattle.std.proofs.Common.{◌≡◌, ◌-◌, ◌<◌}
use Rattle.dsv_dates.specs.Dates.{month_days, sizes_of, part_at, month_at}
use Rattle.dsv_dates.proofs.calendar.month_of.Given as goal

abbrev pub invariant-months : goal.invariant-months
invariant-months l =
    (part_at (month_days l.year) (12 - l.month) l.month l.left ≡ month_at l.year l.fn.passed)
    × (l.left < sizes_of (month_days l.year) l.month (13 - l.month))
