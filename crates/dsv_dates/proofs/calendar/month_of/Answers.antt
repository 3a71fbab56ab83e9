use Rattle.std.proofs.Common.{◌≡◌, ℕ, suc, ◌+◌, ◌-◌, ◌<◌, ◌≤◌, refl, sym, ◌∙◌, arith}
use Rattle.dsv_dates.specs.Dates.{month_days, sizes_of, part_at}
use Rattle.dsv_dates.proofs.Counts.{months_counted, part_here, part_behind, sizes-first}
use Rattle.dsv_dates.proofs.calendar.month_of.Goals as goal

-- a month that has passed is counted off
next_place : (year month next left days : ℕ) → next ≡ month + 1 → month < 12 → days ≡ month_days year month → days ≤ left → part_at (month_days year) (12 - month) month left ≡ part_at (month_days year) (12 - next) next (left - days)
next_place year month next left days is small length passed =
    let suc_is : next ≡ suc month = omega arith in
    rw (length, suc_is) (part_behind (month_days year) (12 - month) (12 - suc month) month left (omega arith) (rw (← length) passed))

next_within : (year month next left days : ℕ) → next ≡ month + 1 → month < 12 → days ≡ month_days year month → days ≤ left → left < sizes_of (month_days year) month (13 - month) → left - days < sizes_of (month_days year) next (13 - next)
next_within year month next left days is small length passed within =
    let suc_is : next ≡ suc month = omega arith in
    let first = sizes-first (month_days year) (13 - month) (13 - suc month) month (omega arith) in
    rw suc_is (omega (arith, first, length, within, passed))

-- the last month
last_place : (year month left : ℕ) → month ≡ 12 → part_at (month_days year) (12 - month) month left ≡ (12, left)
unfolding part_at
last_place year month left e = rw e refl

last_within : (year month left : ℕ) → month ≡ 12 → left < sizes_of (month_days year) month (13 - month) → left < 31
unfolding sizes_of
last_within year month left e h = omega (arith, rw e at h)

pub months-init : goal.months-init
months-init c = (refl, rw (months_counted c.args.year) c.requires)

pub returns-then-left-days-clause-value : goal.returns-then-left-days-clause-value
returns-then-left-days-clause-value c =
    sym (part_here (month_days c.args.year) (12 - c.months.month) c.months.month c.months.left (rw (← c.month_days-days.ensures.value) c.if-left-days.true))
    ∙ c.months.invariant.0

pub months-preserved : goal.months-preserved
months-preserved c =
    let month = c.months.month in
    let small : month < 12 = c.months-test.true in
    let length = c.month_days-days.ensures.value in
    let passed = c.if-left-days.false in (
      sym (next_place c.args.year month (month + 1) c.months.left _ refl small length passed) ∙ c.months.invariant.0,
      next_within c.args.year month (month + 1) c.months.left _ refl small length passed c.months.invariant.1,
    )

pub returns-clause-value : goal.returns-clause-value
returns-clause-value c =
    sym (last_place c.args.year c.months.month c.months.left (omega arith)) ∙ c.months.invariant.0

pub returns-clause-bound : goal.returns-clause-bound
returns-clause-bound c = last_within c.args.year c.months.month c.months.left (omega arith) c.months.invariant.1
