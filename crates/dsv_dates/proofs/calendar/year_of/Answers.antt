use Rattle.std.proofs.Common.{◌≡◌, ℕ, suc, ◌+◌, ◌-◌, ◌<◌, ◌≤◌, sym, arith}
use Rattle.dsv_dates.specs.Dates.{year_days, year_at}
use Rattle.dsv_dates.specs.Counting.{days_before}
use Rattle.dsv_dates.proofs.Counts.{years_counted, part_found, days_before-suc}
use Rattle.dsv_dates.proofs.calendar.year_of.Goals as goal

-- 1,969 years had passed when 1970 began
since_1970 : (years passed : ℕ) → 719162 ≤ passed → passed < days_before (years + 1) → 1969 ≤ years
since_1970 years passed from to = omega arith

year_lasts : (years next passed : ℕ) → next ≡ suc years → days_before years ≤ passed → passed < days_before next → passed - days_before years < year_days next
year_lasts years next passed is begun lasts = rw is (omega (arith, days_before-suc years, rw is at lasts))

found : (number years before : ℕ) → years ≤ 9998 → before ≡ days_before years → before ≤ number + 719162 → number + 719162 < days_before (years + 1) → year_at number ≡ (years + 1, number + 719162 - before)
found number years before most is begun lasts =
    let passed = number + 719162 in
    let from = since_1970 years passed (omega arith) lasts in
    let counted = years_counted 1969 (years - 1969) in
    let same : 1969 + (years - 1969) ≡ years = omega arith in
    let next : 1970 + (years - 1969) ≡ years + 1 = omega arith in
    let within : passed - before < year_days (years + 1) = rw is (year_lasts years (years + 1) passed (omega arith) (rw (← is) begun) lasts) in
    part_found year_days (years - 1969) 8029 1970 (passed - before) number (years + 1) (omega arith) (sym next)
    (omega (arith, rw same at counted)) within

pub returns-clause-value : goal.returns-clause-value
returns-clause-value c =
    sym (found c.args.number c.years_in-years.result c.days_before.result c.years_in-years.ensures.most c.days_before.ensures
    (rw c.days_before.ensures c.years_in-years.ensures.begun) c.years_in-years.ensures.lasts)
