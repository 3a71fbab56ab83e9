-- Each day has one date.
use Rattle.std.proofs.Common.{◌≡◌, ℕ, ◌+◌, ◌-◌, ◌<◌, refl, sym, ap, ◌∙◌, arith}
use Rattle.dsv_dates.specs.Dates.{year_days, month_days, sizes_of, day_number, IsDate, year_at, month_at, date_in, date_at}
use Rattle.dsv_dates.specs.Laws.{IsDateOf, EachDayIsDated, NoOtherDate}
use Rattle.dsv_dates.proofs.Counts.{years_counted, months_counted, part_found, place_within, part_counted, IsPlace}

-- the days from 1970 to the end of 9999
all_days : sizes_of year_days 1970 8030 ≡ 2932897
all_days = omega (arith, years_counted 1969 8030)

date_from_parts : (number year passed month left : ℕ) → year_at number ≡ (year, passed) → month_at year passed ≡ (month, left) → date_at number ≡ (year, month, left + 1)
date_from_parts number year passed month left y m =
    ap (λ part. date_in part.0 (month_at part.0 part.1)) y ∙ ap (date_in year) m

-- a day of the calendar lies in its year and its month
pub dated : (year month day number : ℕ) → IsDate year month day → day_number year month day ≡ number → date_at number ≡ (year, month, day)
dated year month day number d n =
    let in_year : 1970 + (year - 1970) ≡ year = omega (arith, d.0) in
    let in_month : 1 + (month - 1) ≡ month = omega (arith, d.1) in
    let passed = sizes_of (month_days year) 1 (month - 1) + (day - 1) in
    let left : day - 1 < month_days year month = omega (arith, d.2) in
    let inside = place_within (month_days year) (month - 1) 12 1 (day - 1) (omega (arith, d.1)) (rw in_month left) in
    let short : passed < year_days year = rw (months_counted year) at inside in
    let y : year_at number ≡ (year, passed) = part_found year_days (year - 1970) 8029 1970 passed number year (omega (arith, d.0)) (sym in_year) (omega (arith, n)) short in
    let m : month_at year passed ≡ (month, day - 1) = part_found (month_days year) (month - 1) 11 1 (day - 1) passed month (omega (arith, d.1)) (sym in_month) refl left in
    let again : day - 1 + 1 ≡ day = omega (arith, d.2) in
    date_from_parts number year passed month (day - 1) y m ∙ ap (λ k. (year, month, k)) again

date_of_parts : (number : ℕ) (year month : ℕ × ℕ) → IsPlace year_days 1970 8029 number year → IsPlace (month_days year.0) 1 11 year.1 month → IsDateOf number (date_in year.0 month)
date_of_parts number year month y m =
    let again : month.1 + 1 - 1 ≡ month.1 = omega arith in (
      ((y.low, omega (arith, y.high)), (m.low, omega (arith, m.high)), (omega arith, omega (arith, m.within))),
      rw again (omega (arith, m.whole, y.whole)),
    )

pub each_dated : EachDayIsDated
each_dated number few =
    let y = part_counted year_days 8029 1970 number (rw all_days (omega arith)) in
    let m = part_counted (month_days (year_at number).0) 11 1 (year_at number).1 (rw (months_counted (year_at number).0) y.within) in
    date_of_parts number (year_at number) _ y m

pub no_other : NoOtherDate
no_other number date h = dated date.0 date.1 date.2 number h.0 h.1
