-- Sums of the calendar.
use Rattle.std.proofs.Common.{◌≡◌, ℕ, zero, suc, ◌+◌, ◌-◌, ◌<◌, ◌≤◌, ◌⊎◌, inl, inr, Bool, true, false, nat_lt, refl, ap, ◌∙◌, arith}
use Rattle.std.specs.Prelude.{if◌then◌else◌}
use Rattle.std.proofs.lemmas.Bool.{cases_lt}
use Rattle.std.proofs.lemmas.Bool.Decides.{nat_tests}
use Rattle.dsv_dates.specs.Dates.{year_days, month_days, sizes_of, part_at}
use Rattle.dsv_dates.specs.Counting.{days_before}

-- the days before the next year
pub days_before-suc : (n : ℕ) → days_before (suc n) ≡ days_before n + year_days (suc n)
days_before-suc n = grind (arith, nat_tests)

-- the days of some years are those before the last of them without those before the first
pub years_counted : (n count : ℕ) → sizes_of year_days (suc n) count + days_before n ≡ days_before (n + count)
unfolding sizes_of
years_counted n zero = let same : n + 0 ≡ n = omega arith in rw same (omega arith)
years_counted n (suc count) =
    let rest = years_counted (suc n) count in
    let step = days_before-suc n in
    let same : suc n + count ≡ n + suc count = omega arith in
    rw (← same, ← rest, step) (omega arith)

-- the months of a year have its days
pub months_counted : (year : ℕ) → sizes_of (month_days year) 1 12 ≡ year_days year
unfolding sizes_of
months_counted year = grind arith

if_true : {A : Type 0} (b : Bool) (x y : A) → b ≡ true → (if b then x else y) ≡ x
if_true b x y e = ap (λ c. if c then x else y) e

if_false : {A : Type 0} (b : Bool) (x y : A) → b ≡ false → (if b then x else y) ≡ y
if_false b x y e = ap (λ c. if c then x else y) e

is_below : (a b : ℕ) → a < b → nat_lt a b ≡ true
is_below a b h = grind (arith, nat_tests)

isnt_below : (a b : ℕ) → b ≤ a → nat_lt a b ≡ false
isnt_below a b h = grind (arith, nat_tests)

-- a place in the first part
pub part_here : (size : ℕ → ℕ) (more first place : ℕ) → place < size first → part_at size more first place ≡ (first, place)
unfolding part_at
part_here size zero first place h = refl
part_here size (suc more) first place h = if_true _ _ _ (is_below place (size first) h)

-- a place behind the first part
pub part_behind : (size : ℕ → ℕ) (more left first place : ℕ) → more ≡ suc left → size first ≤ place → part_at size more first place ≡ part_at size left (suc first) (place - size first)
unfolding part_at
part_behind size zero left first place e h = absurd (omega arith)
part_behind size (suc more) left first place e h =
    let same : more ≡ left = omega arith in
    if_false _ _ _ (isnt_below place (size first) h) ∙ ap (λ m. part_at size m (suc first) (place - size first)) same

-- a place within a part, behind all parts before
pub part_found : (size : ℕ → ℕ) (count more first left place number : ℕ) → count ≤ more → number ≡ first + count → place ≡ sizes_of size first count + left → left < size number → part_at size more first place ≡ (number, left)
unfolding sizes_of
part_found size zero more first left place number few is whole within =
    let same : number ≡ first = omega arith in
    let here : place ≡ left = omega arith in
    rw (same, here) (part_here size more first left (rw (← same) within))
part_found size (suc count) more first left place number few is whole within =
    let behind = part_behind size more (more - 1) first place (omega arith) (omega arith) in
    behind ∙ part_found size count (more - 1) (suc first) left (place - size first) number (omega arith) (omega arith) (omega arith) within

pub sizes-first : (size : ℕ → ℕ) (count more first : ℕ) → count ≡ suc more → sizes_of size first count ≡ size first + sizes_of size (suc first) more
unfolding sizes_of
sizes-first size zero more first e = absurd (omega arith)
sizes-first size (suc count) more first e = let same : count ≡ more = omega arith in rw same refl

-- a place within a part lies within all of them
pub place_within : (size : ℕ → ℕ) (count whole first left : ℕ) → count < whole → left < size (first + count) → sizes_of size first count + left < sizes_of size first whole
unfolding sizes_of
place_within size zero whole first left few h =
    let start : first + 0 ≡ first = omega arith in
    omega (arith, sizes-first size whole (whole - 1) first (omega arith), rw start at h)
place_within size (suc count) whole first left few h =
    let next : first + suc count ≡ suc first + count = omega arith in
    let inside = place_within size count (whole - 1) (suc first) left (omega arith) (rw next at h) in
    omega (arith, sizes-first size whole (whole - 1) first (omega arith), inside)

-- the part of a place, behind all parts before
pub record IsPlace (size : ℕ → ℕ) (first more place : ℕ) (part : ℕ × ℕ) : Type 0 where
  pub low : first ≤ part.0
  pub high : part.0 ≤ first + more
  pub within : part.1 < size part.0
  pub whole : sizes_of size first (part.0 - first) + part.1 ≡ place

first_place : (size : ℕ → ℕ) (first more place : ℕ) → place < size first → IsPlace size first more place (first, place)
unfolding sizes_of
first_place size first more place h =
    let none : first - first ≡ 0 = omega arith in
    record { low = omega arith; high = omega arith; within = h; whole = rw none (omega arith) }

later_place : (size : ℕ → ℕ) (first more less place : ℕ) (part : ℕ × ℕ) → more ≡ suc less → size first ≤ place → IsPlace size (suc first) less (place - size first) part → IsPlace size first more place part
later_place size first more less place part e h inner =
    let count = sizes-first size (part.0 - first) (part.0 - suc first) first (omega (arith, inner.low)) in
    record {
      low = omega (arith, inner.low);
      high = omega (arith, inner.high);
      within = inner.within;
      whole = rw count (omega (arith, inner.whole));
    }

counted_by : (size : ℕ → ℕ) (more first place : ℕ) → (size first ≤ place → IsPlace size (suc first) more (place - size first) (part_at size more (suc first) (place - size first))) → (place < size first) ⊎ (size first ≤ place) → IsPlace size first (suc more) place (part_at size (suc more) first place)
counted_by size more first place rest (inl here) = rw (part_here size (suc more) first place here) (first_place size first (suc more) place here)
counted_by size more first place rest (inr behind) =
    rw (part_behind size (suc more) more first place refl behind) (later_place size first (suc more) more place _ refl behind (rest behind))

-- each place up to the end of the last part has one
pub part_counted : (size : ℕ → ℕ) (more first place : ℕ) → place < sizes_of size first (suc more) → IsPlace size first more place (part_at size more first place)
unfolding sizes_of part_at
part_counted size zero first place h = first_place size first 0 place (omega arith)
part_counted size (suc more) first place h =
    counted_by size more first place (λ behind. part_counted size more (suc first) (place - size first) (omega arith)) (cases_lt place (size first))
