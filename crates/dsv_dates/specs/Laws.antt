-- What holds of dates and of their texts.
use Rattle.std.specs.Prelude.{◌≡◌, ℕ, ◌≤◌, ◌/◌}
use Rattle.dsv_dates.specs.Dates.{IsDate, day_number, date_at, iso_text, http_text}

-- this is a date of the calendar, and that of the day with this number
abbrev pub IsDateOf : ℕ → ℕ × ℕ × ℕ → Type 0
IsDateOf number date = IsDate date.0 date.1 date.2 × (day_number date.0 date.1 date.2 ≡ number)

-- up to the last day of the year 9999 each day has the date that `date_at` tells
abbrev pub EachDayIsDated : Type 0
EachDayIsDated = (number : ℕ) → number ≤ 2932896 → IsDateOf number (date_at number)

-- no date of the calendar but the one that `date_at` tells is that of the day with this number
abbrev pub NoOtherDate : Type 0
NoOtherDate = (number : ℕ) (date : ℕ × ℕ × ℕ) → IsDateOf number date → date_at number ≡ date

-- moments up to the end of the year 9999 that Subversion writes alike are the same
abbrev pub IsoTextsDiffer : Type 0
IsoTextsDiffer = (a b : ℕ) → a ≤ 253402300799999999 → b ≤ 253402300799999999
    → iso_text a ≡ iso_text b → a ≡ b

-- moments up to the end of the year 9999 that HTTP writes alike lie in the same second
abbrev pub HttpTextsDiffer : Type 0
HttpTextsDiffer = (a b : ℕ) → a ≤ 253402300799999999 → b ≤ 253402300799999999
    → http_text a ≡ http_text b → a / 1000000 ≡ b / 1000000
