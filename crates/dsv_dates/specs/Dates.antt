-- The Gregorian calendar, whose days are numbered from 1 January 1970, and the two texts of a moment.
use Rattle.std.specs.Prelude.{ℕ, zero, suc, ◌+◌, ◌-◌, ◌/◌, ◌%◌, ◌≤◌, Bool, not, ◌&&◌, ◌||◌, List, [], ◌∷◌, ◌++◌, slice_index_or, codes, ◌==◌, nat_lt, if◌then◌else◌}

-- each fourth year is a leap year, but of those that end a century only each fourth
abbrev pub is_leap_year : ℕ → Bool
is_leap_year year = (year % 4 == 0) && (not (year % 100 == 0) || (year % 400 == 0))

-- how many days a year has
abbrev pub year_days : ℕ → ℕ
year_days year = if is_leap_year year then 366 else 365

-- how many days a month has: April, June, September and November have 30, February 28 or in a leap year 29, and
-- all others 31
abbrev pub month_days : ℕ → ℕ → ℕ
month_days year month =
    if month == 2 then (if is_leap_year year then 29 else 28) else
    (if month == 4 || month == 6 || month == 9 || month == 11 then 30 else 31)

-- the sizes of so many parts, the first of which has the given number, added up
unfoldable pub sizes_of : (ℕ → ℕ) → ℕ → ℕ → ℕ
sizes_of size first zero = 0
sizes_of size first (suc count) = size first + sizes_of size (suc first) count

-- the number of a day: the days from 1 January 1970 to it, which are those of all years before, those of all
-- months of its year before, and those of its month before
abbrev pub day_number : ℕ → ℕ → ℕ → ℕ
day_number year month day =
    sizes_of year_days 1970 (year - 1970) + sizes_of (month_days year) 1 (month - 1) + (day - 1)

-- the calendar has this day, in a year from 1970 to 9999
abbrev pub IsDate : ℕ → ℕ → ℕ → Type 0
IsDate year month day =
    ((1970 ≤ year) × (year ≤ 9999)) × ((1 ≤ month) × (month ≤ 12))
    × ((1 ≤ day) × (day ≤ month_days year month))

-- the number of the part that a place lies in and the place within that part, where parts of these sizes stand one
-- behind another: the first has the given number, and the last, which is so many later, has no end
unfoldable pub part_at : (ℕ → ℕ) → ℕ → ℕ → ℕ → ℕ × ℕ
part_at size zero first place = (first, place)
part_at size (suc more) first place =
    if nat_lt place (size first) then (first, place) else part_at size more (suc first) (place - size first)

-- the year of the day with this number, where that is one from 1970 to 9999, and how many days of it have passed
abbrev pub year_at : ℕ → ℕ × ℕ
year_at number = part_at year_days 8029 1970 number

-- the month of the day before which so many days of this year have passed, and how many days of it have passed
abbrev pub month_at : ℕ → ℕ → ℕ × ℕ
month_at year passed = part_at (month_days year) 11 1 passed

-- the date of a day, from its year, and from its month and how many days of that have passed
abbrev pub date_in : ℕ → ℕ × ℕ → ℕ × ℕ × ℕ
date_in year month = (year, month.0, month.1 + 1)

-- the year, the month and the day of the day with this number
abbrev pub date_at : ℕ → ℕ × ℕ × ℕ
date_at number = date_in (year_at number).0 (month_at (year_at number).0 (year_at number).1)

-- the last two digits of a number
abbrev pub two_digits : ℕ → List ℕ
two_digits n = (48 + n / 10 % 10) ∷ (48 + n % 10) ∷ []

-- the last four digits of a number
abbrev pub four_digits : ℕ → List ℕ
four_digits n = two_digits (n / 100) ++ two_digits n

-- the last six digits of a number
abbrev pub six_digits : ℕ → List ℕ
six_digits n = two_digits (n / 10000) ++ four_digits n

-- the hour, the minute and the second of a second of the day, with colons between them
abbrev pub clock_text : ℕ → List ℕ
clock_text second =
    two_digits (second / 3600) ++ codes ":" ++ two_digits (second / 60 % 60) ++ codes ":"
    ++ two_digits (second % 60)

-- the days of a week by their first three letters, from Thursday on
abbrev pub weekday_names : List (List ℕ)
weekday_names =
    codes "Thu" ∷ codes "Fri" ∷ codes "Sat" ∷ codes "Sun" ∷ codes "Mon" ∷ codes "Tue" ∷ codes "Wed" ∷ []

-- the name of the weekday of the day with this number: 1 January 1970, whose number is 0, was a Thursday
abbrev pub weekday_name : ℕ → List ℕ
weekday_name number = slice_index_or weekday_names (number % 7) []

-- the months by their first three letters
abbrev pub month_names : List (List ℕ)
month_names =
    codes "Jan" ∷ codes "Feb" ∷ codes "Mar" ∷ codes "Apr" ∷ codes "May" ∷ codes "Jun"
    ∷ codes "Jul" ∷ codes "Aug" ∷ codes "Sep" ∷ codes "Oct" ∷ codes "Nov" ∷ codes "Dec" ∷ []

-- the name of a month from 1 to 12
abbrev pub month_name : ℕ → List ℕ
month_name month = slice_index_or month_names (month - 1) []

-- the number of a moment's day
abbrev pub moment_day : ℕ → ℕ
moment_day micros = micros / 1000000 / 86400

-- a moment's second of the day
abbrev pub moment_second : ℕ → ℕ
moment_second micros = micros / 1000000 % 86400

-- `2024-01-01T00:00:01.000000Z`, from the date, the second of the day and the microseconds of the second
abbrev pub iso_written : ℕ × ℕ × ℕ → ℕ → ℕ → List ℕ
iso_written date second micros =
    four_digits date.0 ++ codes "-" ++ two_digits date.1 ++ codes "-" ++ two_digits date.2 ++ codes "T"
    ++ clock_text second ++ codes "." ++ six_digits micros ++ codes "Z"

-- `Mon, 01 Jan 2024 00:00:01 GMT`, from the day's number, the date and the second of the day
abbrev pub http_written : ℕ → ℕ × ℕ × ℕ → ℕ → List ℕ
http_written number date second =
    weekday_name number ++ codes ", " ++ two_digits date.2 ++ codes " " ++ month_name date.1 ++ codes " "
    ++ four_digits date.0 ++ codes " " ++ clock_text second ++ codes " GMT"

-- a moment, in microseconds since the start of 1970, as Subversion writes it: date and time of day, in UTC
unfoldable pub iso_text : ℕ → List ℕ
iso_text micros = iso_written (date_at (moment_day micros)) (moment_second micros) (micros % 1000000)

-- the second that a moment lies in, as HTTP writes it: weekday, date and time of day, in UTC
unfoldable pub http_text : ℕ → List ℕ
http_text micros = http_written (moment_day micros) (date_at (moment_day micros)) (moment_second micros)
