-- Worked rows of the definitions.
use Rattle.std.proofs.Common.{◌≡◌, true, false, [], ◌∷◌, map, codes, refl}
use Rattle.dsv_dates.specs.Dates.{is_leap_year, sizes_of, part_at, day_number, iso_text, http_text}

leap_years : map is_leap_year (1970 ∷ 1972 ∷ 2000 ∷ 2024 ∷ 2026 ∷ 2100 ∷ 2400 ∷ []) ≡ false ∷ true ∷ true ∷ true ∷ false ∷ false ∷ true ∷ []
leap_years = refl

day_numbers : (day_number 1970 1 1 ≡ 0) × (day_number 1994 11 6 ≡ 9075) × (day_number 2000 2 29 ≡ 11016) × (day_number 2100 3 1 ≡ 47541) × (day_number 9999 12 31 ≡ 2932896)
unfolding sizes_of
day_numbers = (refl, refl, refl, refl, refl)

iso_rows : (iso_text 0 ≡ codes "1970-01-01T00:00:00.000000Z")
    × (iso_text 951782400000000 ≡ codes "2000-02-29T00:00:00.000000Z")
    × (iso_text 4107542399999999 ≡ codes "2100-02-28T23:59:59.999999Z")
    × (iso_text 4107542400000000 ≡ codes "2100-03-01T00:00:00.000000Z")
    × (iso_text 253402300799999999 ≡ codes "9999-12-31T23:59:59.999999Z")
unfolding iso_text part_at
iso_rows = (refl, refl, refl, refl, refl)

http_rows : (http_text 0 ≡ codes "Thu, 01 Jan 1970 00:00:00 GMT")
    × (http_text 784111777000000 ≡ codes "Sun, 06 Nov 1994 08:49:37 GMT")
    × (http_text 784111777999999 ≡ codes "Sun, 06 Nov 1994 08:49:37 GMT")
    × (http_text 253402300799999999 ≡ codes "Fri, 31 Dec 9999 23:59:59 GMT")
unfolding http_text part_at
http_rows = (refl, refl, refl, refl)
