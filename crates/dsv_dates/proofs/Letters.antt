-- The names of months and weekdays.
use Rattle.std.proofs.Common.{◌≡◌, ℕ, zero, suc, ◌-◌, ◌%◌, ◌<◌, ◌≤◌, true, ◌==◌, List, [], ◌∷◌, length, get_or, slice_index_or, bytes_eq, refl, arith}
use Rattle.std.specs.Prelude.{if◌then◌else◌}
use Rattle.std.specs.List.{list_all}
use Rattle.std.proofs.lemmas.Bool.{and_parts, eqb-true}
use Rattle.std.proofs.lemmas.Slice.Eq.{text_from_reads}
use Rattle.dsv_dates.specs.Dates.{month_names, month_name, weekday_names, weekday_name}

-- the place of a name among some, counted from a number on
pub place_among : ℕ → List (List ℕ) → List ℕ → ℕ
place_among n [] text = n
place_among n (name ∷ names) text = if bytes_eq text name then n else place_among (suc n) names text

pub month_read : (month : ℕ) → 1 ≤ month → month ≤ 12 → place_among 1 month_names (month_name month) ≡ month
unfolding place_among
month_read zero low high = absurd (omega arith)
month_read (suc zero) low high = refl
month_read (suc (suc zero)) low high = refl
month_read (suc (suc (suc zero))) low high = refl
month_read (suc (suc (suc (suc zero)))) low high = refl
month_read (suc (suc (suc (suc (suc zero))))) low high = refl
month_read (suc (suc (suc (suc (suc (suc zero)))))) low high = refl
month_read (suc (suc (suc (suc (suc (suc (suc zero))))))) low high = refl
month_read (suc (suc (suc (suc (suc (suc (suc (suc zero)))))))) low high = refl
month_read (suc (suc (suc (suc (suc (suc (suc (suc (suc zero))))))))) low high = refl
month_read (suc (suc (suc (suc (suc (suc (suc (suc (suc (suc zero)))))))))) low high = refl
month_read (suc (suc (suc (suc (suc (suc (suc (suc (suc (suc (suc zero))))))))))) low high = refl
month_read (suc (suc (suc (suc (suc (suc (suc (suc (suc (suc (suc (suc zero)))))))))))) low high = refl
month_read (suc (suc (suc (suc (suc (suc (suc (suc (suc (suc (suc (suc (suc n))))))))))))) low high = absurd (omega arith)

-- three letters, one by one
pub three_letters : (xs : List ℕ) → length xs ≡ 3 → xs ≡ get_or xs 0 0 ∷ get_or xs 1 0 ∷ get_or xs 2 0 ∷ []
three_letters xs h = text_from_reads xs _ h (refl, (refl, (refl, tt)))

name_length : (names : List (List ℕ)) (place : ℕ) → list_all (λ name. length name == 3) names ≡ true → place < length names → length (slice_index_or names place []) ≡ 3
name_length [] place all small = absurd (omega arith)
name_length (name ∷ names) zero all small = eqb-true _ _ (and_parts _ _ all).0
name_length (name ∷ names) (suc place) all small = name_length names place (and_parts _ _ all).1 (omega arith)

pub month_letters : (month : ℕ) → 1 ≤ month → month ≤ 12 → month_name month ≡ get_or (month_name month) 0 0 ∷ get_or (month_name month) 1 0 ∷ get_or (month_name month) 2 0 ∷ []
month_letters month low high = three_letters (month_name month) (name_length month_names (month - 1) refl (omega arith))

pub weekday_letters : (number : ℕ) → weekday_name number ≡ get_or (weekday_name number) 0 0 ∷ get_or (weekday_name number) 1 0 ∷ get_or (weekday_name number) 2 0 ∷ []
weekday_letters number = three_letters (weekday_name number) (name_length weekday_names (number % 7) refl (omega arith))
