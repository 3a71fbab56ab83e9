-- What is spelled alike is the same.
use Rattle.std.proofs.Common.{◌≡◌, ℕ, ◌/◌, ◌%◌, ◌<◌, ◌≤◌, List, get_or, take, drop, sym, ap, ◌∙◌, arith}
use Rattle.dsv_dates.specs.Dates.{month_names, month_name, month_days, day_number, date_at, two_digits, moment_day, moment_second, iso_text, http_text}
use Rattle.dsv_dates.specs.Laws.{IsoTextsDiffer, HttpTextsDiffer}
use Rattle.dsv_dates.proofs.Dated.{each_dated}
use Rattle.dsv_dates.proofs.Letters.{place_among, month_read, month_letters, weekday_letters}

-- the two bytes that stand at a place
two_at : ℕ → List ℕ → List ℕ
two_at place text = take 2 (drop place text)

-- two digits spell what a number leaves beside hundreds
two_same : (m n : ℕ) → two_digits m ≡ two_digits n → m % 100 ≡ n % 100
two_same m n e =
    let tens = ap (λ t. get_or t 0 0) e in
    let ones = ap (λ t. get_or t 1 0) e in
    omega arith

year_same : (a b : ℕ) → a ≤ 9999 → b ≤ 9999 → a / 100 % 100 ≡ b / 100 % 100 → a % 100 ≡ b % 100 → a ≡ b
year_same a b few also front back = omega arith

second_same : (a b : ℕ) → a < 86400 → b < 86400 → a / 3600 % 100 ≡ b / 3600 % 100 → a / 60 % 60 % 100 ≡ b / 60 % 60 % 100 → a % 60 % 100 ≡ b % 60 % 100 → a ≡ b
second_same a b few also hour minute second = omega arith

micros_same : (a b : ℕ) → a < 1000000 → b < 1000000 → a / 10000 % 100 ≡ b / 10000 % 100 → a / 100 % 100 ≡ b / 100 % 100 → a % 100 ≡ b % 100 → a ≡ b
micros_same a b few also front middle back = omega arith

moment_same : (a b : ℕ) → moment_day a ≡ moment_day b → moment_second a ≡ moment_second b → a % 1000000 ≡ b % 1000000 → a ≡ b
moment_same a b day second rest = omega arith

month_is_short : (year month : ℕ) → month_days year month ≤ 31
month_is_short year month = grind arith

day_same : (m n : ℕ) → m ≤ 2932896 → n ≤ 2932896 → (date_at m).0 ≡ (date_at n).0 → (date_at m).1 ≡ (date_at n).1 → (date_at m).2 ≡ (date_at n).2 → m ≡ n
day_same m n few also year month day =
    sym (each_dated m few).1 ∙ (λ i. day_number (year i) (month i) (day i)) ∙ (each_dated n also).1

date_same : (m n : ℕ) → m ≤ 2932896 → n ≤ 2932896 → (date_at m).0 / 100 % 100 ≡ (date_at n).0 / 100 % 100 → (date_at m).0 % 100 ≡ (date_at n).0 % 100 → (date_at m).1 % 100 ≡ (date_at n).1 % 100 → (date_at m).2 % 100 ≡ (date_at n).2 % 100 → m ≡ n
date_same m n few also front back month day =
    let p = (each_dated m few).0 in
    let q = (each_dated n also).0 in
    let y = year_same (date_at m).0 (date_at n).0 p.0.1 q.0.1 front back in
    let short = month_is_short (date_at m).0 (date_at m).1 in
    let other = month_is_short (date_at n).0 (date_at n).1 in
    day_same m n few also y (omega (arith, p.1, q.1, month)) (omega (arith, p.2, q.2, short, other, day))

iso_piece : (place a b : ℕ) → iso_text a ≡ iso_text b → two_at place (iso_text a) ≡ two_at place (iso_text b)
iso_piece place a b e = ap (two_at place) e

pub iso_differ : IsoTextsDiffer
unfolding iso_text two_at
iso_differ a b few also e =
    let day = date_same (moment_day a) (moment_day b) (omega arith) (omega arith)
    (two_same _ _ (iso_piece 0 a b e)) (two_same _ _ (iso_piece 2 a b e)) (two_same _ _ (iso_piece 5 a b e)) (two_same _ _ (iso_piece 8 a b e)) in
    let second = second_same (moment_second a) (moment_second b) (omega arith) (omega arith)
    (two_same _ _ (iso_piece 11 a b e)) (two_same _ _ (iso_piece 14 a b e)) (two_same _ _ (iso_piece 17 a b e)) in
    let rest = micros_same (a % 1000000) (b % 1000000) (omega arith) (omega arith)
    (two_same _ _ (iso_piece 20 a b e)) (two_same _ _ (iso_piece 22 a b e)) (two_same _ _ (iso_piece 24 a b e)) in
    moment_same a b day second rest

months_same : (m n : ℕ) → 1 ≤ m → m ≤ 12 → 1 ≤ n → n ≤ 12 → month_name m ≡ month_name n → m ≡ n
months_same m n low high also_low also_high e =
    sym (month_read m low high) ∙ ap (place_among 1 month_names) e ∙ month_read n also_low also_high

second_moment_same : (a b : ℕ) → moment_day a ≡ moment_day b → moment_second a ≡ moment_second b → a / 1000000 ≡ b / 1000000
second_moment_same a b day second = omega arith

pub http_differ : HttpTextsDiffer
unfolding http_text two_at
http_differ a b few also e =
    let p = (each_dated (moment_day a) (omega arith)).0 in
    let q = (each_dated (moment_day b) (omega arith)).0 in
    let m = (date_at (moment_day a)).1 in
    let n = (date_at (moment_day b)).1 in
    let spelled = rw (weekday_letters (moment_day a), weekday_letters (moment_day b), month_letters m p.1.0 p.1.1, month_letters n q.1.0 q.1.1) at e in
    let letters = ap (λ t. take 3 (drop 8 t)) spelled in
    let month = months_same m n p.1.0 p.1.1 q.1.0 q.1.1 (month_letters m p.1.0 p.1.1 ∙ letters ∙ sym (month_letters n q.1.0 q.1.1)) in
    let day = date_same (moment_day a) (moment_day b) (omega arith) (omega arith)
    (two_same _ _ (ap (two_at 12) spelled)) (two_same _ _ (ap (two_at 14) spelled)) (ap (λ k. k % 100) month) (two_same _ _ (ap (two_at 5) spelled)) in
    let second = second_same (moment_second a) (moment_second b) (omega arith) (omega arith)
    (two_same _ _ (ap (two_at 17) spelled)) (two_same _ _ (ap (two_at 20) spelled)) (two_same _ _ (ap (two_at 23) spelled)) in
    second_moment_same a b day second
