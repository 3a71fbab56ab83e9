use Rattle.std.proofs.Common.{◌≡◌, ℕ, List, ◌/◌, ◌%◌, refl, sym, ap, ◌∙◌, rules}
use Rattle.dsv_dates.specs.Dates.{date_at, http_text, http_written}
use Rattle.dsv_dates.proofs.Letters.{three_letters}
use Rattle.dsv_dates.proofs.texts.http_text.Goals as goal

through : (a b c : List ℕ) → b ≡ c → a ≡ b → a ≡ c
through a b c later first = first ∙ later

pub returns : goal.returns
unfolding http_text
returns c =
    let seconds = c.seconds_of-seconds.result in
    let weekday = sym c.weekday_name-weekday.ensures ∙ three_letters c.weekday_name-weekday.result (search rules) in
    let month = sym c.month_name-month.ensures ∙ three_letters c.month_name-month.result (search rules) in
    let dated = ap (λ date. http_written (seconds / 86400) date (seconds % 86400)) c.date_of-date.ensures.value in
    let timed = ap (λ s. http_written (s / 86400) (date_at (s / 86400)) (s % 86400)) c.seconds_of-seconds.ensures.value in
    rw (c.two_digits-day.ensures, c.four_digits-year.ensures, c.clock_text-clock.ensures)
    (through _ _ _ (dated ∙ timed) (rw (weekday, month) refl))
