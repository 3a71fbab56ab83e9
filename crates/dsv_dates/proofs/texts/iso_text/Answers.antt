use Rattle.std.proofs.Common.{◌/◌, ◌%◌, ap, ◌∙◌}
use Rattle.dsv_dates.specs.Dates.{date_at, iso_text, iso_written, moment_day, moment_second}
use Rattle.dsv_dates.proofs.texts.iso_text.Goals as goal

pub returns : goal.returns
unfolding iso_text
returns c =
    let seconds = c.seconds_of-seconds.result in
    let rest = c.get-micros.result % 1000000 in
    let moment = c.args.moment in
    let dated = ap (λ date. iso_written date (seconds % 86400) rest) c.date_of-date.ensures.value in
    let timed = ap (λ s. iso_written (date_at (s / 86400)) (s % 86400) rest) c.seconds_of-seconds.ensures.value in
    let whole = ap (λ m. iso_written (date_at (moment_day moment)) (moment_second moment) (m % 1000000)) c.get-micros.ensures.value in
    rw (c.four_digits-year.ensures, c.two_digits-month.ensures, c.two_digits-day.ensures, c.clock_text-clock.ensures, c.six_digits-rest.ensures)
    (dated ∙ timed ∙ whole)
