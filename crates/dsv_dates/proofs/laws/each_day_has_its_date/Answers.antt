use Rattle.dsv_dates.proofs.Dated.{each_dated}
use Rattle.dsv_dates.proofs.laws.each_day_has_its_date.Goals as goal

pub returns : goal.returns
returns c = each_dated
