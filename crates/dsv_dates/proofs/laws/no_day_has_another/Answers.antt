use Rattle.dsv_dates.proofs.Dated.{no_other}
use Rattle.dsv_dates.proofs.laws.no_day_has_another.Goals as goal

pub returns : goal.returns
returns c = no_other
