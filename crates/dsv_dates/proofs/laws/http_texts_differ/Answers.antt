use Rattle.dsv_dates.proofs.Spelled.{http_differ}
use Rattle.dsv_dates.proofs.laws.http_texts_differ.Goals as goal

pub returns : goal.returns
returns c = http_differ
