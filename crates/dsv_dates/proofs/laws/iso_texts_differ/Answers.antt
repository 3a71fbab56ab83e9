use Rattle.dsv_dates.proofs.Spelled.{iso_differ}
use Rattle.dsv_dates.proofs.laws.iso_texts_differ.Goals as goal

pub returns : goal.returns
returns c = iso_differ
