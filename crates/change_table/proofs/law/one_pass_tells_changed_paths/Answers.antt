use Rattle.change_table.proofs.OnePass.{fast_is}
use Rattle.change_table.proofs.law.one_pass_tells_changed_paths.Goals as goal

pub returns : goal.returns
returns c = fast_is
