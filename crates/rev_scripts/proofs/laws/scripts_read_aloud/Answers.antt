use Rattle.rev_scripts.proofs.ScriptAloud.{script_aloud}
use Rattle.rev_scripts.proofs.laws.scripts_read_aloud.Goals as goal

pub returns : goal.returns
returns c = script_aloud
