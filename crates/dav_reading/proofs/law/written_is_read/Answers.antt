use Rattle.dav_reading.proofs.TreesRead as trees
use Rattle.dav_reading.proofs.law.written_is_read.Goals as goal

pub returns : goal.returns
returns c = trees.written_read
