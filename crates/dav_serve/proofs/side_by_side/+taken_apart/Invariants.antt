use Rattle.std.proofs.Common.{vec_len}
use Rattle.dav_serve.proofs.side_by_side.+taken_apart.Given as goal

abbrev pub decreases-taken_apart : goal.decreases-taken_apart
decreases-taken_apart g l = vec_len l.stations
