use Rattle.std.proofs.Common.{vec_len}
use Rattle.davsvn_run.proofs.serving_doors.+assembled.Given as goal

abbrev pub decreases-assembled : goal.decreases-assembled
decreases-assembled g l = vec_len l.turns
