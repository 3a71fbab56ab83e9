use Rattle.std.proofs.Common.{◌≡◌, length}
use Rattle.davsvn_run.specs.Options.{read_options, has_double}
use Rattle.davsvn_run.proofs.options.has_double.Given as goal

-- no option before this place is given twice
abbrev pub invariant-options : goal.invariant-options
invariant-options l = has_double (read_options l.verb l.rest).0 ≡ has_double (read_options l.fn.verb l.fn.words).0

abbrev pub decreases-options : goal.decreases-options
decreases-options l = length l.rest
