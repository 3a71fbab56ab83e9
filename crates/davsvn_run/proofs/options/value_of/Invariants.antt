use Rattle.std.proofs.Common.{◌≡◌, length}
use Rattle.davsvn_run.specs.Options.{read_options, value_of}
use Rattle.davsvn_run.proofs.options.value_of.Given as goal

-- no option before this place has the name
abbrev pub invariant-options : goal.invariant-options
invariant-options l = value_of l.fn.name (read_options l.verb l.rest).0 ≡ value_of l.fn.name (read_options l.fn.verb l.fn.words).0

abbrev pub decreases-options : goal.decreases-options
decreases-options l = length l.rest
