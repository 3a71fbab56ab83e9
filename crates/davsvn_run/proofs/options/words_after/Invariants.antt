use Rattle.std.proofs.Common.{◌≡◌, length}
use Rattle.davsvn_run.specs.Options.{read_options}
use Rattle.davsvn_run.proofs.options.words_after.Given as goal

-- the words after the options are the same from here
abbrev pub invariant-options : goal.invariant-options
invariant-options l = (read_options l.verb l.rest).1 ≡ (read_options l.fn.verb l.fn.words).1

abbrev pub decreases-options : goal.decreases-options
decreases-options l = length l.rest
