use Rattle.std.proofs.Common.{sym, subst}
use Rattle.authz_file.specs.Searching.{IsGraph}
use Rattle.authz_file.proofs.Graphs.{targets-IsGraph}
use Rattle.authz_file.proofs.faults.entry_fault.Goals as goal

pub is_circular-requires : goal.is_circular-requires
is_circular-requires c = subst (λ g. IsGraph g) (sym c.requires.graph) (targets-IsGraph c.args.book.now)
