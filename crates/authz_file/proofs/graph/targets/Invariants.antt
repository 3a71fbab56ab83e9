use Rattle.std.proofs.Common.{◌≡◌, take}
use Rattle.std.specs.Prelude.{map}
use Rattle.std.specs.List.{filter_map}
use Rattle.authz_file.specs.Groups.{definition_of}
use Rattle.authz_file.proofs.graph.targets.Given as goal

abbrev pub invariant-entries : goal.invariant-entries
invariant-entries l = l.graph.items ≡ map (λ e. filter_map (definition_of l.book) e.words) (take l.entry-index l.entry-items)
