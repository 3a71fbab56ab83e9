use Rattle.std.proofs.Common.{◌≡◌, take}
use Rattle.std.specs.List.{filter_map}
use Rattle.authz_file.specs.Groups.{definition_of}
use Rattle.authz_file.proofs.graph.word_targets.Given as goal

abbrev pub invariant-words : goal.invariant-words
invariant-words l = l.places.items ≡ filter_map (definition_of l.book) (take l.word-index l.words)
