use Rattle.std.proofs.Common.{◌≡◌, drop}
use Rattle.dav_documents.specs.Drafts.{with_elements}
use Rattle.dav_documents.specs.Written.{for_each}
use Rattle.prop_values.specs.Responses.{dead_element}
use Rattle.prop_values.proofs.whole.put_dead.Given as goal

-- what is written, and then the elements of the properties that are left
abbrev pub invariant-values : goal.invariant-values
invariant-values l = with_elements (for_each dead_element (drop l.named-index l.values)) l.writer ≡ with_elements (for_each dead_element l.values) l.fn.writer
