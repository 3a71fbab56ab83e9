use Rattle.std.proofs.Common.{◌≡◌, drop}
use Rattle.dav_documents.specs.Drafts.{with_elements}
use Rattle.dav_documents.specs.Written.{for_each}
use Rattle.prop_values.specs.Responses.{missing_element}
use Rattle.prop_values.proofs.found.put_missing.Given as goal

-- what is written, and then the elements of the names that are left
abbrev pub invariant-names : goal.invariant-names
invariant-names l = with_elements (for_each (missing_element l.sources.told.now l.sources.subject.now) (drop l.asked-index l.names)) l.writer ≡ with_elements (for_each (missing_element l.sources.told.now l.sources.subject.now) l.names) l.fn.writer
