use Rattle.std.proofs.Common.{◌≡◌, List, drop}
use Rattle.dav_documents.specs.Drafts.{with_elements}
use Rattle.dav_documents.specs.Written.{Written, for_each}
use Rattle.rev_nodes.specs.declared.entry.Entry.{Entry}
use Rattle.prop_values.specs.Responses.{response_element}
use Rattle.prop_requests.specs.Sights.{sources_by}
use Rattle.prop_requests.specs.Entered.{entry_subjects}
use Rattle.prop_requests.proofs.telling.Telling.write_entries.Given as goal

-- what is told from stays the same; what is written, and then the answers about the entries that are left, is all
abbrev pub invariant-entries : goal.invariant-entries
invariant-entries l =
    let answers : List Entry → Written = λ entries. for_each (response_element (sources_by l.fn.self.sight) l.fn.self.wanted) (entry_subjects l.fn.self.sight l.fn.directory entries) in
    (l.self ≡ l.fn.self) × (with_elements (answers (drop l.entry-index l.entries)) l.writer ≡ with_elements (answers l.entries) l.fn.writer)
