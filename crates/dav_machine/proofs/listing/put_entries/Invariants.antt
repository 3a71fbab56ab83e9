use Rattle.std.proofs.Common.{◌≡◌, ℕ, Bool, List, drop}
use Rattle.std.specs.Option.{option_copied}
use Rattle.authz_check.specs.Access.{can_read}
use Rattle.dav_documents.specs.Drafts.{with_elements}
use Rattle.dav_documents.specs.Written.{Written, for_each}
use Rattle.dav_names.specs.Targets.{root_of}
use Rattle.rev_nodes.specs.declared.entry.Entry.{Entry}
use Rattle.dav_machine.specs.Listings.{listed_item}
use Rattle.dav_machine.specs.ShownEntries.{shown_entries}
use Rattle.dav_machine.proofs.listing.put_entries.Given as goal

-- what is written, and then the items of the entries that are left
abbrev pub invariant-entries : goal.invariant-entries
invariant-entries l =
    let reads : List ℕ → Bool = can_read l.fn.present.rules l.fn.present.trees.name (option_copied l.fn.user) in
    let items : List Entry → Written = λ entries. for_each (listed_item (root_of l.fn.present.trees.name) l.fn.at.resource.now l.fn.at.path.now) (shown_entries reads l.fn.present.trees l.fn.at.rev l.fn.at.path.now entries) in
    with_elements (items (drop l.entry-index l.entries)) l.out ≡ with_elements (items l.entries) l.fn.out
