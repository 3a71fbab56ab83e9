use Rattle.std.proofs.Common.{◌≡◌, ◌∙◌, List, IfOk, sym, ap, subst}
use Rattle.std.specs.Prelude.{codes}
use Rattle.std.specs.List.{All}
use Rattle.std.specs.Option.{option_copied}
use Rattle.authz_check.specs.Access.{can_read}
use Rattle.dav_documents.specs.Drafts.{with_elements}
use Rattle.dav_documents.specs.Written.{Written, for_each}
use Rattle.dav_names.specs.Targets.{root_of}
use Rattle.rev_nodes.specs.declared.entry.Entry.{Entry}
use Rattle.rev_nodes.specs.Forests.{Forest, id_at, places_at}
use Rattle.rev_nodes.specs.Entries.{IsSound, entries_in}
use Rattle.dav_machine.specs.Listings.{Child, listed_item, listing_text}
use Rattle.dav_machine.specs.ShownEntries.{StandsIn, shown_entries}
use Rattle.dav_machine.proofs.Listed.{entries_stand, children_are}
use Rattle.dav_machine.proofs.listing.listing.Goals as goal

pub put_entries-requires : goal.put_entries-requires
put_entries-requires c =
    let trees = c.args.present.now.trees in
    let rev = c.args.at.now.rev in
    let path = c.args.at.now.path.now in
    let sound : IsSound trees = subst (λ (f : Forest). IsSound f) c.trees.ensures c.entries-entries.ensures.sound in
    let are = subst (λ (f : Forest). c.entries-entries.result.now ≡ entries_in path (places_at f rev)) c.trees.ensures (c.entries-entries.ensures.are rev path (ap (λ (f : Forest). id_at f rev path) c.trees.ensures ∙ c.requires.number)) in
    record { stand = subst (λ (entries : List Entry). All (StandsIn trees rev path) entries) (sym are) (entries_stand trees rev path sound) }

pub returns : goal.returns
unfolding listing_text
returns c =
    let trees = c.args.present.now.trees in
    let rules = c.args.present.now.rules in
    let user = option_copied c.args.user in
    let rev = c.args.at.now.rev in
    let path = c.args.at.now.path.now in
    let entries = c.entries-entries.result.now in
    let sound : IsSound trees = subst (λ (f : Forest). IsSound f) c.trees.ensures c.entries-entries.ensures.sound in
    let are = subst (λ (f : Forest). c.entries-entries.result.now ≡ entries_in path (places_at f rev)) c.trees.ensures (c.entries-entries.ensures.are rev path (ap (λ (f : Forest). id_at f rev path) c.trees.ensures ∙ c.requires.number)) in
    let shown : List Child = shown_entries (can_read rules trees.name user) trees rev path entries in
    let tree : Written = for_each (listed_item (root_of trees.name) c.args.at.now.resource.now path) shown in
    let written : c.put_entries.new.out ≡ with_elements tree c.in_ok-out.out = c.in_ok-put_entries.ensures in
    let page = c.finish_with.ensures.between tree (codes "<html><body><ul>") (written ∙ ap (with_elements tree) c.in_ok-out.ensures) in
    subst (λ (children : List Child). IfOk c.finish_with.result (λ text. text ≡ listing_text (root_of trees.name) c.args.at.now.resource.now path children)) (sym (children_are trees rules user rev path entries sound are)) page
