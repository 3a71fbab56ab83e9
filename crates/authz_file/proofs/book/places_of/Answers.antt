use Rattle.std.proofs.Common.{refl, ◌∙◌}
use Rattle.authz_file.specs.Groups.{place_of_label}
use Rattle.authz_file.proofs.LabelMap.{places-step}
use Rattle.authz_file.proofs.book.places_of.Goals as goal

pub entries-init : goal.entries-init
unfolding place_of_label
entries-init c = λ label. rw c.new-places.ensures.empty refl

pub entries-preserved : goal.entries-preserved
entries-preserved c = λ label.
    places-step (λ k. k.items) c.entries.places.entries c.insert.new.self.entries c.args.entries.now c.entries.at c.index-entries-at.result c.in_ok-label.label c.entries-test.true c.index-entries-at.is
    (c.in_ok-label.ensures.items ∙ c.get.ensures) c.in_ok-insert.ensures.entries label (c.entries.invariant label)
