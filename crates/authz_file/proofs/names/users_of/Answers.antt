use Rattle.std.proofs.Common.{ap, ◌∙◌, get_or}
use Rattle.authz_file.specs.Groups.{users_at}
use Rattle.authz_file.specs.Searching.{texts, with_names}
use Rattle.authz_file.proofs.NameSets.{places_more}
use Rattle.authz_file.proofs.names.users_of.Goals as goal

pub places-preserved : goal.places-preserved
places-preserved c =
    c.in_ok-add_users.ensures
    ∙ ap (λ ws. with_names (texts (λ k. k.items) c.places.names) ws) c.words_at.ensures
    ∙ ap (λ ns. with_names ns (users_at c.args.book.now (get_or c.args.places.now c.places.place-index 0))) c.places.invariant
    ∙ places_more (users_at c.args.book.now) c.args.places.now c.places.place-index 0 c.places-test.true
