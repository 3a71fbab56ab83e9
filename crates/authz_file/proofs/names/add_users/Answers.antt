use Rattle.std.proofs.Common.{[], ◌∷◌, ap, ◌∙◌, take}
use Rattle.std.specs.Prelude.{filter}
use Rattle.authz_file.specs.Words.{is_user}
use Rattle.authz_file.specs.Searching.{texts, with_names}
use Rattle.authz_file.proofs.NameSets.{users_more}
use Rattle.authz_file.proofs.names.add_users.Goals as goal

pub words-preserved : goal.words-preserved
words-preserved c =
    c.in_ok-add_user.ensures
    ∙ ap (λ ns. with_names ns (filter is_user (c.get.result.now ∷ []))) c.words.invariant
    ∙ ap (λ w. with_names (with_names (texts (λ k. k.items) c.args.names.now) (filter is_user (take c.words.word-index c.args.words.now))) (filter is_user (w ∷ []))) (c.get.ensures ∙ c.word-item.is)
    ∙ users_more (texts (λ k. k.items) c.args.names.now) c.args.words.now c.words.word-index c.word-item.result c.words-test.true
