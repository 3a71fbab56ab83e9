use Rattle.std.proofs.Common.{◌≡◌, take, get_or, ap, sym, ◌∙◌, ◌++◌}
use Rattle.std.specs.Prelude.{option_to_list}
use Rattle.std.specs.List.{filter_map}
use Rattle.authz_file.specs.Groups.{definition_of}
use Rattle.authz_file.proofs.Graphs.{filter_map-more}
use Rattle.authz_file.proofs.graph.word_targets.Goals as goal

pub words-preserved : goal.words-preserved
words-preserved c =
    let word : c.definition_of.result ≡ definition_of c.args.book.now (get_or c.args.words.now c.words.word-index c.word-item.result) = c.definition_of.ensures ∙ ap (definition_of c.args.book.now) (c.get.ensures ∙ c.word-item.is) in
    c.in_ok-push_target.ensures
    ∙ ap (λ xs. xs ++ option_to_list c.definition_of.result) c.words.invariant
    ∙ ap (λ o. filter_map (definition_of c.args.book.now) (take c.words.word-index c.args.words.now) ++ option_to_list o) word
    ∙ sym (filter_map-more (definition_of c.args.book.now) c.args.words.now c.words.word-index c.word-item.result c.words-test.true)
