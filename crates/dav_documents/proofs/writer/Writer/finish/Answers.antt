use Rattle.std.proofs.Common.{◌≡◌, ◌++◌, ap, ◌∙◌, rules}
use Rattle.std.specs.Prelude.{codes}
use Rattle.dav_documents.specs.Drafts.{with_tag_closed}
use Rattle.dav_documents.proofs.Trees.{page_is, body_is}
use Rattle.dav_documents.proofs.writer.Writer.finish.Goals as goal

pub returns-clause-page : goal.returns-clause-page
returns-clause-page c tree h = let text : c.from_vec.result ≡ with_tag_closed c.args.self ++ codes "\n" = search rules in text ∙ ap (λ d. with_tag_closed d ++ codes "\n") h ∙ page_is tree

pub returns-clause-body : goal.returns-clause-body
returns-clause-body c tree h = let text : c.from_vec.result ≡ with_tag_closed c.args.self ++ codes "\n" = search rules in text ∙ ap (λ d. with_tag_closed d ++ codes "\n") h ∙ body_is tree
