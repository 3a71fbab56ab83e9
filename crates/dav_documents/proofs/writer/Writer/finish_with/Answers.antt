use Rattle.std.proofs.Common.{◌≡◌, ◌++◌, ap, ◌∙◌, rules}
use Rattle.dav_documents.specs.Drafts.{with_tag_closed}
use Rattle.dav_documents.proofs.Trees.{between_is}
use Rattle.dav_documents.proofs.writer.Writer.finish_with.Goals as goal

pub returns-clause-between : goal.returns-clause-between
returns-clause-between c tree front h =
    let text : c.from_vec.result ≡ with_tag_closed c.args.self ++ c.args.tail.now = search rules in
    text ∙ ap (λ d. with_tag_closed d ++ c.args.tail.now) h ∙ between_is tree front c.args.tail.now
