use Rattle.std.proofs.Common.{◌∙◌, ap}
use Rattle.rev_nodes.specs.Forests.{Forest, revision_at}
use Rattle.prop_requests.proofs.Showing.{told_is}
use Rattle.prop_requests.proofs.telling.told_of.Goals as goal

pub returns : goal.returns
returns c =
    told_is c.args.sight.now c.args.subject.now c.args.level c.commit_of-commit.result.now _ c.requires.can c.requires.level
    (c.commit_of-commit.ensures.is ∙ (λ i. (revision_at (c.trees.ensures i) (c.told_revision.ensures i)).commit))
    c.root.ensures (c.uuid.ensures ∙ ap (λ (f : Forest). f.uuid) c.trees-2.ensures) c.told_lock.ensures
    c.shown_props.ensures c.shown_author.ensures c.shown_moment.ensures
