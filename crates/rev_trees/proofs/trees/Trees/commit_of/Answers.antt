use Rattle.std.proofs.Common.{◌<◌, sym, subst, ◌∙◌, ap}
use Rattle.rev_nodes.specs.declared.commit.Commit.{Commit}
use Rattle.rev_nodes.specs.Commits.{IsCommitOf}
use Rattle.rev_trees.specs.declared.revision.KeptRevision.{KeptRevision}
use Rattle.rev_trees.proofs.Viewed.{commit-of, length-of}
use Rattle.rev_trees.proofs.trees.Trees.commit_of.Goals as goal

pub revision_of-requires : goal.revision_of-requires
revision_of-requires c = let e = length-of c.self.inside.name c.self.inside.uuid c.self.inside.table.cells c.self.inside.revisions.items _ _ c.args.self.now c.self.view_is in rw (c.as_slice.ensures.value, c.get.ensures.value, ← e) c.requires

pub returns-clause-is : goal.returns-clause-is
returns-clause-is c =
    let below = subst (λ n. c.args.rev < n) (length-of c.self.inside.name c.self.inside.uuid c.self.inside.table.cells c.self.inside.revisions.items _ _ c.args.self.now c.self.view_is) c.requires in
    ap (λ (r : KeptRevision). r.commit) (rw (c.as_slice.ensures.value, c.get.ensures.value) at c.revision_of.ensures)
    ∙ sym (commit-of c.self.inside.name c.self.inside.uuid c.self.inside.table.cells c.self.inside.revisions.items _ _ c.args.self.now c.self.view_is c.args.rev below)

pub returns-clause-sound : goal.returns-clause-sound
returns-clause-sound c =
    let below = subst (λ n. c.args.rev < n) (length-of c.self.inside.name c.self.inside.uuid c.self.inside.table.cells c.self.inside.revisions.items _ _ c.args.self.now c.self.view_is) c.requires in
    subst (λ (commit : Commit). IsCommitOf c.args.rev commit) (sym (ap (λ (r : KeptRevision). r.commit) (rw (c.as_slice.ensures.value, c.get.ensures.value) at c.revision_of.ensures))) (c.self.invariant.kept c.args.rev below).commit_is
