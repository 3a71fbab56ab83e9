use Rattle.std.proofs.Common.{◌<◌, subst, ◌∙◌}
use Rattle.rev_trees.proofs.Viewed.{length-of}
use Rattle.rev_trees.proofs.Learned.{look-of}
use Rattle.rev_trees.proofs.trees.Trees.look.Goals as goal

pub revision_of-requires : goal.revision_of-requires
revision_of-requires c = let e = length-of c.self.inside.name c.self.inside.uuid c.self.inside.table.cells c.self.inside.revisions.items _ _ c.args.self.now c.self.view_is in rw (c.as_slice.ensures.value, c.get.ensures.value, ← e) c.requires

pub look-requires : goal.look-requires
look-requires c =
    let below = subst (λ n. c.args.rev < n) (length-of c.self.inside.name c.self.inside.uuid c.self.inside.table.cells c.self.inside.revisions.items _ _ c.args.self.now c.self.view_is) c.requires in
    rw (c.revision_of.ensures, c.as_slice.ensures.value, c.get.ensures.value) (c.self.invariant.kept c.args.rev below).within

pub returns : goal.returns
returns c =
    let below = subst (λ n. c.args.rev < n) (length-of c.self.inside.name c.self.inside.uuid c.self.inside.table.cells c.self.inside.revisions.items _ _ c.args.self.now c.self.view_is) c.requires in
    (rw (c.known.ensures.same, c.revision_of.ensures, c.as_slice.ensures.value, c.get.ensures.value) at c.look.ensures)
    ∙ look-of c.self.inside.name c.self.inside.uuid c.self.inside.table.cells c.self.inside.revisions.items _ _ c.args.self.now c.self.view_is c.self.invariant c.args.rev c.args.path.now below c.known.ensures.path
