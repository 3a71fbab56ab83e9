use Rattle.std.proofs.Common.{◌<◌, sym, subst, ◌∙◌, ap}
use Rattle.rev_trees.specs.declared.revision.KeptRevision.{KeptRevision}
use Rattle.rev_trees.proofs.Viewed.{changed-of, length-of}
use Rattle.rev_trees.proofs.trees.Trees.changed.Goals as goal

pub revision_of-requires : goal.revision_of-requires
revision_of-requires c = let e = length-of c.self.inside.name c.self.inside.uuid c.self.inside.table.cells c.self.inside.revisions.items _ _ c.args.self.now c.self.view_is in rw (c.as_slice.ensures.value, c.get.ensures.value, ← e) c.requires

pub returns : goal.returns
returns c =
    let below = subst (λ n. c.args.rev < n) (length-of c.self.inside.name c.self.inside.uuid c.self.inside.table.cells c.self.inside.revisions.items _ _ c.args.self.now c.self.view_is) c.requires in
    c.get-2.ensures
    ∙ ap (λ (r : KeptRevision). r.changed) (rw (c.as_slice.ensures.value, c.get.ensures.value) at c.revision_of.ensures)
    ∙ sym (changed-of c.self.inside.name c.self.inside.uuid c.self.inside.table.cells c.self.inside.revisions.items _ _ c.args.self.now c.self.view_is c.args.rev below)
