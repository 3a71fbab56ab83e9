use Rattle.std.proofs.Common.{◌≡◌, ◌<◌, Option, IfOk, subst}
use Rattle.rev_nodes.specs.declared.line.Line.{Line}
use Rattle.rev_trees.proofs.Viewed.{length-of}
use Rattle.rev_trees.proofs.Learned.{paths-of, line-of}
use Rattle.rev_trees.proofs.trees.Trees.line.Goals as goal

pub revision_of-requires : goal.revision_of-requires
revision_of-requires c = let e = length-of c.self.inside.name c.self.inside.uuid c.self.inside.table.cells c.self.inside.revisions.items _ _ c.args.self.now c.self.view_is in rw (c.as_slice.ensures.value, c.get.ensures.value, ← e) c.requires

pub line-requires-clause-within : goal.line-requires-clause-within
line-requires-clause-within c =
    let below = subst (λ n. c.args.rev < n) (length-of c.self.inside.name c.self.inside.uuid c.self.inside.table.cells c.self.inside.revisions.items _ _ c.args.self.now c.self.view_is) c.requires in
    rw (c.revision_of.ensures, c.as_slice.ensures.value, c.get.ensures.value) (c.self.invariant.kept c.args.rev below).within

pub line-requires-clause-paths : goal.line-requires-clause-paths
line-requires-clause-paths c =
    let below = subst (λ n. c.args.rev < n) (length-of c.self.inside.name c.self.inside.uuid c.self.inside.table.cells c.self.inside.revisions.items _ _ c.args.self.now c.self.view_is) c.requires in
    rw (c.revision_of.ensures, c.as_slice.ensures.value, c.get.ensures.value) (paths-of c.self.inside.name c.self.inside.uuid c.self.inside.table.cells c.self.inside.revisions.items _ _ c.args.self.now c.self.view_is c.self.invariant c.args.rev below)

pub returns : goal.returns
returns c =
    let below = subst (λ n. c.args.rev < n) (length-of c.self.inside.name c.self.inside.uuid c.self.inside.table.cells c.self.inside.revisions.items _ _ c.args.self.now c.self.view_is) c.requires in
    subst (λ (line : Option Line). IfOk c.line.result (λ (l : Option Line). l ≡ line)) (line-of c.self.inside.name c.self.inside.uuid c.self.inside.table.cells c.self.inside.revisions.items _ _ c.args.self.now c.self.view_is c.self.invariant c.args.rev c.args.path.now below c.known.ensures.path)
    (rw (c.known.ensures.same, c.revision_of.ensures, c.as_slice.ensures.value, c.get.ensures.value) at c.line.ensures)
