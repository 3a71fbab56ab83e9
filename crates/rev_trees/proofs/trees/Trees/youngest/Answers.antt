use Rattle.std.proofs.Common.{arith}
use Rattle.rev_trees.proofs.Viewed.{length-of}
use Rattle.rev_trees.proofs.trees.Trees.youngest.Goals as goal

pub returns : goal.returns
returns c =
    let count = length-of c.self.inside.name c.self.inside.uuid c.self.inside.table.cells c.self.inside.revisions.items _ _ c.args.self.now c.self.view_is in
    let some = c.self.invariant.some in
    let of = c.in-Some.ensures.1 in
    let len = c.len-count.ensures in
    omega arith
