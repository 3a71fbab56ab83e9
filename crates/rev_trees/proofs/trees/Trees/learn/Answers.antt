use Rattle.rev_nodes.proofs.Subtrees.{equal_subtrees}
use Rattle.rev_trees.proofs.Learned.{formed-of, sound_nodes-of, commits-of, sound-of, number_below}
use Rattle.rev_trees.proofs.trees.Trees.learn.Goals as goal

pub returns-clause-formed : goal.returns-clause-formed
returns-clause-formed c = formed-of c.self.inside.name c.self.inside.uuid c.self.inside.table.cells c.self.inside.revisions.items _ _ c.args.self.now c.self.view_is c.self.invariant

pub returns-clause-nodes : goal.returns-clause-nodes
returns-clause-nodes c = sound_nodes-of c.self.inside.name c.self.inside.uuid c.self.inside.table.cells c.self.inside.revisions.items _ _ c.args.self.now c.self.view_is c.self.invariant

pub returns-clause-commits : goal.returns-clause-commits
returns-clause-commits c = commits-of c.self.inside.name c.self.inside.uuid c.self.inside.table.cells c.self.inside.revisions.items _ _ c.args.self.now c.self.view_is c.self.invariant

pub returns-clause-sound : goal.returns-clause-sound
returns-clause-sound c = sound-of c.self.inside.name c.self.inside.uuid c.self.inside.table.cells c.self.inside.revisions.items _ _ c.args.self.now c.self.view_is c.self.invariant

pub returns-clause-subtrees : goal.returns-clause-subtrees
returns-clause-subtrees c = equal_subtrees c.args.self.now
    (sound-of c.self.inside.name c.self.inside.uuid c.self.inside.table.cells c.self.inside.revisions.items _ _ c.args.self.now c.self.view_is c.self.invariant)
    (formed-of c.self.inside.name c.self.inside.uuid c.self.inside.table.cells c.self.inside.revisions.items _ _ c.args.self.now c.self.view_is c.self.invariant)

pub returns-clause-numbers : goal.returns-clause-numbers
returns-clause-numbers c = number_below c.self.inside.name c.self.inside.uuid c.self.inside.table.cells c.self.inside.revisions.items _ _ c.args.self.now c.self.view_is c.self.invariant
