use Rattle.std.proofs.Common.{sym, ◌∙◌}
use Rattle.rev_trees.proofs.Viewed.{length-of}
use Rattle.rev_trees.proofs.Pushing.{number_on, sound_on, node_room_on, kept_on, pushes_one}
use Rattle.rev_trees.proofs.trees.Trees.push_ready.Goals as goal

pub append-requires-clause-room : goal.append-requires-clause-room
append-requires-clause-room c = let e = c.parts-rev.ensures in node_room_on c.self.inside.name c.self.inside.uuid c.self.inside.table.cells c.self.inside.revisions.items _ _ c.args.self.now c.self.view_is e.0 c.parts-rev.result.0 c.parts-rev.result.1 c.parts-rev.result.2.items c.args.ready e.1 e.2 c.requires

pub append-requires-clause-sound : goal.append-requires-clause-sound
append-requires-clause-sound c = let e = c.parts-rev.ensures in sound_on c.self.inside.name c.self.inside.uuid c.self.inside.table.cells c.self.inside.revisions.items _ _ c.args.self.now c.self.view_is e.0 c.parts-rev.result.0 c.parts-rev.result.1 c.parts-rev.result.2.items c.args.ready e.1 e.2 c.requires

pub invariant_of-self : goal.invariant_of-self
invariant_of-self c =
    let e = c.parts-rev.ensures in
    rw (c.append.ensures, c.in-Ok.ensures.items) (kept_on c.self.inside.name c.self.inside.uuid c.self.inside.table.cells c.self.inside.revisions.items _ _ c.args.self.now c.self.view_is e.0 c.parts-rev.result.0 c.parts-rev.result.1 c.parts-rev.result.2.items c.args.ready e.1 e.2 c.requires c.self.invariant)

pub returns-clause-number : goal.returns-clause-number
returns-clause-number c =
    let e = c.parts-rev.ensures in
    number_on c.self.inside.name c.self.inside.uuid c.self.inside.table.cells c.self.inside.revisions.items _ _ c.args.self.now c.self.view_is e.0 c.parts-rev.result.0 c.parts-rev.result.1 c.parts-rev.result.2.items c.args.ready e.1 e.2 c.requires ∙ sym (length-of c.self.inside.name c.self.inside.uuid c.self.inside.table.cells c.self.inside.revisions.items _ _ c.args.self.now c.self.view_is)

pub returns-clause-pushes : goal.returns-clause-pushes
returns-clause-pushes c =
    let e = c.parts-rev.ensures in
    rw (c.append.ensures, c.in-Ok.ensures.items) (pushes_one c.self.inside.name c.self.inside.uuid c.self.inside.table.cells c.self.inside.revisions.items _ _ c.args.self.now c.self.view_is e.0 c.parts-rev.result.0 c.parts-rev.result.1 c.parts-rev.result.2.items c.args.ready e.1 e.2 c.requires c.self.invariant _ _)
