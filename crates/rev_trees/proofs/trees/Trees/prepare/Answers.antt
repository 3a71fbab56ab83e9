use Rattle.std.proofs.Common.{◌-◌, List, Err, length, refl, sym, ap, subst, ◌∙◌, vec_len, vec_capacity, arith}
use Rattle.std.proofs.lemmas.Result.{err_from_is_err_and}
use Rattle.rev_nodes.specs.declared.cell.Cell.{Cell}
use Rattle.rev_nodes.specs.Forests.{Forest}
use Rattle.rev_trees.specs.declared.revision.KeptRevision.{KeptRevision}
use Rattle.rev_trees.specs.Kept.{trees_in, seen_revisions, forest_of, AreKept}
use Rattle.rev_trees.specs.Made.{IsMade, Makes}
use Rattle.rev_trees.proofs.Viewed.{length-of}
use Rattle.rev_trees.proofs.Pushing.{made_ready, is_next, not_next, ready_on}
use Rattle.rev_trees.proofs.trees.Trees.prepare.Goals as goal

pub returns-in-None-clause-says : goal.returns-in-None-clause-says
returns-in-None-clause-says c =
    let count = length-of c.self.inside.name c.self.inside.uuid c.self.inside.table.cells c.self.inside.revisions.items _ _ c.args.self.now c.self.view_is in
    let few = c.self.invariant.few in
    let len = c.len.ensures in
    let none = c.in-None.ensures in
    omega arith

pub returns-in_err-reserve-clause-says : goal.returns-in_err-reserve-clause-says
returns-in_err-reserve-clause-says c =
    let p = err_from_is_err_and c.from_residual.result c.from_residual.ensures.1 in
    let count = length-of c.self.inside.name c.self.inside.uuid c.self.inside.table.cells c.self.inside.revisions.items _ _ c.args.self.now c.self.view_is in
    let len = c.len.ensures in
    let some = c.in-Some.ensures in
    rw (p.1, p.2) (omega arith)

pub returns-in_err-reserve-2-clause-says : goal.returns-in_err-reserve-2-clause-says
returns-in_err-reserve-2-clause-says c =
    let p = err_from_is_err_and c.from_residual-in_err-reserve-2.result c.from_residual-in_err-reserve-2.ensures.1 in
    let count = length-of c.self.inside.name c.self.inside.uuid c.self.inside.table.cells c.self.inside.revisions.items _ _ c.args.self.now c.self.view_is in
    let len = c.len.ensures in
    let some = c.in-Some.ensures in
    rw (p.1, p.2) (omega arith)

pub returns-in_err-next-clause-says : goal.returns-in_err-next-clause-says
returns-in_err-next-clause-says c =
    let p = err_from_is_err_and c.from_residual-in_err-next.result c.from_residual-in_err-next.ensures.1 in
    let count = length-of c.self.inside.name c.self.inside.uuid c.self.inside.table.cells c.self.inside.revisions.items _ _ c.args.self.now c.self.view_is in
    let len = c.len.ensures in
    let some = c.in-Some.ensures in
    let made : Makes c.self.inside.table.cells (trees_in c.self.inside.revisions.items) c.args.commit (Err c.in_err-next.field-0.0) =
    subst (λ (cs : List Cell). Makes cs (trees_in c.self.inside.revisions.items) c.args.commit (Err c.in_err-next.field-0.0)) c.cells-cells.ensures.cells
    (subst (λ (rs : List KeptRevision). Makes c.cells-cells.result.now (trees_in rs) c.args.commit (Err c.in_err-next.field-0.0)) (c.as_slice.ensures.value ∙ c.reserve.ensures.items) c.in_err-next.ensures) in
    rw (p.1, p.2) (not_next c.self.inside.name c.self.inside.uuid c.self.inside.table.cells c.self.inside.revisions.items _ _ c.args.self.now c.self.view_is c.args.commit (forest_of c.self.inside.name c.self.inside.uuid c.self.inside.table.cells c.reserve.new.self.items (vec_capacity c.reserve.new.self - vec_len c.reserve.new.self) c.self.inside.table.room) c.in_err-next.field-0.0 (omega arith) made)

pub of-requires : goal.of-requires
of-requires c =
    let len = c.len.ensures in
    let some = c.in-Some.ensures in
    let same = ap (λ (rs : List KeptRevision). length rs) c.reserve.ensures.items in
    let kept : AreKept c.reserve-2.new.self.cells c.reserve.new.self.items =
    subst (λ (cs : List Cell). AreKept cs c.reserve.new.self.items) (sym c.reserve-2.ensures.kept.cells)
    (subst (λ (rs : List KeptRevision). AreKept c.self.inside.table.cells rs) (sym c.reserve.ensures.items) c.self.invariant) in
    let made : IsMade c.reserve-2.new.self.cells (trees_in c.reserve.new.self.items) c.args.commit c.in_ok-next.next =
    subst (λ (cs : List Cell). IsMade cs (trees_in c.reserve.new.self.items) c.args.commit c.in_ok-next.next) (c.cells-cells.ensures.cells ∙ sym c.reserve-2.ensures.kept.cells)
    (subst (λ (rs : List KeptRevision). IsMade c.cells-cells.result.now (trees_in rs) c.args.commit c.in_ok-next.next) c.as_slice.ensures.value c.in_ok-next.ensures) in
    made_ready c.self.inside.name c.self.inside.uuid c.reserve-2.new.self.cells c.reserve.new.self.items (vec_capacity c.reserve.new.self - vec_len c.reserve.new.self) c.reserve-2.new.self.room (forest_of c.self.inside.name c.self.inside.uuid c.reserve-2.new.self.cells c.reserve.new.self.items (vec_capacity c.reserve.new.self - vec_len c.reserve.new.self) c.reserve-2.new.self.room) refl kept c.args.commit c.requires.sound c.in_ok-next.next made c.in-Some.rev (omega (arith, len, some, same)) (omega (arith, len, some))

pub returns-clause-says : goal.returns-clause-says
returns-clause-says c =
    let count = length-of c.self.inside.name c.self.inside.uuid c.self.inside.table.cells c.self.inside.revisions.items _ _ c.args.self.now c.self.view_is in
    let len = c.len.ensures in
    let some = c.in-Some.ensures in
    let room = c.in_ok-reserve.ensures.ok in
    let node_room = c.in_ok-reserve-2.ensures.room in
    let nodes = c.len-2.ensures in
    let made : IsMade c.self.inside.table.cells (trees_in c.self.inside.revisions.items) c.args.commit c.in_ok-next.next =
    subst (λ (cs : List Cell). IsMade cs (trees_in c.self.inside.revisions.items) c.args.commit c.in_ok-next.next) c.cells-cells.ensures.cells
    (subst (λ (rs : List KeptRevision). IsMade c.cells-cells.result.now (trees_in rs) c.args.commit c.in_ok-next.next) (c.as_slice.ensures.value ∙ c.reserve.ensures.items) c.in_ok-next.ensures) in
    let same = (λ i. seen_revisions (c.reserve-2.ensures.kept.cells i) (c.reserve.ensures.items i) (trees_in (c.reserve.ensures.items i))) ∙ ap (λ (f : Forest). f.revisions) c.self.view_is in (
      omega arith,
      ready_on (forest_of c.self.inside.name c.self.inside.uuid c.reserve-2.new.self.cells c.reserve.new.self.items (vec_capacity c.reserve.new.self - vec_len c.reserve.new.self) c.reserve-2.new.self.room) (forest_of c.self.inside.name c.self.inside.uuid c.reserve-2.new.self.cells c.reserve.new.self.items (vec_capacity c.reserve.new.self - vec_len c.reserve.new.self) c.reserve-2.new.self.room) c.in_ok-next.next.revision.commit c.in_ok-next.next.revision.changed c.in_ok-next.next.cells.items c.of.result c.of.ensures refl refl (omega (arith, room)) (omega (arith, node_room, nodes)),
      is_next c.self.inside.name c.self.inside.uuid c.self.inside.table.cells c.self.inside.revisions.items _ _ c.args.self.now (forest_of c.self.inside.name c.self.inside.uuid c.reserve-2.new.self.cells c.reserve.new.self.items (vec_capacity c.reserve.new.self - vec_len c.reserve.new.self) c.reserve-2.new.self.room) c.self.view_is same c.args.commit c.in_ok-next.next made c.of.result c.of.ensures,
    )
