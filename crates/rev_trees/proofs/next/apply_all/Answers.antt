use Rattle.std.proofs.Common.{◌-◌, length, refl, sym, ap, subst, ◌∙◌, arith}
use Rattle.rev_nodes.specs.Changes.{apply_from}
use Rattle.node_table.specs.Steps.{IsSource}
use Rattle.rev_trees.specs.Kept.{trees_in, youngest}
use Rattle.rev_trees.proofs.Applied.{are_sources, is_source, goes_on, ends, all_applied}
use Rattle.rev_trees.proofs.next.apply_all.Goals as goal

pub changes-init : goal.changes-init
changes-init c = record {
  are = c.requires.are;
  few = (let none = ap (λ ts. length ts) c.requires.none in omega (arith, none));
  counted = omega arith;
  way = record {
    tree = youngest (trees_in c.args.revisions.now);
    shown = c.requires.shown;
    sorted = (are_sources c.args.cells.now c.args.revisions.now c.requires.kept).sorted (length (trees_in c.args.revisions.now) - 1);
    comes = refl;
  };
}

pub apply-requires-clause-from : goal.apply-requires-clause-from
apply-requires-clause-from c = λ id e.
    subst (λ n. IsSource n c.args.cells.now id) (sym c.requires.number)
    (is_source c.args.cells.now c.args.revisions.now c.requires.kept c.change-item.result id (sym c.source_root-from.ensures ∙ e))

pub changes-preserved : goal.changes-preserved
changes-preserved c =
    let few = c.changes.invariant.few in
    let more = c.apply.ensures.few in
    let counted = c.changes.invariant.counted in
    record {
      are = c.apply.ensures.are;
      few = omega (arith, few, more);
      counted = omega (arith, counted);
      way = goes_on c.args.cells.now c.args.revisions.now c.requires.kept c.args.rev c.args.changes.now c.changes.change-index c.changes.index c.change-item.result (apply_from 0 c.args.changes.now (trees_in c.args.revisions.now) (youngest (trees_in c.args.revisions.now)) c.args.rev) c.changes.edits c.apply.new.self (omega arith) (sym c.change-item.is) c.changes.invariant.way
          (rw c.source_root-from.ensures at c.in-Ok.ensures.says);
    }

pub returns-in-Err-clause-says : goal.returns-in-Err-clause-says
returns-in-Err-clause-says c =
    rw c.fault_of.ensures (ends c.args.cells.now c.args.revisions.now c.requires.kept c.args.rev c.args.changes.now c.changes.change-index c.changes.index c.change-item.result (apply_from 0 c.args.changes.now (trees_in c.args.revisions.now) (youngest (trees_in c.args.revisions.now)) c.args.rev) c.changes.edits c.apply.new.self (omega arith) (sym c.change-item.is) c.changes.invariant.way c.in-Err.why
    (rw c.source_root-from.ensures at c.in-Err.ensures.says))

pub returns-clause-says : goal.returns-clause-says
returns-clause-says c =
    all_applied c.args.rev (trees_in c.args.revisions.now) c.args.changes.now c.changes.change-index c.changes.index (apply_from 0 c.args.changes.now (trees_in c.args.revisions.now) (youngest (trees_in c.args.revisions.now)) c.args.rev) c.args.cells.now c.changes.edits (omega arith) c.changes.invariant.way
