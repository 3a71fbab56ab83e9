use Rattle.std.proofs.Common.{◌≡◌, ◌<◌, List, ◌++◌, length, ap, ◌∙◌, arith}
use Rattle.std.specs.Prelude.{option_to_list}
use Rattle.std.specs.Option.{option_copied}
use Rattle.node_table.specs.Ways.{Name}
use Rattle.rev_nodes.specs.declared.entry.Entry.{Entry}
use Rattle.tree_settling.specs.Merged.{entries_before, entries_behind, entry_made}
use Rattle.tree_settling.proofs.Merges.{zipped_merged, merged_more, merged_all, behind_rises}
use Rattle.tree_settling.proofs.Raised.{next_height}
use Rattle.tree_settling.proofs.merging.merged.Goals as goal

pub returns-clause-merged : goal.returns-clause-merged
returns-clause-merged c =
    zipped_merged c.args.changes.now c.args.kept.now.entries c.in_ok-entries.entries c.requires.new c.requires.old
    (merged_all c.args.changes.now c.args.kept.now.entries c.changes.all.items c.changes.rest.now c.in_ok-entries.entries c.changes.change-index (let past = c.changes-test.false in omega (arith, past)) c.changes.invariant.all (c.in_ok-entries.ensures ∙ c.in_ok-copy_all.ensures))

pub changes-preserved : goal.changes-preserved
changes-preserved c =
    let some : c.changes.change-index < length c.args.changes.now = (let h = c.changes-test.true in omega (arith, h)) in
    let item = c.change-item.result in
    let old = c.changes.all.items in
    let rest = c.changes.rest.now in
    let cut = c.cut_at_name-cut.result in
    let new = c.merge_one.new.all.items in
    let before_is : cut.before.now ≡ entries_before item.0 rest = c.cut_at_name-cut.ensures.before ∙ ap (λ (n : Name). entries_before n rest) c.at.ensures in
    let behind_is : cut.behind.now ≡ entries_behind item.0 rest = c.cut_at_name-cut.ensures.behind ∙ ap (λ (n : Name). entries_behind n rest) c.at.ensures in
    record {
      all = merged_more c.args.changes.now c.changes.change-index item old new rest cut.behind.now _ some c.change-item.is c.changes.invariant.all (c.in_ok-merge_one.ensures ∙ ap (λ (xs : List Entry). (old ++ xs) ++ entry_made item.0 item.1) before_is) behind_is;
      rise = behind_rises item.0 rest cut.behind.now behind_is c.changes.invariant.rise;
      height = next_height (c.args.cells.now ++ c.args.more.now) old rest new cut.behind.now cut.before.now (option_to_list (option_copied cut.here)) (entry_made item.0 item.1) c.changes.height c.height_by-height.result c.cut_at_name-cut.ensures.whole c.in_ok-merge_one.ensures c.height_by-height.ensures c.changes.invariant.height;
    }
