use Rattle.std.proofs.Common.{◌≡◌, ◌<◌, false, ℕ, List, Some, length, sym, ap, subst, ◌∙◌}
use Rattle.dsv_base.specs.Paths.{root_text}
use Rattle.std.specs.Prelude.{MatchBool}
use Rattle.rev_nodes.specs.declared.unfit.Unfit.TheVariants.{NoParent}
use Rattle.rev_nodes.specs.Fitting.{is_want}
use Rattle.rev_nodes.specs.declared.cell.Cell.{Cell}
use Rattle.node_table.specs.Tables.{cell_at}
use Rattle.tree_edits.specs.Edits.{Held, touched_at, or_touched, held_in}
use Rattle.tree_edits.specs.Reading.{HasUnder}
use Rattle.tree_edits.specs.Hanging.{marked_held, stands_dir, IsMarked}
use Rattle.tree_edits.proofs.Lists.{in_order}
use Rattle.tree_edits.proofs.StepsDown.{can_touched, marked_order, marked_can, here_now, start_fails, start_went, start_back}
use Rattle.tree_edits.proofs.edits.hang_root.Goals as goal

root_under : (cells : List Cell) (root : ℕ) (place : Held) → root < length cells → place ≡ held_in cells (cell_at cells root).line root → HasUnder cells (Some place)
root_under cells root place less is id e = let s : Some root ≡ Some id = sym (ap (λ (h : Held). h.under) is) ∙ e in let t : root ≡ id = cc in subst (λ k. k < length cells) t less

pub returns-in-Err : goal.returns-in-Err
returns-in-Err c = start_fails c.args.rev c.args.cells.now c.args.leaf c.args.store.now root_text c.args.rest.now (or_touched (touched_at c.args.store.now root_text) (Some (held_in c.args.cells.now (cell_at c.args.cells.now c.args.root).line c.args.root))) c.touch.new.self c.in-Err.why
    (subst (λ (h : Held). (c.touch.new.self ≡ c.args.store.now) × MatchBool (is_want c.in-Err.why) (Unit {0}) ((c.in-Err.why ≡ NoParent) × (stands_dir (or_touched (touched_at c.args.store.now root_text) (Some h)) ≡ false))) c.in_ok-place.ensures c.in-Err.ensures)

pub hang_below-requires-clause-sorted : goal.hang_below-requires-clause-sorted
hang_below-requires-clause-sorted c = marked_order c.args.rev (or_touched (touched_at c.args.store.now root_text) (Some c.in_ok-place.place)) root_text c.args.store.now c.touch.new.self c.in-Ok.before c.requires.sorted c.in-Ok.ensures

pub hang_below-requires-clause-can : goal.hang_below-requires-clause-can
hang_below-requires-clause-can c = marked_can c.args.cells.now c.args.rev (or_touched (touched_at c.args.store.now root_text) (Some c.in_ok-place.place)) root_text c.args.store.now c.touch.new.self c.in-Ok.before c.requires.can
    (can_touched c.args.cells.now c.args.store.now root_text (Some c.in_ok-place.place) c.requires.can (root_under c.args.cells.now c.args.root c.in_ok-place.place c.requires.root c.in_ok-place.ensures)) c.in-Ok.ensures

pub untouch-requires : goal.untouch-requires
untouch-requires c = record {
  sorted =
      let back = c.in-Err-hang_below.ensures (marked_held c.args.rev c.in-Ok.ensures.here) (here_now c.args.rev c.args.store.now c.touch.new.self root_text c.in-Ok.before (or_touched (touched_at c.args.store.now root_text) (Some c.in_ok-place.place)) c.in-Ok.ensures) in
      ap in_order back.0 ∙ marked_order c.args.rev (or_touched (touched_at c.args.store.now root_text) (Some c.in_ok-place.place)) root_text c.args.store.now c.touch.new.self c.in-Ok.before c.requires.sorted c.in-Ok.ensures;
}

pub returns-in-Ok-hang_below : goal.returns-in-Ok-hang_below
returns-in-Ok-hang_below c =
    let m : IsMarked c.args.rev (or_touched (touched_at c.args.store.now root_text) (Some (held_in c.args.cells.now (cell_at c.args.cells.now c.args.root).line c.args.root))) root_text c.args.store.now c.touch.new.self c.in-Ok.before = subst (λ (h : Held). IsMarked c.args.rev (or_touched (touched_at c.args.store.now root_text) (Some h)) root_text c.args.store.now c.touch.new.self c.in-Ok.before) c.in_ok-place.ensures c.in-Ok.ensures in
    start_went c.args.rev c.args.cells.now c.args.leaf c.args.store.now root_text c.args.rest.now (or_touched (touched_at c.args.store.now root_text) (Some (held_in c.args.cells.now (cell_at c.args.cells.now c.args.root).line c.args.root))) c.touch.new.self c.hang_below.new.self c.in-Ok.before m c.in-Ok-hang_below.ensures

pub returns-in-Err-hang_below : goal.returns-in-Err-hang_below
returns-in-Err-hang_below c =
    let m : IsMarked c.args.rev (or_touched (touched_at c.args.store.now root_text) (Some (held_in c.args.cells.now (cell_at c.args.cells.now c.args.root).line c.args.root))) root_text c.args.store.now c.touch.new.self c.in-Ok.before = subst (λ (h : Held). IsMarked c.args.rev (or_touched (touched_at c.args.store.now root_text) (Some h)) root_text c.args.store.now c.touch.new.self c.in-Ok.before) c.in_ok-place.ensures c.in-Ok.ensures in
    start_back c.args.rev c.args.cells.now c.args.leaf c.args.store.now root_text c.args.rest.now (or_touched (touched_at c.args.store.now root_text) (Some (held_in c.args.cells.now (cell_at c.args.cells.now c.args.root).line c.args.root))) c.touch.new.self c.in-Ok.before m c.requires.sorted c.hang_below.new.self c.untouch.new.self c.in-Err-hang_below.why c.in-Err-hang_below.ensures c.untouch.ensures
