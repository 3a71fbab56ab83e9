use Rattle.std.proofs.Common.{ap, ◌∙◌, arith}
use Rattle.tree_edits.specs.Hanging.{marked_held}
use Rattle.tree_edits.proofs.Lists.{in_order}
use Rattle.tree_edits.proofs.StepsDown.{first_name_is, can_touched, marked_order, marked_can, touch_fails, went_on, came_back, here_now}
use Rattle.tree_edits.proofs.store.Store.+hang_below.Goals as goal

pub returns-in-Err : goal.returns-in-Err
returns-in-Err t c = λ above there. touch_fails c.args.rev c.args.cells.now c.args.leaf c.args.self.now c.args.text.now c.args.path.now c.args.rest.now c.in-Some.name.now c.in-Some.next.now c.in-Some.after.now c.in-Some.ensures above c.touch.new.self c.in-Err.why c.in_ok-place-in-Some.place (c.in_ok-place-in-Some.ensures.place above there) c.in-Err.ensures

pub hang_below-requires : goal.hang_below-requires
hang_below-requires t c =
    let names = first_name_is c.args.rest.now c.in-Some.name.now c.in-Some.after.now c.in-Some.ensures.cut c.requires.names in
    let less = c.in-Some.ensures.shorter in
    let d = c.decreases in (
      omega (arith, less, d),
      (
        marked_order c.args.rev _ c.in-Some.next.now c.args.self.now c.touch.new.self c.in-Ok.before c.requires.sorted c.in-Ok.ensures,
        (
          marked_can c.args.cells.now c.args.rev _ c.in-Some.next.now c.args.self.now c.touch.new.self c.in-Ok.before c.requires.can (can_touched c.args.cells.now c.args.self.now c.in-Some.next.now c.in_ok-place-in-Some.place c.requires.can c.in_ok-place-in-Some.ensures.under) c.in-Ok.ensures,
          (c.in-Some.ensures.more names.0, names.1),
        ),
      ),
    )

pub untouch-requires : goal.untouch-requires
untouch-requires t c = record {
  sorted =
      let back = c.in-Err-hang_below.ensures (marked_held c.args.rev c.in-Ok.ensures.here) (here_now c.args.rev c.args.self.now c.touch.new.self c.in-Some.next.now c.in-Ok.before _ c.in-Ok.ensures) in
      ap in_order back.0 ∙ marked_order c.args.rev _ c.in-Some.next.now c.args.self.now c.touch.new.self c.in-Ok.before c.requires.sorted c.in-Ok.ensures;
}

pub returns-in-Ok-hang_below : goal.returns-in-Ok-hang_below
returns-in-Ok-hang_below t c = λ above there. went_on c.args.rev c.args.cells.now c.args.leaf c.args.self.now c.args.text.now c.args.path.now c.args.rest.now c.in-Some.name.now c.in-Some.next.now c.in-Some.after.now c.in-Some.ensures above c.touch.new.self c.in-Ok.before c.in_ok-place-in-Some.place (c.in_ok-place-in-Some.ensures.place above there) c.in-Ok.ensures c.hang_below.new.self c.in-Ok-hang_below.ensures

pub returns-in-Err-hang_below : goal.returns-in-Err-hang_below
returns-in-Err-hang_below t c = λ above there. came_back c.args.rev c.args.cells.now c.args.leaf c.args.self.now c.args.text.now c.args.path.now c.args.rest.now c.in-Some.name.now c.in-Some.next.now c.in-Some.after.now c.in-Some.ensures above c.touch.new.self c.in-Ok.before c.in_ok-place-in-Some.place (c.in_ok-place-in-Some.ensures.place above there) c.in-Ok.ensures c.requires.sorted c.hang_below.new.self c.untouch.new.self c.in-Err-hang_below.why c.in-Err-hang_below.ensures c.untouch.ensures
