use Rattle.std.proofs.Common.{sym, ◌∙◌}
use Rattle.dav_elements.proofs.TagAttrs.{loop_kept, loop_more}
use Rattle.dav_elements.proofs.attrs.attrs_from.Goals as goal
use Rattle.dav_elements.proofs.attrs.attrs_from.Goals.{then-not-is_binding+in_ok-attr+in_ok-push, else-not-is_binding}

pub raws-preserved : goal.raws-preserved
raws-preserved c = elim c.if-not-is_binding.branch [
  | then-not-is_binding+in_ok-attr+in_ok-push w ↦ rw w.attrs-is (loop_more c.raws.attrs.items _ c.args.spaces.now c.args.raws.now c.raws.raw-index c.raw-item.result w.in_ok-attr.attr _
      c.raws-test.true c.raw-item.is (sym c.is_binding.ensures ∙ w.if-not-is_binding.true) w.in_ok-attr.ensures w.in_ok-push.ensures.items c.raws.invariant)
  | else-not-is_binding w ↦ rw w.attrs-is (loop_kept c.raws.attrs.items c.args.spaces.now c.args.raws.now c.raws.raw-index c.raw-item.result _
      c.raws-test.true c.raw-item.is (sym c.is_binding.ensures ∙ w.if-not-is_binding.false) c.raws.invariant)
]
