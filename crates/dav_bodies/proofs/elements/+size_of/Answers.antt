use Rattle.std.proofs.Common.{sym, ◌∙◌}
use Rattle.dav_bodies.proofs.Sizes.{size_of-parts, behind_text, behind_child}
use Rattle.dav_bodies.proofs.elements.+size_of.Goals as goal
use Rattle.dav_bodies.proofs.elements.+size_of.Goals.{in-Child+in_ok-size_of+in_ok-size, in_default}

pub parts-init : goal.parts-init
parts-init t c = rw c.as_slice-parts.ensures (sym (size_of-parts c.args.elem.now))

pub parts-preserved : goal.parts-preserved
parts-preserved t c = elim c.match-part.branch [
  | in-Child+in_ok-size_of+in_ok-size w ↦ behind_child _ _ c.parts.size _ _ _ c.part-item.result w.in-Child.inner c.parts-test.true c.part-item.is w.in-Child.is w.in_ok-size_of.ensures (w.size-is ∙ w.in_ok-size.ensures) c.parts.invariant
  | in_default w ↦ behind_text _ _ c.parts.size _ _ c.part-item.result w.in_default.field-0 c.parts-test.true c.part-item.is w.in_default.is w.size-is c.parts.invariant
]
