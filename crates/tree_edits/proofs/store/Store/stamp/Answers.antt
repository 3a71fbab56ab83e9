use Rattle.std.proofs.Common.{◌∙◌, sym, ap, Some, None}
use Rattle.std.specs.Option.{option_copied_mut}
use Rattle.tree_edits.specs.Hanging.{marked_held}
use Rattle.tree_edits.proofs.Lists.{got, stamp_is}
use Rattle.tree_edits.proofs.store.Store.stamp.Goals.{in-Some+in-Some-slot, in-Some+in_default-slot, in_default}
use Rattle.tree_edits.proofs.store.Store.stamp.Goals as goal

pub returns : goal.returns
returns c =
    elim c.match-get_mut.branch [
      | in-Some+in-Some-slot w ↦ λ here there.
          let found = got (λ k. k.items) c.args.path.now c.self.inside.map.entries c.self.inside.map.entries c.args.self.now c.self.view_is (Some w.in-Some.slot.now) w.in-Some.ensures.value in
          rw w.self-inside-is (stamp_is (λ k. k.items) c.args.path.now c.self.inside.map.entries (c.get_mut.follows.lender (Some (marked_held c.args.created w.in-Some-slot.held))).entries c.args.self.now c.self.view_is c.args.created w.in-Some-slot.held here c.requires.sorted there (sym found ∙ ap Some w.in-Some-slot.is) (c.get_mut.follows.holds (Some (marked_held c.args.created w.in-Some-slot.held))).0)
      | in-Some+in_default-slot w ↦ λ here there.
          let found = got (λ k. k.items) c.args.path.now c.self.inside.map.entries c.self.inside.map.entries c.args.self.now c.self.view_is (Some w.in-Some.slot.now) w.in-Some.ensures.value in
          absurd (let a = w.in_default-slot.is in cc (found, there, a))
      | in_default w ↦ λ here there.
          let found = got (λ k. k.items) c.args.path.now c.self.inside.map.entries c.self.inside.map.entries c.args.self.now c.self.view_is None (ap option_copied_mut (sym w.in_default.is) ∙ c.get_mut.ensures.value) in
          absurd (cc (found, there))
    ]
