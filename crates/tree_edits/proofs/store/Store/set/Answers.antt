use Rattle.std.proofs.Common.{◌≡◌, ◌∙◌, sym, ap, Option, Some, None, true}
use Rattle.std.specs.Prelude.{is_some}
use Rattle.std.specs.Option.{option_copied_mut}
use Rattle.tree_edits.specs.Edits.{Held}
use Rattle.tree_edits.proofs.Lists.{got, set_is}
use Rattle.tree_edits.proofs.store.Store.set.Goals.{in-Some+in-Some+in-Some-slot-edit-4, in-Some+in-Some+in-None-1, in-Some+in-None-1, in_default+in-Some+in-Some-edit-4, in_default+in-Some+in-None-1, in_default+in-None-1}
use Rattle.tree_edits.proofs.store.Store.set.Goals as goal

gone : {X : Type 0} (o : Option (Option Held)) → None ≡ o → is_some o ≡ true → X
gone None e h = absurd (cc h)
gone (Some x) e h = absurd (cc e)

pub returns : goal.returns
returns c =
    let there = c.requires.there in
    let none = λ (e : c.get_mut.result ≡ None). got (λ k. k.items) c.args.path.now c.self.inside.map.entries c.self.inside.map.entries c.args.self.now c.self.view_is None (ap option_copied_mut (sym e) ∙ c.get_mut.ensures.value) in
    let done = set_is (λ k. k.items) c.args.path.now c.self.inside.map.entries (c.get_mut.follows.lender c.args.edit).entries c.args.self.now c.self.view_is c.args.edit c.requires.sorted c.requires.there (c.get_mut.follows.holds c.args.edit).0 in
    elim c.match-get_mut.branch [
      | in-Some+in-Some+in-Some-slot-edit-4 w ↦ rw w.self-inside-is done
      | in-Some+in-Some+in-None-1 w ↦ rw w.self-inside-is done
      | in-Some+in-None-1 w ↦ rw w.self-inside-is done
      | in_default+in-Some+in-Some-edit-4 w ↦ gone _ (none w.in_default.is) there
      | in_default+in-Some+in-None-1 w ↦ gone _ (none w.in_default.is) there
      | in_default+in-None-1 w ↦ gone _ (none w.in_default.is) there
    ]
