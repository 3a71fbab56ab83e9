use Rattle.std.proofs.Common.{◌∙◌, sym, ap}
use Rattle.std.specs.Option.{option_copied_mut}
use Rattle.change_table.specs.ChangeTables.{LastChanges, noted}
use Rattle.change_table.proofs.KeyedRows.{on_both, noted_here, noted_new}
use Rattle.change_table.proofs.table.note.Goals as goal

pub returns-in-Some-clause-noted : goal.returns-in-Some-clause-noted
returns-in-Some-clause-noted c =
    let found = ap option_copied_mut (sym c.in-Some.is) ∙ c.get_mut.ensures.value in
    let path = sym (c.text.ensures.text ∙ c.path_of-path.ensures) in
    on_both c.note.result c.note.ensures.path c.note.ensures.last (λ same last. noted_here (λ k. k.items) c.text.result.now c.args.number c.args.change.now c.args.rows.now.entries _ path c.requires c.note.new.self c.in-Some.row.now found c.get_mut.ensures.ordered same last (c.get_mut.follows.holds c.note.new.self).0)

pub returns-in_ok-insert-in-None-clause-noted : goal.returns-in_ok-insert-in-None-clause-noted
returns-in_ok-insert-in-None-clause-noted c =
    let none = ap option_copied_mut (sym c.in-None.is) ∙ c.get_mut.ensures.value in
    let path = sym (c.text.ensures.text ∙ c.path_of-path.ensures) in
    let key = c.in_ok-key-in-None.ensures.items ∙ c.text-in-None.ensures.text ∙ sym c.text.ensures.text in
    noted_new (λ k. k.items) c.text.result.now c.args.number c.args.change.now c.args.rows.now.entries c.insert.new.self.entries path c.requires c.note-in-None.new.self none c.in_ok-key-in-None.key key
    (c.in_ok-note-in-None.ensures.path ∙ c.in_ok-row-in-None.ensures.path ∙ sym c.text.ensures.text)
    (c.in_ok-note-in-None.ensures.last ∙ ap (λ (l : LastChanges). noted c.args.number c.args.change.now l) c.in_ok-row-in-None.ensures.last)
    (rw c.get_mut.follows.holds-at-none at c.in_ok-insert-in-None.ensures.entries)
