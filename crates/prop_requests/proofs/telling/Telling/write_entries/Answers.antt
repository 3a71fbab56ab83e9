use Rattle.std.proofs.Common.{◌∷◌, ◌∙◌, ◌+◌, ap, drop, sym}
use Rattle.std.proofs.lemmas.List.{drop_more}
use Rattle.rev_nodes.specs.declared.entry.Entry.{Entry}
use Rattle.prop_requests.proofs.Entering.{entries_step}
use Rattle.prop_requests.proofs.telling.Telling.write_entries.Goals as goal

pub entries-preserved : goal.entries-preserved
entries-preserved c =
    let entries = c.args.entries.now in
    let next = drop_more entries c.entries.entry-index c.entry-item.result c.entries-test.true ∙ ap (λ (e : Entry). e ∷ drop (c.entries.entry-index + 1) entries) (sym c.entry-item.is) in (
      c.in_ok-write_entry.ensures.kept ∙ c.entries.invariant.0,
      entries_step c.entries.self c.args.self.now c.args.directory.now _ _ c.entry-item.result c.entries.writer c.write_entry.new.writer _ c.entries.invariant.0 next c.in_ok-write_entry.ensures.written c.entries.invariant.1,
    )
