use Rattle.std.proofs.Common.{List, [], ◌∷◌, ◌++◌, sym, ap, subst, ◌∙◌}
use Rattle.rev_nodes.specs.declared.cell.Cell.{Cell}
use Rattle.rev_nodes.specs.declared.change.Change.{Change}
use Rattle.rev_nodes.specs.Changes.{apply}
use Rattle.rev_nodes.specs.Drafts.{coming}
use Rattle.tree_edits.specs.Edits.{AreShown}
use Rattle.tree_edits.specs.AreEdits.{AreEdits}
use Rattle.rev_trees.specs.Kept.{trees_in}
use Rattle.rev_trees.proofs.Drafting.{grown_same, draft_now, fails_as, fits_as, changed_so}
use Rattle.rev_trees.proofs.draft.Draft.apply.Goals as goal

pub change_edits-requires-clause-are : goal.change_edits-requires-clause-are
change_edits-requires-clause-are c =
    let here = draft_now c.self.inside.trees.value c.self.inside.base c.self.inside.changes.items c.self.inside.edits c.args.self.now c.self.view_is c.self.invariant c.args.trees.now c.requires c.kept.result.now c.kept.ensures in
    subst (λ (cells : List Cell). AreEdits coming cells c.self.inside.edits) (sym c.cells.ensures.cells) here.are

pub returns-in-Err-clause-says : goal.returns-in-Err-clause-says
returns-in-Err-clause-says c =
    let here = draft_now c.self.inside.trees.value c.self.inside.base c.self.inside.changes.items c.self.inside.edits c.args.self.now c.self.view_is c.self.invariant c.args.trees.now c.requires c.kept.result.now c.kept.ensures in
    let shown = subst (λ (cells : List Cell). AreShown cells c.self.inside.edits here.tree) (sym c.cells.ensures.cells) here.shown in
    fails_as c.self.inside.trees.value c.self.inside.base c.self.inside.changes.items c.self.inside.edits c.args.self.now c.self.view_is c.self.invariant c.args.trees.now c.requires c.kept.result.now c.kept.ensures c.args.change.now c.in-Err.why (c.in-Err.ensures.says here.tree shown)

pub invariant_of-self-2 : goal.invariant_of-self-2
invariant_of-self-2 c =
    let here = draft_now c.self.inside.trees.value c.self.inside.base c.self.inside.changes.items c.self.inside.edits c.args.self.now c.self.view_is c.self.invariant c.args.trees.now c.requires c.kept.result.now c.kept.ensures in
    let shown = subst (λ (cells : List Cell). AreShown cells c.self.inside.edits here.tree) (sym c.cells.ensures.cells) here.shown in
    let did = c.in-Ok.ensures.says here.tree shown in
    changed_so c.self.inside.trees.value c.self.inside.base c.self.inside.changes.items c.self.inside.edits c.args.self.now c.self.view_is c.self.invariant c.args.trees.now c.requires c.kept.result.now c.kept.ensures c.args.change.now c.in_ok-copy.copy c.change_edits.new.edits c.of.result.value c.push.new.self.items
    (subst (λ (cells : List Cell). AreEdits coming cells c.change_edits.new.edits) c.cells.ensures.cells c.in-Ok.ensures.are) did.0
    (subst (λ (cells : List Cell). AreShown cells c.change_edits.new.edits (apply c.args.change.now (trees_in c.kept.result.now) here.tree coming)) c.cells.ensures.cells did.1)
    c.of.ensures (c.in-Ok-push.ensures.items ∙ ap (λ (cs : List Change). cs ++ c.in_ok-copy.copy ∷ []) c.reserve.ensures.items) c.in_ok-copy.ensures

pub returns-clause-says : goal.returns-clause-says
returns-clause-says c =
    let here = draft_now c.self.inside.trees.value c.self.inside.base c.self.inside.changes.items c.self.inside.edits c.args.self.now c.self.view_is c.self.invariant c.args.trees.now c.requires c.kept.result.now c.kept.ensures in
    let shown = subst (λ (cells : List Cell). AreShown cells c.self.inside.edits here.tree) (sym c.cells.ensures.cells) here.shown in
    let did = c.in-Ok.ensures.says here.tree shown in
    fits_as c.self.inside.trees.value c.self.inside.base c.self.inside.changes.items c.self.inside.edits c.args.self.now c.self.view_is c.self.invariant c.args.trees.now c.requires c.kept.result.now c.kept.ensures c.args.change.now c.in_ok-copy.copy c.of.result.value c.push.new.self.items did.0 c.of.ensures (c.in-Ok-push.ensures.items ∙ ap (λ (cs : List Change). cs ++ c.in_ok-copy.copy ∷ []) c.reserve.ensures.items) c.in_ok-copy.ensures

pub returns-clause-grown : goal.returns-clause-grown
returns-clause-grown c = grown_same c.of.result.value c.args.trees.now c.of.ensures
