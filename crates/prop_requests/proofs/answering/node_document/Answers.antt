use Rattle.std.proofs.Common.{◌≡◌, ◌∙◌, ap, sym, subst, IfOk, Ok, ℕ, List, ◌∷◌}
use Rattle.std.proofs.lemmas.Result.{IfOk-weaker}
use Rattle.dav_documents.specs.Written.{body_text}
use Rattle.prop_values.specs.declared.subject.Subject.{Subject}
use Rattle.prop_requests.specs.Entered.{entry_subjects}
use Rattle.prop_requests.specs.Multistatus.{multistatus_tree}
use Rattle.prop_requests.specs.Sights.{sources_by}
use Rattle.prop_requests.proofs.Entering.{asked_enter, node_answered}
use Rattle.prop_requests.proofs.answering.node_document.Goals as goal

pub tree_document-requires-clause-entered : goal.tree_document-requires-clause-entered
tree_document-requires-clause-entered c =
    asked_enter c.args.sight.now c.args.spot.now c.args.id c.entries_of-entries.result.now c.args.children c.trees-2.result.now c.trees-2.ensures c.requires.number c.entries_of-entries.ensures.sound c.entries_of-entries.ensures.are

pub returns : goal.returns
returns c =
    let sight = c.args.sight.now in
    let spot = c.args.spot.now in
    let entries = c.entries_of-entries.result.now in
    let answered = node_answered sight spot c.args.query.now c.args.id c.node_of-node.result.now entries c.args.children c.trees.result.now c.trees-2.result.now c.trees.ensures c.trees-2.ensures c.requires.readable c.requires.number c.node_of-node.ensures.is c.entries_of-entries.ensures.sound c.entries_of-entries.ensures.are in
    let told = subst (λ (s : Subject). IfOk c.tree_document.result (λ text. text ≡ body_text (multistatus_tree (sources_by sight) c.args.query.now (s ∷ entry_subjects sight spot entries)))) c.subject.ensures c.tree_document.ensures in
    IfOk-weaker c.tree_document.result _ _ (λ text is. answered ∙ ap (λ (t : List ℕ). Ok t) (sym is)) told
