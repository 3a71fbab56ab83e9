use Rattle.std.proofs.Common.{◌≡◌, ◌∙◌, true, OnOk, rules, subst, sym, ap, Some}
use Rattle.dav_documents.specs.Drafts.{Draft}
use Rattle.prop_values.specs.Responses.{response_element}
use Rattle.prop_values.specs.declared.subject.Subject.{Subject}
use Rattle.prop_requests.specs.Sights.{sees, sources_by}
use Rattle.prop_requests.specs.Entered.{spot_subject}
use Rattle.prop_requests.proofs.Entering.{spot_told, one_answer}
use Rattle.prop_requests.proofs.telling.Telling.write_spot.Goals as goal

pub returns-clause-written : goal.returns-clause-written
returns-clause-written c =
    let sight = c.args.self.now.sight in
    let spot = c.args.spot.now in
    let readable : sees sight spot.path ≡ true = search rules in
    let same : c.trees.result.now ≡ sight.trees = search rules in
    let told = spot_told sight spot c.args.id c.node_of-node.result.now c.trees.result.now same c.requires readable c.node_of-node.ensures.is in
    subst (λ (d : Draft). OnOk c.write.result (c.write.new.writer ≡ d))
    (one_answer (response_element (sources_by sight) c.args.self.now.wanted) (spot_subject sight spot) c.subject.result c.args.writer.now (told ∙ ap (λ (s : Subject). Some s) (sym c.subject.ensures)))
    c.write.ensures.written
