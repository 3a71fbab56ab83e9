use Rattle.std.proofs.Common.{◌∙◌, ap, subst, ℕ, List, Result, length}
use Rattle.dsv_base.specs.Gives.{Gives}
use Rattle.dav_names.specs.declared.resource.Resource.{Resource}
use Rattle.prop_requests.specs.declared.propfind_fault.PropfindFault.{PropfindFault}
use Rattle.prop_requests.specs.Multistatus.{propfind_text}
use Rattle.prop_requests.specs.Propfinds.{is_free_of_propfind, or_no_such_node}
use Rattle.prop_requests.specs.Sights.{sources_by}
use Rattle.prop_requests.proofs.Entering.{public_at, rvr_at, revision_at_once, me_is, txr_is, txn_is}
use Rattle.prop_requests.proofs.answering.answer_about.Goals as goal

pub returns-in-Public : goal.returns-in-Public
returns-in-Public c =
    subst (λ (r : Result (List ℕ) PropfindFault). Gives is_free_of_propfind c.answer_at.result r)
    (public_at c.args.sight.now c.args.children c.args.query.now _ c.youngest.result _ c.args.resource.now c.of-spot.ensures (c.youngest.ensures ∙ (λ i. length (c.trees.ensures i).revisions)) c.in-Public.is)
    c.answer_at.ensures

pub returns-in-Rvr : goal.returns-in-Rvr
returns-in-Rvr c =
    subst (λ (r : Result (List ℕ) PropfindFault). Gives is_free_of_propfind c.answer_at-in-Rvr.result r)
    (rvr_at c.args.sight.now c.args.children c.args.query.now _ _ _ c.args.resource.now c.of-spot-in-Rvr.ensures c.in-Rvr.is)
    c.answer_at-in-Rvr.ensures

pub returns-in_ok-revision_document-in-RevOnly : goal.returns-in_ok-revision_document-in-RevOnly
returns-in_ok-revision_document-in-RevOnly c =
    revision_at_once c.args.sight.now c.args.children c.args.query.now _ c.args.resource.now _ c.in-RevOnly.is c.in_ok-revision_document-in-RevOnly.ensures

pub returns-in-Me : goal.returns-in-Me
returns-in-Me c = ap (λ (r : Resource). or_no_such_node (propfind_text (sources_by c.args.sight.now) r c.args.children c.args.query.now)) c.in-Me.is ∙ me_is (sources_by c.args.sight.now) c.args.children c.args.query.now

pub returns-in-Txr : goal.returns-in-Txr
returns-in-Txr c = ap (λ (r : Resource). or_no_such_node (propfind_text (sources_by c.args.sight.now) r c.args.children c.args.query.now)) c.in-Txr.is ∙ txr_is (sources_by c.args.sight.now) c.args.children c.args.query.now _ _

pub returns-in-Txn : goal.returns-in-Txn
returns-in-Txn c = ap (λ (r : Resource). or_no_such_node (propfind_text (sources_by c.args.sight.now) r c.args.children c.args.query.now)) c.in-Txn.is ∙ txn_is (sources_by c.args.sight.now) c.args.children c.args.query.now _
