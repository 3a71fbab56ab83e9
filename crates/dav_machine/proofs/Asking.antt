-- What is asked about properties, of what is there.
use Rattle.std.proofs.Common.{◌≡◌, ℕ, Bool, List, Option, Result, length, refl, subst}
use Rattle.dsv_base.specs.Gives.{Gives}
use Rattle.dsv_base.specs.declared.reply.Reply.{Reply}
use Rattle.dav_bodies.specs.declared.body.Wanted.{Wanted}
use Rattle.dav_names.specs.declared.resource.Resource.{Resource}
use Rattle.dav_names.specs.declared.resource.Resource.TheVariants.{Public, Me, Rvr, RevOnly, Txr, Txn}
use Rattle.dav_replies.specs.Faults.{refusal_no_memory}
use Rattle.dav_replies.specs.declared.refusal.Refusal.{Refusal}
use Rattle.log_access.specs.Shown.{shown_of}
use Rattle.prop_values.specs.Subjects.{PropSources}
use Rattle.prop_requests.specs.Propfinds.{propfind_answer}
use Rattle.prop_requests.specs.Sights.{sources_by, IsAskable}
use Rattle.dav_machine.specs.declared.asked.Asked.{Asked}
use Rattle.dav_machine.specs.declared.asked.Asked.TheVariants.{Options, Get, Head, Propfind}
use Rattle.dav_machine.specs.Chains.{path_in, revision_in, aim_of}
use Rattle.dav_machine.specs.Presents.{PresentState, sight_to, IsThere, MayRead, view_to}
use Rattle.dav_machine.specs.ReadReplies.{sources_in, propfind_reply}

module _ (present : PresentState) (user : Option (List ℕ)) where
  -- a view of the state has what the user sees of it
  pub sources_shown : sources_by (sight_to present user) ≡ sources_in (view_to present user)
  unfolding shown_of
  sources_shown = refl

  -- an answer by what the user sees is one by the view
  pub propfind_shown : (resource : Resource) (children : Bool) (wanted : Wanted) (result : Result Reply Refusal)
      → Gives refusal_no_memory result (propfind_reply (propfind_answer (sources_by (sight_to present user)) resource children wanted))
      → Gives refusal_no_memory result (propfind_reply (propfind_answer (sources_in (view_to present user)) resource children wanted))
  propfind_shown resource children wanted result told =
      subst (λ (sources : PropSources). Gives refusal_no_memory result (propfind_reply (propfind_answer sources resource children wanted))) sources_shown told

  -- what may be read, of a revision that is there, can be asked about
  askable : (resource : Resource) → MayRead present user (path_in resource) → IsThere (length present.trees.revisions) (revision_in resource) → IsAskable (sight_to present user) resource
  askable (Public path) readable there = readable
  askable Me readable there = tt
  askable (Rvr rev path) readable there = (there, readable)
  askable (RevOnly rev) readable there = there
  askable (Txr name path) readable there = tt
  askable (Txn name) readable there = tt

  -- .. as the aim of what is asked for names both
  pub aimed_askable : (asked : Asked) (resource : Resource) → MayRead present user (aim_of asked resource).path → IsThere (length present.trees.revisions) (aim_of asked resource).meant → IsAskable (sight_to present user) resource
  aimed_askable (Options client) resource readable there = askable resource readable there
  aimed_askable Get resource readable there = askable resource readable there
  aimed_askable Head resource readable there = askable resource readable there
  aimed_askable (Propfind children wanted) resource readable there = askable resource readable there
