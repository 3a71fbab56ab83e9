-- Of what a reply is a function: what is refused early, of the name, the rules and the request; the rest of the view.
use Rattle.std.proofs.Common.{◌≡◌, ℕ, Bool, None, Result, Err, refl, ap}
use Rattle.dsv_base.specs.Gives.{◌>>=◌}
use Rattle.http_front.specs.declared.request.Request.{Request}
use Rattle.dav_replies.specs.Refusals.{refusal_reply}
use Rattle.dav_replies.specs.declared.refusal.Refusal.{Refusal}
use Rattle.log_access.specs.Shown.{shown_of}
use Rattle.dav_machine.specs.AllReplies.{answer, answered, or_refusal, reply_to, read_reply}
use Rattle.dav_machine.specs.Chains.{Permit, permitted, viewer}
use Rattle.dav_machine.specs.Clients.{client_of}
use Rattle.dav_machine.specs.States.{State}
use Rattle.dav_machine.specs.Views.{view_of}

-- what is refused early is told
pub decided : (state : State) (request : Request) (refusal : Refusal) (moment : ℕ) (kept : Bool)
    → permitted state.repository.name state.rules request ≡ Err refusal → reply_to state request moment kept ≡ (refusal_reply (client_of request) refusal, None)
unfolding reply_to answered
decided state request refusal moment kept refused =
    ap (λ (r : Result Permit Refusal). or_refusal (client_of request) (r >>= (λ permit. answer state (viewer request.login) permit moment kept))) refused

-- a reply by the view alone
pub by_view : (state : State) (request : Request) (moment : ℕ) (kept : Bool) → reply_to state request moment kept ≡ read_reply (view_of state (viewer request.login)) request
unfolding reply_to answered shown_of
by_view state request moment kept = refl
