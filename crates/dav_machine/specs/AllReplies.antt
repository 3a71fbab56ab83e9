-- The reply to any request.
use Rattle.std.specs.Prelude.{ℕ, Bool, true, false, List, Option, None, Result, Ok, Err}
use Rattle.std.specs.Option.{option_map_or}
use Rattle.dsv_base.specs.Gives.{◌>>=◌}
use Rattle.dsv_base.specs.declared.reply.Reply.{Reply}
use Rattle.http_front.specs.declared.request.Request.{Request}
use Rattle.dav_replies.specs.Methods.{method_of}
use Rattle.dav_replies.specs.Refusals.{refusal_reply}
use Rattle.dav_replies.specs.Replies.{reply_text}
use Rattle.dav_replies.specs.declared.client.Client.{Client}
use Rattle.dav_replies.specs.declared.method.Method.{Method}
use Rattle.dav_replies.specs.declared.method.Method.TheVariants.{Options, Get, Head, Propfind, Report, Post, Put, Mkcol, Proppatch, Delete, Copy, Merge, Lock, Unlock}
use Rattle.dav_replies.specs.declared.refusal.Refusal.{Refusal}
use Rattle.dav_machine.specs.declared.effect.Effect.{Effect}
use Rattle.dav_machine.specs.Clients.{client_of}
use Rattle.dav_machine.specs.Chains.{Permit, permitted, viewer, is_head}
use Rattle.dav_machine.specs.ReadReplies.{read_answer}
use Rattle.dav_machine.specs.States.{State}
use Rattle.dav_machine.specs.Views.{View, view_of}

-- ---- reading and changing methods

-- the methods of reading requests (RFC 9110, section 9.2.1; RFC 4918, section 9.1; RFC 3253, section 3.6)
abbrev pub only_reads : Method → Bool
only_reads Options = true
only_reads Get = true
only_reads Head = true
only_reads Propfind = true
only_reads Report = true
only_reads Post = false
only_reads Put = false
only_reads Mkcol = false
only_reads Proppatch = false
only_reads Delete = false
only_reads Copy = false
only_reads Merge = false
only_reads Lock = false
only_reads Unlock = false

-- the request is a reading one
abbrev pub is_reading : Request → Bool
is_reading request = option_map_or only_reads (method_of request.method) false

-- ---- the answer

-- a reply that changes nothing
abbrev pub unchanging : Result Reply Refusal → Result (Reply × Option Effect) Refusal
unchanging (Ok reply) = Ok (reply, None)
unchanging (Err refusal) = Err refusal

-- what a request that is let through is answered, and what it changes, as the keeper keeps it or doesn't: a reading
-- request changes nothing, and its reply depends only on what the state shows to the user; as yet nothing else is
-- answered
abbrev pub answer : State → Option (List ℕ) → Permit → ℕ → Bool → Result (Reply × Option Effect) Refusal
answer state user permit moment kept = unchanging (read_answer (view_of state user) permit)

-- what a request is answered at a moment, and what it changes, as the keeper keeps it or doesn't
unfoldable pub answered : State → Request → ℕ → Bool → Result (Reply × Option Effect) Refusal
answered state request moment kept =
    permitted state.repository.name state.rules request
    >>= (λ permit. answer state (viewer request.login) permit moment kept)

-- a refusal is told as the client is told it, and changes nothing
abbrev pub or_refusal : Client → Result (Reply × Option Effect) Refusal → Reply × Option Effect
or_refusal client (Ok done) = done
or_refusal client (Err refusal) = (refusal_reply client refusal, None)

-- the reply to a request at a moment, and what the request changes, as the keeper keeps it or doesn't
unfoldable pub reply_to : State → Request → ℕ → Bool → Reply × Option Effect
reply_to state request moment kept = or_refusal (client_of request) (answered state request moment kept)

-- the reply to a reading request, as a function of what the user may see: nothing else is among its arguments
abbrev pub read_reply : View → Request → Reply × Option Effect
read_reply view request =
    or_refusal (client_of request)
    (permitted view.shown.name view.shown.rules request >>= (λ permit. unchanging (read_answer view permit)))

-- the bytes of a reply to a request
abbrev pub written : Reply → Request → List ℕ
written reply request = reply_text reply (is_head request) request.last
