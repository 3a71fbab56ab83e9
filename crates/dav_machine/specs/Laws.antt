-- What holds of all replies.
use Rattle.std.specs.Prelude.{ℕ, ◌≡◌, Bool, true, false, List, Option, Some, Err}
use Rattle.std.specs.Option.{option_and_then, option_map_or}
use Rattle.dsv_base.specs.declared.reply.Reply.{Reply}
use Rattle.http_front.specs.declared.request.Request.{Request}
use Rattle.authz_check.specs.Access.{can_read}
use Rattle.dav_names.specs.Targets.{target, root_of}
use Rattle.dav_replies.specs.Methods.{method_of}
use Rattle.dav_replies.specs.declared.client.Client.TheVariants.{Plain}
use Rattle.dav_replies.specs.declared.method.Method.{Method}
use Rattle.dav_replies.specs.declared.method.Method.TheVariants.{Options, Get, Head, Propfind}
use Rattle.dav_replies.specs.declared.refusal.Refusal.{Refusal}
use Rattle.dav_machine.specs.declared.outgoing.Outgoing.{Outgoing}
use Rattle.dav_machine.specs.AllReplies.{is_reading, reply_to, read_reply, written}
use Rattle.dav_machine.specs.Clients.{client_of, without_agent}
use Rattle.dav_machine.specs.Chains.{permitted, viewer, path_in}
use Rattle.dav_machine.specs.States.{State}
use Rattle.dav_machine.specs.Talks.{output_of}
use Rattle.dav_machine.specs.Views.{view_of}

-- the reply to a reading request is a function of what the state shows to its user, and of the request
abbrev pub ReadByTheView : Type 0
ReadByTheView =
    (state : State) (request : Request) (moment : ℕ) (kept : Bool)
    → is_reading request ≡ true
    → reply_to state request moment kept ≡ read_reply (view_of state (viewer request.login)) request

-- a reading request is answered alike in any two states that show its user the same, at any moments, whatever the keeper
-- would do
abbrev pub ShownAlikeAnsweredAlike : Type 0
ShownAlikeAnsweredAlike =
    (one other : State) (request : Request) (moment later : ℕ) (kept held : Bool)
    → is_reading request ≡ true
    → view_of one (viewer request.login) ≡ view_of other (viewer request.login)
    → reply_to one request moment kept ≡ reply_to other request later held

-- a request that target, method, headers, login, body or rule refuses is answered alike in any two states of the same
-- name and rules
abbrev pub RefusedAlike : Type 0
RefusedAlike =
    (one other : State) (request : Request) (refusal : Refusal) (moment later : ℕ) (kept held : Bool)
    → one.repository.name ≡ other.repository.name
    → one.rules ≡ other.rules
    → permitted one.repository.name one.rules request ≡ Err refusal
    → reply_to one request moment kept ≡ reply_to other request later held

-- the methods whose aim the target alone names
abbrev pub aims_at_target : Method → Bool
aims_at_target Options = true
aims_at_target Get = true
aims_at_target Head = true
aims_at_target Propfind = true
aims_at_target _ = false

-- the path whose rule such a request asks, if there is one
abbrev pub path_asked : List ℕ → Request → Option (List ℕ)
path_asked name request = option_and_then path_in (target (root_of name) request.target)

-- an OPTIONS, a GET, a HEAD or a PROPFIND that asks of a path which its user may not read is answered alike in any two
-- states of the same name and rules, whatever stands there or anywhere else
abbrev pub HiddenAnsweredAlike : Type 0
HiddenAnsweredAlike =
    (one other : State) (request : Request) (path : List ℕ) (moment later : ℕ) (kept held : Bool)
    → option_map_or aims_at_target (method_of request.method) false ≡ true
    → one.repository.name ≡ other.repository.name
    → one.rules ≡ other.rules
    → path_asked one.repository.name request ≡ Some path
    → can_read one.rules one.repository.name (viewer request.login) path ≡ false
    → reply_to one request moment kept ≡ reply_to other request later held

-- a request whose client isn't one of Subversion's is answered as the same request that doesn't tell its client is: it has
-- the same effect, and not a byte of its reply differs, nor of what is sent where there is no memory for one
abbrev pub PlainAnsweredAlike : Type 0
PlainAnsweredAlike =
    (state : State) (request : Request) (moment : ℕ) (kept : Bool)
    → client_of request ≡ Plain
    → (reply_to state request moment kept ≡ reply_to state (without_agent request) moment kept)
    × ((reply : Reply) → written reply request ≡ written reply (without_agent request))
    × ((outgoing : Outgoing) → output_of request outgoing ≡ output_of (without_agent request) outgoing)
