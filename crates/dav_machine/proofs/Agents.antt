-- Nothing but the client is read off the field by which a client names itself.
use Rattle.std.proofs.Common.{◌≡◌, ℕ, Bool, true, false, List, [], ◌∷◌, Option, None, Result, Ok, refl, sym, ap, ◌∙◌}
use Rattle.std.specs.Prelude.{codes}
use Rattle.std.specs.List.{find, filter}
use Rattle.std.specs.Option.{option_map}
use Rattle.std.specs.Str.{str_to_ascii_lowercase}
use Rattle.std.proofs.lemmas.Slice.Eq.{bytes_eq-Decides}
use Rattle.dsv_base.specs.Gives.{◌>>=◌}
use Rattle.dsv_base.specs.declared.field.Field.{Field}
use Rattle.dsv_base.specs.declared.reply.Reply.{Reply}
use Rattle.http_front.specs.Fields.{is_named, values_named, one_at_most}
use Rattle.http_front.specs.declared.request.Request.{Request}
use Rattle.authz_file.specs.declared.rule.Rule.{Rule}
use Rattle.dav_replies.specs.declared.allow_kind.AllowKind.{AllowKind}
use Rattle.dav_replies.specs.declared.client.Client.{Client}
use Rattle.dav_replies.specs.declared.client.Client.TheVariants.{Plain}
use Rattle.dav_replies.specs.declared.method.Method.{Method}
use Rattle.dav_replies.specs.declared.method.Method.TheVariants as sent
use Rattle.dav_replies.specs.declared.refusal.Refusal.{Refusal}
use Rattle.dav_replies.specs.declared.refusal.Refusal.TheVariants.{NoMemory}
use Rattle.dav_replies.specs.Refusals.{refusal_bytes}
use Rattle.dav_machine.specs.declared.asked.Asked.TheVariants as ask
use Rattle.dav_machine.specs.declared.depth.Depth.{Depth}
use Rattle.dav_machine.specs.declared.headed.Headed.{Headed}
use Rattle.dav_machine.specs.declared.outgoing.Outgoing.{Outgoing}
use Rattle.dav_machine.specs.declared.outgoing.Outgoing.TheVariants as outgoing
use Rattle.dav_machine.specs.declared.headed.Headed.TheVariants as headed
use Rattle.dav_machine.specs.AllReplies.{answer, answered, or_refusal, reply_to, written}
use Rattle.dav_machine.specs.Chains.{by_target, kind_of, by_method, by_headers, viewer, by_login, by_body, by_aim, permitted, is_head}
use Rattle.dav_machine.specs.Clients.{client_by, client_of, names_no_client, without_agent}
use Rattle.dav_machine.specs.Depths.{depth_by, depth_of, children_asked}
use Rattle.dav_machine.specs.States.{State}
use Rattle.dav_machine.specs.Talks.{output_of}

-- ---- the fields

-- a field that is read by another name than the client's isn't one that names a client
other_name : (field : Field) → is_named (codes "depth") field ≡ true → names_no_client field ≡ true
other_name field named =
    elim (is_named (codes "User-Agent") field) as (λ v. is_named (codes "User-Agent") field ≡ v → names_no_client field ≡ true) [
      | true ↦ λ agent. absurd (apart (sym ((bytes_eq-Decides (str_to_ascii_lowercase field.name) (str_to_ascii_lowercase (codes "depth"))).0 named) ∙ (bytes_eq-Decides (str_to_ascii_lowercase field.name) (str_to_ascii_lowercase (codes "User-Agent"))).0 agent))
      | false ↦ λ agent. rw agent refl
    ] refl
  where
    apart : str_to_ascii_lowercase (codes "depth") ≡ str_to_ascii_lowercase (codes "User-Agent") → ⊥
    apart same = cc

-- the depth is among the fields that don't name a client
depths_stay : (fields : List Field) → values_named (codes "depth") (filter names_no_client fields) ≡ values_named (codes "depth") fields
depths_stay [] = refl
depths_stay (field ∷ fields) =
    elim (is_named (codes "depth") field) as (λ v. is_named (codes "depth") field ≡ v → values_named (codes "depth") (filter names_no_client (field ∷ fields)) ≡ values_named (codes "depth") (field ∷ fields)) [
      | true ↦ λ named. rw (other_name field named) (rw named (ap (λ (values : List (List ℕ)). field.value ∷ values) (depths_stay fields)))
      | false ↦ λ named. kept (names_no_client field) refl named (depths_stay fields)
    ] refl
  where
    kept : (b : Bool) → names_no_client field ≡ b → is_named (codes "depth") field ≡ false
        → values_named (codes "depth") (filter names_no_client fields) ≡ values_named (codes "depth") fields
        → values_named (codes "depth") (filter names_no_client (field ∷ fields)) ≡ values_named (codes "depth") (field ∷ fields)
    kept true stays named rest = rw stays (rw named rest)
    kept false leaves named rest = rw leaves (rw named rest)

depth_stays : (request : Request) → depth_of request.fields ≡ depth_of (without_agent request).fields
unfolding depth_of
depth_stays request = ap (λ (values : List (List ℕ)). depth_by (one_at_most values)) (sym (depths_stay request.fields))

-- none of the fields that are left names a client
none_left : (fields : List Field) → find (is_named (codes "User-Agent")) (filter names_no_client fields) ≡ None
none_left [] = refl
none_left (field ∷ fields) = left (is_named (codes "User-Agent") field) refl (none_left fields)
  where
    left : (b : Bool) → is_named (codes "User-Agent") field ≡ b → find (is_named (codes "User-Agent")) (filter names_no_client fields) ≡ None
        → find (is_named (codes "User-Agent")) (filter names_no_client (field ∷ fields)) ≡ None
    left true agent rest = rw agent rest
    left false agent rest = rw agent (rw agent rest)

is_plain : (request : Request) → client_of (without_agent request) ≡ Plain
unfolding client_of
is_plain request = ap (λ (found : Option Field). client_by (option_map (λ (f : Field). f.value) found)) (none_left request.fields)

-- ---- the chain

module _ (request : Request) (plain : client_of request ≡ Plain) where
  same_client : client_of request ≡ client_of (without_agent request)
  same_client = plain ∙ sym (is_plain request)

  headers_alike : (kind : AllowKind) (method : Method) → by_headers kind method request ≡ by_headers kind method (without_agent request)
  headers_alike kind sent.Options = refl
  headers_alike kind sent.Get = refl
  headers_alike kind sent.Head = refl
  headers_alike kind sent.Propfind = ap (λ (depth : Result Depth Refusal). depth >>= (λ d. children_asked kind d >>= (λ children. Ok (headed.Propfind children)))) (depth_stays request)
  headers_alike kind sent.Report = refl
  headers_alike kind sent.Post = refl
  headers_alike kind sent.Put = refl
  headers_alike kind sent.Mkcol = refl
  headers_alike kind sent.Proppatch = refl
  headers_alike kind sent.Delete = refl
  headers_alike kind sent.Copy = refl
  headers_alike kind sent.Merge = refl
  headers_alike kind sent.Lock = refl
  headers_alike kind sent.Unlock = refl

  bodies_alike : (said : Headed) → by_body said request ≡ by_body said (without_agent request)
  bodies_alike headed.Options = ap (λ (client : Client). Ok (ask.Options client)) same_client
  bodies_alike headed.Get = refl
  bodies_alike headed.Head = refl
  bodies_alike (headed.Propfind children) = refl

  permitted_alike : (name : List ℕ) (rules : List Rule) → permitted name rules request ≡ permitted name rules (without_agent request)
  unfolding permitted
  permitted_alike name rules = λ i. by_target name request.target
      >>= (λ resource. by_method (kind_of resource) request.method
      >>= (λ method. headers_alike (kind_of resource) method i
      >>= (λ said. by_login request.login
      >>= (λ user. bodies_alike said i
      >>= (λ asked. by_aim rules name user resource asked)))))

-- ---- the reply

pub answered_alike : (state : State) (request : Request) (moment : ℕ) (kept : Bool) → client_of request ≡ Plain → reply_to state request moment kept ≡ reply_to state (without_agent request) moment kept
unfolding reply_to answered
answered_alike state request moment kept plain = λ i. or_refusal (same_client request plain i) (permitted_alike request plain state.repository.name state.rules i >>= (λ permit. answer state (viewer request.login) permit moment kept))

pub written_alike : (reply : Reply) (request : Request) → written reply request ≡ written reply (without_agent request)
written_alike reply request = refl

-- what is sent for an answer
pub sent_alike : (request : Request) → client_of request ≡ Plain → (outgoing : Outgoing) → output_of request outgoing ≡ output_of (without_agent request) outgoing
sent_alike request plain (outgoing.Bytes bytes) = refl
sent_alike request plain outgoing.NoMemory = ap (λ (client : Client). refusal_bytes client NoMemory (is_head request) request.last) (same_client request plain)
