-- The chain that every request goes through, as far as the repository's name, the rules and the request decide it:
-- target, method, headers, login, body, rule. The first step that refuses is the answer.
use Rattle.std.specs.Prelude.{ℕ, ◌≡◌, ⊤, Bool, true, false, List, Option, None, Some, Result, Ok, Err, option_to_list, if◌then◌else◌}
use Rattle.std.specs.Str.{bytes_eq}
use Rattle.dsv_base.specs.Paths.{root_text}
use Rattle.dsv_base.specs.Gives.{◌>>=◌}
use Rattle.dsv_base.specs.declared.form.Form.TheVariants.{Later}
use Rattle.dav_bodies.specs.Bodies.{body_read}
use Rattle.dav_bodies.specs.declared.body.Body.{Body}
use Rattle.dav_bodies.specs.declared.body.Body.TheVariants as bodies
use Rattle.dav_bodies.specs.declared.body_fault.BodyFault.{BodyFault}
use Rattle.dav_bodies.specs.declared.body_fault.BodyFault.TheVariants as faults
use Rattle.dav_bodies.specs.declared.body_kind.BodyKind.TheVariants as kinds
use Rattle.http_front.specs.declared.login.Login.{Login}
use Rattle.http_front.specs.declared.login.Login.TheVariants.{Nobody, User, Wrong}
use Rattle.http_front.specs.declared.request.Request.{Request}
use Rattle.dav_names.specs.declared.resource.Resource.{Resource}
use Rattle.dav_names.specs.declared.resource.Resource.TheVariants as named
use Rattle.dav_names.specs.Targets.{target, root_of}
use Rattle.dav_replies.specs.Methods.{method_of, is_allowed}
use Rattle.dav_replies.specs.declared.allow_kind.AllowKind.{AllowKind}
use Rattle.dav_replies.specs.declared.allow_kind.AllowKind.TheVariants as allow
use Rattle.dav_replies.specs.declared.method.Method.{Method}
use Rattle.dav_replies.specs.declared.method.Method.TheVariants as sent
use Rattle.dav_replies.specs.declared.refusal.Refusal.{Refusal}
use Rattle.dav_replies.specs.declared.refusal.Refusal.TheVariants.{BadTarget, BadBody, NeedsLogin, Denied, WrongMethod, NotInProfile, NoMemory}
use Rattle.authz_file.specs.declared.rule.Rule.{Rule}
use Rattle.authz_check.specs.Access.{can_read}
use Rattle.dav_machine.specs.declared.asked.Asked.{Asked}
use Rattle.dav_machine.specs.declared.asked.Asked.TheVariants as ask
use Rattle.dav_machine.specs.declared.headed.Headed.{Headed}
use Rattle.dav_machine.specs.declared.headed.Headed.TheVariants as headed
use Rattle.dav_machine.specs.Clients.{client_of}
use Rattle.dav_machine.specs.Depths.{depth_of, children_asked}

-- ---- target

-- a target has to name a resource
abbrev pub or_bad_target : Option Resource → Result Resource Refusal
or_bad_target None = Err BadTarget
or_bad_target (Some resource) = Ok resource

-- the resource that a target names in the repository of this name
abbrev pub by_target : List ℕ → List ℕ → Result Resource Refusal
by_target name text = or_bad_target (target (root_of name) text)

-- the row of methods that a resource takes
abbrev pub kind_of : Resource → AllowKind
kind_of (named.Public path) = allow.Public
kind_of named.Me = allow.Me
kind_of (named.Rvr rev path) = allow.Rvr
kind_of (named.RevOnly rev) = allow.RevOnly
kind_of (named.Txr name path) = if bytes_eq path root_text then allow.TxrRoot else allow.Txr
kind_of (named.Txn name) = allow.Txn

-- ---- method

-- a method has to be one that the resource takes
abbrev pub or_wrong_method : AllowKind → Option Method → Result Method Refusal
or_wrong_method kind None = Err (WrongMethod kind)
or_wrong_method kind (Some method) = if is_allowed kind method then Ok method else Err (WrongMethod kind)

-- the method of a request on a resource of this kind
abbrev pub by_method : AllowKind → List ℕ → Result Method Refusal
by_method kind name = or_wrong_method kind (method_of name)

-- ---- headers

-- what the headers of a PROPFIND of a resource of this kind say: its depth
abbrev pub propfind_headed : AllowKind → Request → Result Headed Refusal
propfind_headed kind request = do
  depth ← depth_of request.fields
  children ← children_asked kind depth
  Ok (headed.Propfind children)

-- what the headers say by the method, of a resource of this kind. What isn't built yet is refused by name, in the method's
-- place
abbrev pub by_headers : AllowKind → Method → Request → Result Headed Refusal
by_headers kind sent.Options request = Ok headed.Options
by_headers kind sent.Get request = Ok headed.Get
by_headers kind sent.Head request = Ok headed.Head
by_headers kind sent.Propfind request = propfind_headed kind request
by_headers kind sent.Report request = Err (NotInProfile Later)
by_headers kind sent.Post request = Err (NotInProfile Later)
by_headers kind sent.Put request = Err (NotInProfile Later)
by_headers kind sent.Mkcol request = Err (NotInProfile Later)
by_headers kind sent.Proppatch request = Err (NotInProfile Later)
by_headers kind sent.Delete request = Err (NotInProfile Later)
by_headers kind sent.Copy request = Err (NotInProfile Later)
by_headers kind sent.Merge request = Err (NotInProfile Later)
by_headers kind sent.Lock request = Err (NotInProfile Later)
by_headers kind sent.Unlock request = Err (NotInProfile Later)

-- ---- login

-- whose rights count: a wrong login shows no more than none does
abbrev pub viewer : Login → Option (List ℕ)
viewer Nobody = None
viewer (User person) = Some person.name
viewer Wrong = None

-- a wrong login is refused whatever is asked for
abbrev pub by_login : Login → Result (Option (List ℕ)) Refusal
by_login Nobody = Ok None
by_login (User person) = Ok (Some person.name)
by_login Wrong = Err NeedsLogin

-- ---- body

-- a PROPFIND of what its body says, with the children or without
abbrev pub propfind_asked : Bool → Result Body BodyFault → Result Asked Refusal
propfind_asked children (Ok (bodies.Propfind wanted)) = Ok (ask.Propfind children wanted)
propfind_asked children (Err faults.BadBody) = Err BadBody
propfind_asked children (Err (faults.NotInProfile form)) = Err (NotInProfile form)
propfind_asked children (Err faults.NoMemory) = Err NoMemory

-- what is asked for, by what the headers and the body say; only the body of a PROPFIND is looked at
abbrev pub by_body : Headed → Request → Result Asked Refusal
by_body headed.Options request = Ok (ask.Options (client_of request))
by_body headed.Get request = Ok ask.Get
by_body headed.Head request = Ok ask.Head
by_body (headed.Propfind children) request = propfind_asked children (body_read kinds.Propfind request.body)

-- ---- rule

-- the path that a resource names in the tree of a revision, if it names one
abbrev pub path_in : Resource → Option (List ℕ)
path_in (named.Public path) = Some path
path_in named.Me = None
path_in (named.Rvr rev path) = Some path
path_in (named.RevOnly rev) = None
path_in (named.Txr name path) = None
path_in (named.Txn name) = None

-- the revision that a resource names, if it names one
abbrev pub revision_in : Resource → Option ℕ
revision_in (named.Public path) = None
revision_in named.Me = None
revision_in (named.Rvr rev path) = Some rev
revision_in (named.RevOnly rev) = Some rev
revision_in (named.Txr name path) = None
revision_in (named.Txn name) = None

-- what a request aims at: the path whose rule is asked, if there is one, the revisions that are named, in the order in
-- which they are tried, and the one of them whose tree is meant; where none is, the youngest is meant
pub record Aim : Type 0 where
  pub path : Option (List ℕ)
  pub revisions : List ℕ
  pub meant : Option ℕ

-- the aim of what only its target names
abbrev pub target_aim : Resource → Aim
target_aim resource = record {
  path = path_in resource;
  revisions = option_to_list (revision_in resource);
  meant = revision_in resource;
}

-- the aim of what is asked for
abbrev pub aim_of : Asked → Resource → Aim
aim_of (ask.Options client) resource = target_aim resource
aim_of ask.Get resource = target_aim resource
aim_of ask.Head resource = target_aim resource
aim_of (ask.Propfind children wanted) resource = target_aim resource

-- how a reader without the right is refused: somebody who has logged in can do no more
abbrev pub denied : Option (List ℕ) → Refusal
denied None = NeedsLogin
denied (Some name) = Denied

-- the rule of the path that is aimed at, if there is one, has to let the user read; it is tested before anything of the
-- trees is looked at
abbrev pub by_rule : List Rule → List ℕ → Option (List ℕ) → Option (List ℕ) → Result (Option (List ℕ)) Refusal
by_rule rules name user None = Ok None
by_rule rules name user (Some path) = if can_read rules name user path then Ok (Some path) else Err (denied user)

-- the user may read the path, if there is one
abbrev pub IsReadable : List Rule → List ℕ → Option (List ℕ) → Option (List ℕ) → Type 0
IsReadable rules name user None = ⊤
IsReadable rules name user (Some path) = can_read rules name user path ≡ true

-- ---- the chain

-- a request that nothing so far has refused: what it asks for, and of which resource
pub record Permit : Type 0 where
  pub resource : Resource
  pub asked : Asked

-- the permit of these two
abbrev pub permit_of : Resource → Asked → Permit
permit_of resource asked = record { resource = resource; asked = asked }

-- the last step: the rule
abbrev pub by_aim : List Rule → List ℕ → Option (List ℕ) → Resource → Asked → Result Permit Refusal
by_aim rules name user resource asked =
    by_rule rules name user (aim_of asked resource).path >>= (λ path. Ok (permit_of resource asked))

-- the chain in its order
unfoldable pub permitted : List ℕ → List Rule → Request → Result Permit Refusal
permitted name rules request = do
  resource ← by_target name request.target
  method ← by_method (kind_of resource) request.method
  said ← by_headers (kind_of resource) method request
  user ← by_login request.login
  asked ← by_body said request
  by_aim rules name user resource asked

-- ---- what the method alone decides

-- a reply to HEAD has no content, whatever it says (RFC 9110, section 9.3.2)
abbrev pub is_head_method : Option Method → Bool
is_head_method (Some sent.Head) = true
is_head_method _ = false

-- the request is a HEAD
abbrev pub is_head : Request → Bool
is_head request = is_head_method (method_of request.method)
