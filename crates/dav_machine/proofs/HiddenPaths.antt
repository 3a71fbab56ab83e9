-- A request for a path that its user may not read is refused early.
use Rattle.std.proofs.Common.{◌≡◌, Bool, false, List, ℕ, Option, None, Some, Result, Ok, Err, refl, ap, ◌∙◌}
use Rattle.std.specs.Prelude.{if◌then◌else◌}
use Rattle.std.specs.Option.{option_and_then}
use Rattle.dsv_base.specs.Gives.{◌>>=◌}
use Rattle.http_front.specs.declared.login.Login.{Login}
use Rattle.http_front.specs.declared.login.Login.TheVariants.{Nobody, User, Wrong}
use Rattle.http_front.specs.declared.request.Request.{Request}
use Rattle.authz_check.specs.Access.{can_read}
use Rattle.authz_file.specs.declared.rule.Rule.{Rule}
use Rattle.dav_names.specs.declared.resource.Resource.{Resource}
use Rattle.dav_names.specs.Targets.{target, root_of}
use Rattle.dav_replies.specs.declared.method.Method.{Method}
use Rattle.dav_replies.specs.declared.refusal.Refusal.{Refusal}
use Rattle.dav_replies.specs.declared.refusal.Refusal.TheVariants.{BadTarget, NeedsLogin}
use Rattle.dav_machine.specs.declared.asked.Asked.{Asked}
use Rattle.dav_machine.specs.declared.asked.Asked.TheVariants.{Options, Get, Head, Propfind}
use Rattle.dav_machine.specs.declared.headed.Headed.{Headed}
use Rattle.dav_machine.specs.Chains.{or_bad_target, kind_of, by_method, by_headers, by_body, viewer, by_login, path_in, aim_of, denied, by_rule, permit_of, by_aim, permitted}
use Rattle.dav_machine.specs.Laws.{path_asked}

aims : (asked : Asked) (resource : Resource) → (aim_of asked resource).path ≡ path_in resource
aims (Options client) resource = refl
aims Get resource = refl
aims Head resource = refl
aims (Propfind children wanted) resource = refl

module _ (name : List ℕ) (rules : List Rule) (path : List ℕ) where
  user_refused : (user : Option (List ℕ)) (resource : Resource) (asked : Asked) → path_in resource ≡ Some path → can_read rules name user path ≡ false → by_aim rules name user resource asked ≡ Err (denied user)
  user_refused user resource asked e hidden =
      ap (λ (p : Option (List ℕ)). by_rule rules name user p >>= (λ q. Ok (permit_of resource asked))) (aims asked resource ∙ e)
      ∙ ap (λ (b : Bool). (if b then Ok (Some path) else Err (denied user)) >>= (λ q. Ok (permit_of resource asked))) hidden

  -- whether the body is refused or not
  body_refused : (user : Option (List ℕ)) (resource : Resource) (asked : Result Asked Refusal) → path_in resource ≡ Some path → can_read rules name user path ≡ false → (refusal : Refusal) × ((asked >>= (λ b. by_aim rules name user resource b)) ≡ Err refusal)
  body_refused user resource (Ok asked) e hidden = (denied user, user_refused user resource asked e hidden)
  body_refused user resource (Err refusal) e hidden = (refusal, refl)

  login_refused : (request : Request) (resource : Resource) (said : Headed) (login : Login) → path_in resource ≡ Some path → can_read rules name (viewer login) path ≡ false → (refusal : Refusal) × ((by_login login >>= (λ user. by_body said request >>= (λ b. by_aim rules name user resource b))) ≡ Err refusal)
  login_refused request resource said Nobody e hidden = body_refused None resource (by_body said request) e hidden
  login_refused request resource said (User person) e hidden = body_refused (Some person.name) resource (by_body said request) e hidden
  login_refused request resource said Wrong e hidden = (NeedsLogin, refl)

  headers_refused : (request : Request) (resource : Resource) (login : Login) (said : Result Headed Refusal) → path_in resource ≡ Some path → can_read rules name (viewer login) path ≡ false → (refusal : Refusal) × ((said >>= (λ a. by_login login >>= (λ user. by_body a request >>= (λ b. by_aim rules name user resource b)))) ≡ Err refusal)
  headers_refused request resource login (Ok said) e hidden = login_refused request resource said login e hidden
  headers_refused request resource login (Err refusal) e hidden = (refusal, refl)

  method_refused : (request : Request) (resource : Resource) (login : Login) (method : Result Method Refusal) → path_in resource ≡ Some path → can_read rules name (viewer login) path ≡ false → (refusal : Refusal) × ((method >>= (λ m. by_headers (kind_of resource) m request >>= (λ a. by_login login >>= (λ user. by_body a request >>= (λ b. by_aim rules name user resource b))))) ≡ Err refusal)
  method_refused request resource login (Ok method) e hidden = headers_refused request resource login (by_headers (kind_of resource) method request) e hidden
  method_refused request resource login (Err refusal) e hidden = (refusal, refl)

  target_refused : (request : Request) (found : Option Resource) → option_and_then path_in found ≡ Some path → can_read rules name (viewer request.login) path ≡ false
      → (refusal : Refusal) × ((or_bad_target found >>= (λ resource. by_method (kind_of resource) request.method >>= (λ m. by_headers (kind_of resource) m request >>= (λ a. by_login request.login >>= (λ user. by_body a request >>= (λ b. by_aim rules name user resource b)))))) ≡ Err refusal)
  target_refused request None e hidden = (BadTarget, refl)
  target_refused request (Some resource) e hidden = method_refused request resource request.login (by_method (kind_of resource) request.method) e hidden

  pub hidden_refused : (request : Request) → path_asked name request ≡ Some path → can_read rules name (viewer request.login) path ≡ false → (refusal : Refusal) × (permitted name rules request ≡ Err refusal)
  unfolding permitted
  hidden_refused request e hidden = target_refused request (target (root_of name) request.target) e hidden
