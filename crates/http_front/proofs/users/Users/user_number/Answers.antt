use Rattle.std.proofs.Common.{◌≡◌, ℕ, ◌+◌, Bool, true, false, not, cond, List, Option, Some, None, [], sym, ap, ◌∙◌, refl, arith}
use Rattle.std.specs.List.{position_from}
use Rattle.std.specs.Str.{bytes_eq}
use Rattle.http_front.specs.declared.user.User.{User}
use Rattle.http_front.specs.Logins.{has_credentials}
use Rattle.http_front.specs.UsersFile.{names}
use Rattle.http_front.proofs.NamePlaces.{none_named, named_user, found_named}
use Rattle.http_front.proofs.users.Users.user_number.Goals as goal

no_user : User
no_user = record { name = []; password = [] }

unequal : (b : Bool) → not b ≡ true → b ≡ false
unequal true h = cc
unequal false h = refl

equal : (b : Bool) → not b ≡ false → b ≡ true
equal true h = refl
equal false h = cc

-- what was found in the users, as they stand inside
found : (name : List ℕ) (inside users : List User) (place : Option ℕ) (at : ℕ) → inside ≡ users → place ≡ position_from (bytes_eq name) 0 (names users) → place ≡ Some at → position_from (bytes_eq name) 0 (names inside) ≡ Some at
found name inside users place at is first some = ap (λ us. position_from (bytes_eq name) 0 (names us)) is ∙ sym first ∙ some

pub returns-in_default-clause-value : goal.returns-in_default-clause-value
returns-in_default-clause-value c = sym (none_named c.args.name.now c.args.password.now 0 1 c.args.self.now (sym c.place.ensures ∙ c.in_default.is))

pub index-requires : goal.index-requires
index-requires c =
    omega (arith, (named_user c.args.name.now c.args.password.now c.self.inside.users.items c.in-Some.place no_user (found c.args.name.now c.self.inside.users.items c.args.self.now c.place.result c.in-Some.place c.self.view_is c.place.ensures c.in-Some.is) c.self.invariant.distinct).0)

pub returns-then-ne-clause-value : goal.returns-then-ne-clause-value
returns-then-ne-clause-value c =
    let other : bytes_eq c.args.password.now c.index.result.now.password ≡ false = ap (bytes_eq c.args.password.now) (sym c.get.ensures) ∙ unequal (bytes_eq c.args.password.now c.get.result.now) (sym c.ne.ensures ∙ c.if-ne.true) in
    sym (ap (position_from (has_credentials c.args.name.now c.args.password.now) 1) (sym c.self.view_is)
    ∙ (named_user c.args.name.now c.args.password.now c.self.inside.users.items c.in-Some.place c.index.result.now (found c.args.name.now c.self.inside.users.items c.args.self.now c.place.result c.in-Some.place c.self.view_is c.place.ensures c.in-Some.is) c.self.invariant.distinct).1 c.index.ensures
    ∙ ap (λ b. cond b (Some (c.in-Some.place + 1)) None) other)

pub overflow_cast-result : goal.overflow_cast-result
overflow_cast-result c =
    omega (arith, (named_user c.args.name.now c.args.password.now c.self.inside.users.items c.in-Some.place no_user (found c.args.name.now c.self.inside.users.items c.args.self.now c.place.result c.in-Some.place c.self.view_is c.place.ensures c.in-Some.is) c.self.invariant.distinct).0, c.self.invariant.few)

pub overflow_add-result : goal.overflow_add-result
overflow_add-result c =
    omega (arith, (named_user c.args.name.now c.args.password.now c.self.inside.users.items c.in-Some.place no_user (found c.args.name.now c.self.inside.users.items c.args.self.now c.place.result c.in-Some.place c.self.view_is c.place.ensures c.in-Some.is) c.self.invariant.distinct).0, c.self.invariant.few)

pub returns-clause-value : goal.returns-clause-value
returns-clause-value c =
    let other : bytes_eq c.args.password.now c.index.result.now.password ≡ true = ap (bytes_eq c.args.password.now) (sym c.get.ensures) ∙ equal (bytes_eq c.args.password.now c.get.result.now) (sym c.ne.ensures ∙ c.if-ne.false) in
    sym (ap (position_from (has_credentials c.args.name.now c.args.password.now) 1) (sym c.self.view_is)
    ∙ (named_user c.args.name.now c.args.password.now c.self.inside.users.items c.in-Some.place c.index.result.now (found c.args.name.now c.self.inside.users.items c.args.self.now c.place.result c.in-Some.place c.self.view_is c.place.ensures c.in-Some.is) c.self.invariant.distinct).1 c.index.ensures
    ∙ ap (λ b. cond b (Some (c.in-Some.place + 1)) None) other)

pub returns-clause-named : goal.returns-clause-named
returns-clause-named c =
    found_named c.args.name.now 0 (names c.self.inside.users.items) c.in-Some.place c.self.invariant.named
    (found c.args.name.now c.self.inside.users.items c.args.self.now c.place.result c.in-Some.place c.self.view_is c.place.ensures c.in-Some.is)
