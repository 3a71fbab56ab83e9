-- Names and their places: one more, and a user that is found by the name.
use Rattle.std.proofs.Common.{◌≡◌, ℕ, suc, ◌+◌, ◌<◌, Bool, true, false, ◌&&◌, cond, ◌||◌, List, [], ◌∷◌, ◌++◌, length, get_or, Some, None, refl, ap, sym, subst, ◌∙◌, arith}
use Rattle.std.specs.BTreeMap.{insert_entry}
use Rattle.std.specs.List.{list_any, list_all, position_from, IsDistinct, AllByRecursion}
use Rattle.std.specs.Map.{lookup}
use Rattle.std.specs.Option.{is_some}
use Rattle.std.specs.Str.{bytes_eq}
use Rattle.std.proofs.lemmas.Slice.Eq.{bytes_eq-Decides}
use Rattle.std.proofs.lemmas.Cmp.{nat_list_eq_equiv}
use Rattle.std.proofs.lemmas.Map.Keys.{IsDistinct-push}
use Rattle.std.proofs.lemmas.Map.Text.{is_eq-slice_cmp}
use Rattle.dsv_base.specs.Names.{is_user_name}
use Rattle.dsv_base.proofs.TextMaps.{order, at, lookup-inserted}
use Rattle.http_front.specs.declared.user.User.{User}
use Rattle.http_front.specs.Logins.{has_credentials}
use Rattle.http_front.specs.UsersFile.{names, AreNamed}

-- ---- the first place of a name

pub found_or_not : (name : List ℕ) (n : ℕ) (ns : List (List ℕ)) → is_some (position_from (bytes_eq name) n ns) ≡ list_any (bytes_eq name) ns
found_or_not name n [] = refl
found_or_not name n (m ∷ ns) =
    elim (bytes_eq name m) as (λ v. bytes_eq name m ≡ v → is_some (position_from (bytes_eq name) n (m ∷ ns)) ≡ list_any (bytes_eq name) (m ∷ ns)) [
      | true ↦ λ e. rw e refl
      | false ↦ λ e. rw e (found_or_not name (n + 1) ns)
    ] refl

absent : (name : List ℕ) (n : ℕ) (ns : List (List ℕ)) → list_any (bytes_eq name) ns ≡ false → position_from (bytes_eq name) n ns ≡ None
absent name n [] h = refl
absent name n (m ∷ ns) h =
    elim (bytes_eq name m) as (λ v. bytes_eq name m ≡ v → position_from (bytes_eq name) n (m ∷ ns) ≡ None) [
      | true ↦ λ e. cc
      | false ↦ λ e. rw e (absent name (n + 1) ns (rw e at h))
    ] refl

-- a text that is equal to two makes them equal
equal_both : (q a b : List ℕ) → bytes_eq q a ≡ true → bytes_eq q b ≡ true → bytes_eq a b ≡ true
equal_both q a b e f = (bytes_eq-Decides a b).1 (sym ((bytes_eq-Decides q a).0 e) ∙ (bytes_eq-Decides q b).0 f)

-- a name that stands behind others, none of which it is
pushed : (q name : List ℕ) (n : ℕ) (ns : List (List ℕ)) → list_any (bytes_eq name) ns ≡ false
    → position_from (bytes_eq q) n (ns ++ name ∷ []) ≡ cond (bytes_eq q name) (Some (n + length ns)) (position_from (bytes_eq q) n ns)
pushed q name n [] fresh = ap (λ (at : ℕ). cond (bytes_eq q name) (Some at) None) (omega arith)
pushed q name n (m ∷ ms) fresh =
    elim (bytes_eq q m) as (λ v. bytes_eq q m ≡ v → position_from (bytes_eq q) n (m ∷ (ms ++ name ∷ [])) ≡ cond (bytes_eq q name) (Some (n + length (m ∷ ms))) (position_from (bytes_eq q) n (m ∷ ms))) [
      | true ↦ λ e. rw e (either (bytes_eq q name) refl e)
      | false ↦ λ e. rw e (pushed q name (n + 1) ms (later (bytes_eq name m) fresh) ∙ ap (λ (at : ℕ). cond (bytes_eq q name) (Some at) (position_from (bytes_eq q) (n + 1) ms)) (omega arith))
    ] refl
  where
    later : (v : Bool) → (v || list_any (bytes_eq name) ms) ≡ false → list_any (bytes_eq name) ms ≡ false
    later true h = cc
    later false h = h

    first : (v : Bool) → (v || list_any (bytes_eq name) ms) ≡ false → v ≡ false
    first true h = cc
    first false h = refl

    either : (v : Bool) → bytes_eq q name ≡ v → bytes_eq q m ≡ true → Some n ≡ cond v (Some (n + length (m ∷ ms))) (Some n)
    either false e f = refl
    either true e f = absurd (cc (equal_both q name m e f, first (bytes_eq name m) fresh))

names_more : (users : List User) (u : User) → names (users ++ u ∷ []) ≡ names users ++ u.name ∷ []
names_more [] u = refl
names_more (v ∷ vs) u = ap (λ ns. v.name ∷ ns) (names_more vs u)

as_many_names : (users : List User) → length (names users) ≡ length users
as_many_names [] = refl
as_many_names (v ∷ vs) = ap suc (as_many_names vs)

-- the map and the users go together
pub places_more : {K : Type 0} (text : K → List ℕ) (old new : List (K × ℕ)) (users all : List User) (u : User) (key : K) (place : ℕ) → text key ≡ u.name → list_any (bytes_eq u.name) (names users) ≡ false
    → place ≡ length users → new ≡ insert_entry (order text) old key place → all ≡ users ++ u ∷ [] → (q : List ℕ) → lookup (at text q) old ≡ position_from (bytes_eq q) 0 (names users)
    → lookup (at text q) new ≡ position_from (bytes_eq q) 0 (names all)
places_more text old new users all u key place is fresh last made more q before =
    ap (lookup (at text q)) made
    ∙ lookup-inserted text q key place old
    ∙ ap (λ b. cond b (Some place) (lookup (at text q) old)) (is_eq-slice_cmp q (text key) ∙ ap (bytes_eq q) is)
    ∙ ap (λ o. cond (bytes_eq q u.name) (Some place) o) before
    ∙ ap (λ (at : ℕ). cond (bytes_eq q u.name) (Some at) (position_from (bytes_eq q) 0 (names users))) (omega (arith, last, as_many_names users))
    ∙ sym (pushed q u.name 0 (names users) fresh)
    ∙ ap (position_from (bytes_eq q) 0) (sym (ap names more ∙ names_more users u))

pub distinct_more : (users all : List User) (u : User) → list_any (bytes_eq u.name) (names users) ≡ false → all ≡ users ++ u ∷ [] → IsDistinct bytes_eq (names users) → IsDistinct bytes_eq (names all)
distinct_more users all u fresh more before =
    subst (IsDistinct bytes_eq) (sym (ap names more ∙ names_more users u)) (IsDistinct-push nat_list_eq_equiv (names users) u.name before fresh)

-- ---- names of the grammar

both : (a b : Bool) → (a && b) ≡ true → (a ≡ true) × (b ≡ true)
both true true h = (refl, refl)
both true false h = cc
both false b h = cc

named_push : (ns : List (List ℕ)) (name : List ℕ) → list_all is_user_name ns ≡ true → is_user_name name ≡ true → list_all is_user_name (ns ++ name ∷ []) ≡ true
named_push [] name all is = rw is refl
named_push (n ∷ ns) name all is =
    let parts = both (is_user_name n) (list_all is_user_name ns) all in
    rw parts.0 (named_push ns name parts.1 is)

pub named_more : (users all : List User) (u : User) → is_user_name u.name ≡ true → all ≡ users ++ u ∷ [] → AreNamed users → AreNamed all
named_more users all u is more before =
    subst (λ ns. list_all is_user_name ns ≡ true) (sym (ap names more ∙ names_more users u)) (named_push (names users) u.name before is)

-- a name that is found among them is of the grammar
pub found_named : (name : List ℕ) (n : ℕ) (ns : List (List ℕ)) (at : ℕ) → list_all is_user_name ns ≡ true → position_from (bytes_eq name) n ns ≡ Some at → is_user_name name ≡ true
found_named name n [] at all h = absurd (cc h)
found_named name n (m ∷ ns) at all h =
    let parts = both (is_user_name m) (list_all is_user_name ns) all in
    elim (bytes_eq name m) as (λ v. bytes_eq name m ≡ v → is_user_name name ≡ true) [
      | true ↦ λ e. ap is_user_name ((bytes_eq-Decides name m).0 e) ∙ parts.0
      | false ↦ λ e. found_named name (n + 1) ns at parts.1 (rw e at h)
    ] refl

-- ---- a user that is found by the name

pub none_named : (name password : List ℕ) (n m : ℕ) (users : List User) → position_from (bytes_eq name) n (names users) ≡ None → position_from (has_credentials name password) m users ≡ None
none_named name password n m [] h = refl
none_named name password n m (u ∷ us) h =
    elim (bytes_eq name u.name) as (λ v. bytes_eq name u.name ≡ v → position_from (has_credentials name password) m (u ∷ us) ≡ None) [
      | true ↦ λ e. absurd (cc (rw e at h))
      | false ↦ λ e. rw e (none_named name password (n + 1) (m + 1) us (rw e at h))
    ] refl

none_later : (name password : List ℕ) (m : ℕ) (users : List User) → AllByRecursion (λ y. bytes_eq name y ≡ false) (names users) → position_from (has_credentials name password) m users ≡ None
none_later name password m [] h = refl
none_later name password m (u ∷ us) h = rw h.0 (none_later name password (m + 1) us h.1)

-- the user at the first place of a name is the only one of it
pub the_one_named : (name password : List ℕ) (n m : ℕ) (users : List User) (place : ℕ) (d : User) → position_from (bytes_eq name) n (names users) ≡ Some place → IsDistinct bytes_eq (names users)
    → (k : ℕ) × (place ≡ n + k) × (k < length users) × (position_from (has_credentials name password) m users ≡ cond (bytes_eq password (get_or users k d).password) (Some (m + k)) None)
unfolding IsDistinct
the_one_named name password n m [] place d h distinct = absurd (cc h)
the_one_named name password n m (u ∷ us) place d h distinct = either (bytes_eq name u.name) refl (the_one_named name password (n + 1) (m + 1) us place d)
  where
    here : (a b : Bool) → a ≡ true → position_from (has_credentials name password) (m + 1) us ≡ None → cond (a && b) (Some m) (position_from (has_credentials name password) (m + 1) us) ≡ cond b (Some (m + 0)) None
    here true true e none = ap (λ (k : ℕ). Some k) (omega arith)
    here true false e none = none
    here false b e none = cc

    next : (k : ℕ) → place ≡ n + 1 + k → k < length us → position_from (has_credentials name password) (m + 1) us ≡ cond (bytes_eq password (get_or us k d).password) (Some (m + 1 + k)) None → bytes_eq name u.name ≡ false
        → (k : ℕ) × (place ≡ n + k) × (k < length (u ∷ us)) × (position_from (has_credentials name password) m (u ∷ us) ≡ cond (bytes_eq password (get_or (u ∷ us) k d).password) (Some (m + k)) None)
    next k shift within there e =
        let here : position_from (has_credentials name password) m (u ∷ us) ≡ cond (bytes_eq password (get_or us k d).password) (Some (m + 1 + k)) None = rw e there in
        (suc k, omega (arith, shift), omega (arith, within), here ∙ ap (λ (j : ℕ). cond (bytes_eq password (get_or us k d).password) (Some j) None) (omega arith))

    either : (v : Bool) → bytes_eq name u.name ≡ v
        → (position_from (bytes_eq name) (n + 1) (names us) ≡ Some place → IsDistinct bytes_eq (names us)
        → (k : ℕ) × (place ≡ n + 1 + k) × (k < length us) × (position_from (has_credentials name password) (m + 1) us ≡ cond (bytes_eq password (get_or us k d).password) (Some (m + 1 + k)) None))
        → (k : ℕ) × (place ≡ n + k) × (k < length (u ∷ us)) × (position_from (has_credentials name password) m (u ∷ us) ≡ cond (bytes_eq password (get_or (u ∷ us) k d).password) (Some (m + k)) None)
    either true e later =
        let found : Some n ≡ Some place = sym (rw e refl) ∙ h in
        let is : n ≡ place = cc in
        let same : u.name ≡ name = sym ((bytes_eq-Decides name u.name).0 e) in (
          0,
          omega (arith, is),
          omega arith,
          here (bytes_eq name u.name) (bytes_eq password u.password) e
              (none_later name password (m + 1) us (subst (λ t. AllByRecursion (λ y. bytes_eq t y ≡ false) (names us)) same distinct.0)),
        )
    either false e later = let rest = later (sym (rw e refl) ∙ h) distinct.1 in next rest.0 rest.1 rest.2 rest.3 e

-- the user at the place of a name, by the password
pub named_user : (name password : List ℕ) (users : List User) (place : ℕ) (d : User) → position_from (bytes_eq name) 0 (names users) ≡ Some place → IsDistinct bytes_eq (names users)
    → (place < length users) × (d ≡ get_or users place d → position_from (has_credentials name password) 1 users ≡ cond (bytes_eq password d.password) (Some (place + 1)) None)
named_user name password users place d h distinct =
    let one = the_one_named name password 0 1 users place d h distinct in
    let same : one.0 ≡ place = omega (arith, one.1) in (
      subst (λ k. k < length users) same one.2,
      λ is. one.3
          ∙ ap (λ (k : ℕ). cond (bytes_eq password (get_or users k d).password) (Some (1 + k)) None) same
          ∙ ap (λ (u : User). cond (bytes_eq password u.password) (Some (1 + place)) None) (sym is)
          ∙ ap (λ (k : ℕ). cond (bytes_eq password d.password) (Some k) None) (omega arith),
    )
