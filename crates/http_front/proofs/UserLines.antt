-- The lines of a users file, one after the other.
use Rattle.std.proofs.Common.{◌≡◌, ℕ, ◌+◌, Bool, true, false, List, [], ◌∷◌, ◌++◌, map, Option, Some, None, Result, Ok, Err, refl, ap, sym, subst, ◌∙◌, append_assoc, append-nil}
use Rattle.std.specs.Prelude.{option_to_list, if◌then◌else◌}
use Rattle.std.specs.List.{cons_option, find}
use Rattle.std.specs.Option.{option_map}
use Rattle.dsv_base.specs.Gives.{Gives}
use Rattle.dsv_base.specs.TextFiles.{file_lines, lines_left, is_skipped}
use Rattle.http_front.specs.declared.user.User.{User}
use Rattle.http_front.specs.declared.users_fault.UsersFault.{UsersFault}
use Rattle.http_front.specs.declared.users_fault.UsersFault.TheVariants.{BadUsers, NoMemory}
use Rattle.http_front.specs.UsersFile.{user_of_line, user_lines, is_refused, with_before, first_refused, all_users, unless_refused, users_of, is_free_users_fault, SaysRefused}

-- ---- the reader's way to the first line that is refused

-- of lines that stand after those of these users
unfoldable pub refused_from : List User → List (ℕ × List ℕ) → Option ℕ
refused_from users [] = None
refused_from users (line ∷ rest) =
    if is_refused users (user_of_line line.1) then Some line.0
    else refused_from (users ++ option_to_list (user_of_line line.1)) rest

consed : {X : Type 0} (o : Option X) (xs : List X) → cons_option o xs ≡ option_to_list o ++ xs
consed None xs = refl
consed (Some x) xs = refl

find-map : {X Y : Type 0} (test : Y → Bool) (f : X → Y) (xs : List X) → find test (map f xs) ≡ option_map f (find (λ x. test (f x)) xs)
find-map test f [] = refl
find-map test f (x ∷ xs) =
    elim (test (f x)) as (λ v. test (f x) ≡ v → find test (map f (x ∷ xs)) ≡ option_map f (find (λ y. test (f y)) (x ∷ xs))) [
      | true ↦ λ e. rw e refl
      | false ↦ λ e. rw e (find-map test f xs)
    ] refl

-- these users and those of the lines in front of it refuse the line
abbrev is_refused_beside : List User → List (ℕ × List ℕ) × (ℕ × List ℕ) → Bool
is_refused_beside users p = is_refused (users ++ all_users p.0) (user_of_line p.1.1)

abbrev number_at : List (ℕ × List ℕ) × (ℕ × List ℕ) → ℕ
number_at p = p.1.0

abbrev behind : ℕ × List ℕ → List (ℕ × List ℕ) × (ℕ × List ℕ) → List (ℕ × List ℕ) × (ℕ × List ℕ)
behind line p = (line ∷ p.0, p.1)

-- one line more in front doesn't change the number
same_number : (line : ℕ × List ℕ) (o : Option (List (ℕ × List ℕ) × (ℕ × List ℕ))) → option_map number_at (option_map (behind line) o) ≡ option_map number_at o
same_number line None = refl
same_number line (Some p) = refl

-- one line more in front is its user more
beside_more : (users : List User) (line : ℕ × List ℕ) (p : List (ℕ × List ℕ) × (ℕ × List ℕ))
    → is_refused_beside users (behind line p) ≡ is_refused_beside (users ++ option_to_list (user_of_line line.1)) p
unfolding all_users
beside_more users line p =
    ap (λ us. is_refused us (user_of_line p.1.1))
    (ap (λ us. users ++ us) (consed (user_of_line line.1) (all_users p.0)) ∙ sym (append_assoc users (option_to_list (user_of_line line.1)) (all_users p.0)))

beside_none : (users : List User) (line : ℕ × List ℕ) → is_refused_beside users ([], line) ≡ is_refused users (user_of_line line.1)
unfolding all_users
beside_none users line = ap (λ us. is_refused us (user_of_line line.1)) (append-nil users)

from_beside : (users : List User) (lines : List (ℕ × List ℕ)) → option_map number_at (find (is_refused_beside users) (with_before lines)) ≡ refused_from users lines
unfolding refused_from
from_beside users [] = refl
from_beside users (line ∷ rest) =
    let more : List User = users ++ option_to_list (user_of_line line.1) in
    let later : option_map number_at (find (is_refused_beside users) (map (behind line) (with_before rest))) ≡ refused_from more rest =
    ap (option_map number_at) (find-map (is_refused_beside users) (behind line) (with_before rest) ∙ ap (option_map (behind line)) (λ i. find (λ p. beside_more users line p i) (with_before rest)))
    ∙ same_number line (find (is_refused_beside more) (with_before rest))
    ∙ from_beside more rest in
    elim (is_refused users (user_of_line line.1)) as (λ v. is_refused users (user_of_line line.1) ≡ v
    → option_map number_at (find (is_refused_beside users) (with_before (line ∷ rest))) ≡ (if v then Some line.0 else refused_from more rest)) [
      | true ↦ λ e. rw (beside_none users line ∙ e) refl
      | false ↦ λ e. rw (beside_none users line ∙ e) later
    ] refl

-- from no users on, it is the first line that is refused
pub first_from : (lines : List (ℕ × List ℕ)) → first_refused lines ≡ refused_from [] lines
unfolding first_refused
first_from lines = from_beside [] lines

-- ---- one line more

-- the users so far with the lines that are left refuse this line, and come to these users
pub record ComesTo (users : List User) (lines : List (ℕ × List ℕ)) (line : Option ℕ) (all : List User) : Type 0 where
  pub refused : refused_from users lines ≡ line
  pub listed : users ++ all_users lines ≡ all

pub skipped : (number : ℕ) (line : List ℕ) (rest : List (List ℕ)) → is_skipped line ≡ true → user_lines number (line ∷ rest) ≡ user_lines (number + 1) rest
skipped number line rest h = rw h refl

pub counted : (number : ℕ) (line : List ℕ) (rest : List (List ℕ)) → is_skipped line ≡ false → user_lines number (line ∷ rest) ≡ (number, line) ∷ user_lines (number + 1) rest
counted number line rest h = rw h refl

-- a line that is skipped
pub after_skipped : (users : List User) (number : ℕ) (line : List ℕ) (rest : List (List ℕ)) (refused : Option ℕ) (all : List User)
    → ComesTo users (user_lines number (line ∷ rest)) refused all → is_skipped line ≡ true → ComesTo users (user_lines (number + 1) rest) refused all
after_skipped users number line rest refused all so h = subst (λ lines. ComesTo users lines refused all) (skipped number line rest h) so

-- a line that is taken
pub after_taken : (users new : List User) (number : ℕ) (line : List ℕ) (rest : List (List ℕ)) (refused : Option ℕ) (all : List User)
    → ComesTo users (user_lines number (line ∷ rest)) refused all → is_skipped line ≡ false → is_refused users (user_of_line line) ≡ false
    → new ≡ users ++ option_to_list (user_of_line line) → ComesTo new (user_lines (number + 1) rest) refused all
unfolding refused_from all_users
after_taken users new number line rest refused all so h fits more =
    let one : ComesTo users ((number, line) ∷ user_lines (number + 1) rest) refused all = subst (λ lines. ComesTo users lines refused all) (counted number line rest h) so in
    let given : ComesTo (users ++ option_to_list (user_of_line line)) (user_lines (number + 1) rest) refused all = record {
      refused = sym (rw fits refl) ∙ one.refused;
      listed = append_assoc users (option_to_list (user_of_line line)) (all_users (user_lines (number + 1) rest)) ∙ ap (λ xs. users ++ xs) (sym (consed (user_of_line line) (all_users (user_lines (number + 1) rest)))) ∙ one.listed;
    } in
    subst (λ xs. ComesTo xs (user_lines (number + 1) rest) refused all) (sym more) given

-- a line that is refused
pub refused_at : (users : List User) (number : ℕ) (line : List ℕ) (rest : List (ℕ × List ℕ)) → is_refused users (user_of_line line) ≡ true → refused_from users ((number, line) ∷ rest) ≡ Some number
unfolding refused_from
refused_at users number line rest bad = rw bad refl

abbrev declined : UsersFault → Result (List User) UsersFault
declined fault = Err fault

pub users_refused : (bytes : List ℕ) (users : List User) (number : ℕ) (line : List ℕ) (rest : List (List ℕ)) (fault : UsersFault)
    → refused_from users (user_lines number (line ∷ rest)) ≡ refused_from [] (user_lines 1 (file_lines bytes)) → is_skipped line ≡ false
    → SaysRefused number (is_refused users (user_of_line line)) fault → Gives is_free_users_fault (declined fault) (users_of bytes)
unfolding users_of
users_refused bytes users number line rest (BadUsers other) so h says =
    let here : refused_from users (user_lines number (line ∷ rest)) ≡ Some number = ap (refused_from users) (counted number line rest h) ∙ refused_at users number line (user_lines (number + 1) rest) says.1 in
    ap (unless_refused (all_users (user_lines 1 (file_lines bytes)))) (first_from (user_lines 1 (file_lines bytes)) ∙ sym so ∙ here) ∙ ap (λ (n : ℕ). declined (BadUsers n)) (sym says.0)
users_refused bytes users number line rest NoMemory so h says = tt

-- no line is left
pub users_taken : (bytes : List ℕ) (users : List User) (left : Option (List ℕ)) (number : ℕ) → left ≡ None
    → ComesTo users (user_lines number (lines_left left)) (refused_from [] (user_lines 1 (file_lines bytes))) (all_users (user_lines 1 (file_lines bytes))) → users_of bytes ≡ Ok users
unfolding users_of refused_from all_users
users_taken bytes users (Some text) number none so = absurd (cc none)
users_taken bytes users None number none so =
    ap (unless_refused (all_users (user_lines 1 (file_lines bytes)))) (first_from (user_lines 1 (file_lines bytes)) ∙ sym so.refused) ∙ ap (λ (all : List User). Ok all) (sym so.listed ∙ append-nil users)
