-- The users file.
use Rattle.std.specs.Prelude.{ℕ, ◌≡◌, ⊤, IsTrue, Bool, true, false, ◌&&◌, ◌||◌, not, nat_le, List, [], ◌∷◌, length, map, Option, None, Some, Result, Ok, Err, if◌then◌else◌}
use Rattle.std.specs.List.{filter, filter_map, find, list_any, list_all, enumerate_from}
use Rattle.std.specs.Option.{option_map}
use Rattle.std.specs.Str.{bytes_eq}
use Rattle.dsv_base.specs.Lines.{cut_at}
use Rattle.dsv_base.specs.Names.{is_user_name}
use Rattle.dsv_base.specs.TextFiles.{file_lines, is_skipped}
use Rattle.http_front.specs.declared.user.User.{User}
use Rattle.http_front.specs.declared.users_fault.UsersFault.{UsersFault}
use Rattle.http_front.specs.declared.users_fault.UsersFault.TheVariants.{BadUsers, NoMemory}

-- the most users that a users file may have
abbrev pub most_users : ℕ
most_users = 10000

-- the most bytes that a password may have
abbrev pub most_password_bytes : ℕ
most_password_bytes = 255

-- ---- one line

-- the user of this name and this password, if they can be a user's
abbrev pub user_of_pair : Option (List ℕ × List ℕ) → Option User
user_of_pair None = None
user_of_pair (Some pair) = if is_user_name pair.0 && nat_le (length pair.1) most_password_bytes then Some (record { name = pair.0; password = pair.1 }) else None

-- the user of a line, NAME:PASSWORD, split at the first colon
abbrev pub user_of_line : List ℕ → Option User
user_of_line line = user_of_pair (cut_at 58 line)

-- the lines that aren't skipped, each with its number; all lines are counted
abbrev pub user_lines : ℕ → List (List ℕ) → List (ℕ × List ℕ)
user_lines number lines = filter (λ line. not (is_skipped line.1)) (enumerate_from number lines)

-- ---- all lines

-- the names of the users, in their order
abbrev pub names : List User → List (List ℕ)
names users = map (λ u. u.name) users

-- each user has a name of the users grammar
abbrev pub AreNamed : List User → Type 0
AreNamed users = IsTrue (list_all is_user_name (names users))

-- after these users a line is refused that is no user's, that has the name of one of them, or that is one too many
abbrev pub is_refused : List User → Option User → Bool
is_refused users None = true
is_refused users (Some u) = nat_le most_users (length users) || list_any (bytes_eq u.name) (names users)

-- the users of these lines
unfoldable pub all_users : List (ℕ × List ℕ) → List User
all_users lines = filter_map (λ line. user_of_line line.1) lines

-- each item together with those in front of it
abbrev pub with_before : {X : Type 0} → List X → List (List X × X)
with_before [] = []
with_before (x ∷ xs) = ([], x) ∷ map (λ p. (x ∷ p.0, p.1)) (with_before xs)

-- after the users of the lines in front of it the line is refused
abbrev pub is_refused_there : List (ℕ × List ℕ) × (ℕ × List ℕ) → Bool
is_refused_there p = is_refused (all_users p.0) (user_of_line p.1.1)

-- the number of the first line that is refused
unfoldable pub first_refused : List (ℕ × List ℕ) → Option ℕ
first_refused lines = option_map (λ p. p.1.0) (find is_refused_there (with_before lines))

-- these users, unless a line is refused
abbrev pub unless_refused : List User → Option ℕ → Result (List User) UsersFault
unless_refused users None = Ok users
unless_refused users (Some number) = Err (BadUsers number)

-- the users of a users file, or the first line that is refused
unfoldable pub users_of : List ℕ → Result (List User) UsersFault
users_of bytes = unless_refused (all_users (user_lines 1 (file_lines bytes))) (first_refused (user_lines 1 (file_lines bytes)))

-- the fault is free: want of memory
abbrev pub is_free_users_fault : UsersFault → Bool
is_free_users_fault (BadUsers number) = false
is_free_users_fault NoMemory = true

-- the line is refused with this number, or memory is wanted
abbrev pub SaysRefused : ℕ → Bool → UsersFault → Type 0
SaysRefused number refused (BadUsers line) = (line ≡ number) × (refused ≡ true)
SaysRefused number refused NoMemory = ⊤
