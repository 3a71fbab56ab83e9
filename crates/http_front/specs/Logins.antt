-- Who the fields of a request say that it comes from: the field Authorization (RFC 9110, section 11.6.2)
-- under the scheme Basic (RFC 7617).
use Rattle.std.specs.Prelude.{ℕ, ⊤, IsTrue, Bool, ◌&&◌, List, codes, Option, None, Some, Result, Ok, Err, if◌then◌else◌}
use Rattle.std.specs.List.{position_from}
use Rattle.std.specs.Option.{option_and_then}
use Rattle.std.specs.Str.{bytes_eq, str_eq_ignore_ascii_case}
use Rattle.base64.specs.Engines.{standard}
use Rattle.base64.specs.GeneralPurpose.{decoded_of}
use Rattle.dsv_base.specs.declared.field.Field.{Field}
use Rattle.dsv_base.specs.Lines.{cut_at}
use Rattle.dsv_base.specs.Names.{is_user_name}
use Rattle.http_front.specs.declared.field_fault.FieldFault.{FieldFault}
use Rattle.http_front.specs.declared.login.Login.{Login}
use Rattle.http_front.specs.declared.login.Login.TheVariants.{Nobody, User, Wrong}
use Rattle.http_front.specs.declared.user.User as user
use Rattle.http_front.specs.Fields.{field_named}

-- what stands after the scheme, where that is Basic, in any case of letters
abbrev pub after_basic : List ℕ × List ℕ → Option (List ℕ)
after_basic words = if str_eq_ignore_ascii_case words.0 (codes "basic") then Some words.1 else None

-- what stands after the scheme Basic and one space
abbrev pub token_of : List ℕ → Option (List ℕ)
token_of value = option_and_then after_basic (cut_at 32 value)

-- name and password: the token is strict base64 (RFC 4648, section 4) of both with the first colon between
abbrev pub credentials_of : List ℕ → Option (List ℕ × List ℕ)
credentials_of value = option_and_then (cut_at 58) (option_and_then (decoded_of standard) (token_of value))

-- the user has this name and this password
abbrev pub has_credentials : List ℕ → List ℕ → user.User → Bool
has_credentials name password u = bytes_eq name u.name && bytes_eq password u.password

-- the number of the user with this name and this password: its place, from 1
abbrev pub user_number : List user.User → List ℕ → List ℕ → Option ℕ
user_number users name password = position_from (has_credentials name password) 1 users

-- the user of this name and number, if there is one
abbrev pub as_user : List ℕ → Option ℕ → Login
as_user name None = Wrong
as_user name (Some number) = User (record { number = number; name = name })

-- the user that the credentials are of
abbrev pub login_with : List user.User → Option (List ℕ × List ℕ) → Login
login_with users None = Wrong
login_with users (Some pair) = as_user pair.0 (user_number users pair.0 pair.1)

-- the user that the value of the field Authorization is the credentials of, if there is one
abbrev pub login_by : List user.User → Result (Option (List ℕ)) FieldFault → Login
login_by users (Ok None) = Nobody
login_by users (Ok (Some value)) = login_with users (credentials_of value)
login_by users (Err fault) = Wrong

-- without a field Authorization nobody; with one, the user that it names by that user's password; else it is wrong
unfoldable pub login_of : List user.User → List Field → Login
login_of users fields = login_by users (field_named (codes "authorization") fields)

-- where a request comes from a user, the name is one of the users grammar
abbrev pub IsNamed : Login → Type 0
IsNamed Nobody = ⊤
IsNamed (User person) = IsTrue (is_user_name person.name)
IsNamed Wrong = ⊤
