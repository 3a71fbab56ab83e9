-- Names of users and of repositories.
use Rattle.std.specs.Prelude.{ℕ, Bool, ◌&&◌, ◌||◌, not, List, length, ◌==◌, nat_le, codes}
use Rattle.std.specs.List.{list_all}
use Rattle.std.specs.Char.{is_ascii_alphanumeric}
use Rattle.std.specs.Str.{is_utf8, bytes_eq}
use Rattle.dsv_base.specs.Paths.{has_noncharacter}

-- no control byte, no DEL and no colon
abbrev pub is_user_byte : ℕ → Bool
is_user_byte b = nat_le 32 b && not (b == 127) && not (b == 58)

-- the name of a user: 1 to 255 bytes of UTF-8
unfoldable pub is_user_name : List ℕ → Bool
is_user_name name = nat_le 1 (length name) && nat_le (length name) 255 && list_all is_user_byte name && is_utf8 name && not (has_noncharacter name)

-- a letter, a digit, `-`, `_` or `.`
abbrev pub is_repository_byte : ℕ → Bool
is_repository_byte b = is_ascii_alphanumeric b || b == 45 || b == 95 || b == 46

-- the name of a repository: 1 to 64 such bytes, not `.` or `..`
unfoldable pub is_repository_name : List ℕ → Bool
is_repository_name name = nat_le 1 (length name) && nat_le (length name) 64 && list_all is_repository_byte name && not (bytes_eq name (codes ".")) && not (bytes_eq name (codes ".."))
