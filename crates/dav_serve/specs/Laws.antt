-- What holds of all connections.
use Rattle.std.specs.Prelude.{ℕ, ◌≡◌, List, ◌++◌}
use Rattle.http_front.specs.declared.request.Request.{Request}
use Rattle.http_front.specs.declared.user.User.{User}
use Rattle.http_front.specs.Messages.{Messages, End}
use Rattle.dav_serve.specs.Serves.{BeginsWith}

-- requests that the bytes of a connection begin with are the first of all its requests
abbrev pub BeginningsAreFirst : Type 0
BeginningsAreFirst =
    (users : List User) (bytes : List ℕ) (some all : List Request) (end : End)
    → BeginsWith users 0 bytes some → Messages users bytes all end → (more : List Request) × (all ≡ some ++ more)
