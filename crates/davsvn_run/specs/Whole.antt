-- What a run of `pipe` needs of its inputs to be done.
use Rattle.std.specs.Prelude.{ℕ, ◌≡◌, ⊤, true, List, Option, None, Some}
use Rattle.authz_file.specs.declared.rules.Rules.{Rules}
use Rattle.http_front.specs.declared.request.Request.{Request}
use Rattle.http_front.specs.declared.user.User.{User}
use Rattle.http_front.specs.Messages.{Messages, End, LastGiven, Left, RefusedAt}
use Rattle.http_front.specs.Sections.{is_idle}
use Rattle.rev_nodes.specs.Trees.{Repository}
use Rattle.davsvn_run.specs.Commands.{FileNames}
use Rattle.davsvn_run.specs.Opening.{Opens}
use Rattle.davsvn_run.specs.Worlds.{Contents}

-- a connection whose bytes end so has nothing left to be answered: its last request was given, or what is left is line
-- ends alone
abbrev pub IsDone : End → Type 0
IsDone LastGiven = ⊤
IsDone (Left rest) = is_idle rest ≡ true
IsDone (RefusedAt why offset) = ⊥

-- the input is whole requests, and nothing else up to the last one
abbrev pub IsWhole : List User → List ℕ → Type 0
IsWhole users input =
    (requests : List Request) × (end : End) × Messages users input requests end × IsDone end

-- what the files hold and what the source has left are told; the three files are of their forms, and the input is
-- whole
abbrev pub AreWhole : Contents → Option (List ℕ) → FileNames → Type 0
AreWhole None left names = ⊥
AreWhole (Some files) None names = ⊥
AreWhole (Some files) (Some input) names =
    (repository : Repository) × (rules : Rules) × (users : List User)
    × Opens (Some files) names repository rules users × IsWhole users input
