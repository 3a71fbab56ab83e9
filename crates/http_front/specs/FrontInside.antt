-- What a front holds beside what its clauses say.
use Rattle.std.specs.Prelude.{ℕ, ◌*◌, ◌<◌, ◌≤◌, List, length, drop}
use Rattle.http_front.specs.declared.advance.Progress.{Progress}
use Rattle.http_front.specs.declared.advance.Progress.TheVariants.{InHead}
use Rattle.http_front.specs.declared.phase.Phase.{Phase}
use Rattle.http_front.specs.declared.phase.Phase.TheVariants.{Open, Finished, Stopped}
use Rattle.http_front.specs.declared.byte_place.BytePlace.TheVariants.{Before}
use Rattle.http_front.specs.Advances.{IsProgress}
use Rattle.http_front.specs.Limits.{most_requests, most_message_bytes}

-- an open front may give one request more
abbrev pub IsFew : Phase → ℕ → Type 0
IsFew Open number = number < most_requests
IsFew Finished number = number ≤ most_requests
IsFew (Stopped why) number = number ≤ most_requests

-- the rest begins at start in the bytes; it was read up to there; and the requests and their bytes are bounded
pub record FrontHolds (number at : ℕ) (bytes : List ℕ) (start : ℕ) (phase : Phase) (progress : Progress) : Type 0 where
  pub within : start ≤ length bytes
  pub progress_is : IsProgress (drop start bytes) progress
  pub few : IsFew phase number
  pub bounded : at ≤ number * most_message_bytes

-- nothing was read
abbrev pub unread : Progress
unread = InHead (record { at = 0; place = Before })
