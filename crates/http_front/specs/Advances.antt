-- Messages that were read in part.
use Rattle.std.specs.Prelude.{◌≡◌, ℕ, ◌≤◌, List, length, take, drop, Some, false, nat_lt}
use Rattle.http_front.specs.declared.advance.Advance.{Advance}
use Rattle.http_front.specs.declared.advance.Advance.TheVariants.{Done, Needs, Rejects}
use Rattle.http_front.specs.declared.advance.Progress.{Progress}
use Rattle.http_front.specs.declared.advance.Progress.TheVariants.{InHead, InBody, InChunks}
use Rattle.http_front.specs.declared.framing.Framing.{Framing}
use Rattle.http_front.specs.declared.framing.Framing.TheVariants.{Sized, Chunked}
use Rattle.http_front.specs.declared.head.Head.{Head}
use Rattle.http_front.specs.declared.byte_place.BytePlace.TheVariants.{Before}
use Rattle.http_front.specs.declared.request.Request.{Request}
use Rattle.http_front.specs.declared.user.User.{User}
use Rattle.http_front.specs.Framings.{framing}
use Rattle.http_front.specs.Heads.{IsRead}
use Rattle.http_front.specs.Limits.{most_head_bytes, most_header_lines, most_encoded_bytes}
use Rattle.http_front.specs.Logins.{login_of}
use Rattle.http_front.specs.Messages.{IsFirst, is_last_of}
use Rattle.http_front.specs.Outcomes.{Outcome, Whole, Part, Refused}
use Rattle.http_front.specs.Readings.{ReadsChunks}
use Rattle.http_front.specs.Scans.{IsScanned}
use Rattle.http_front.specs.Sections.{head_length, header_lines}

-- the request with the parts of this head and with this body
abbrev pub request_with : List User → ℕ → Head → List ℕ → Request
request_with users number head body = record {
  method = head.method;
  target = head.target;
  fields = head.fields;
  login = login_of users head.fields;
  body = body;
  last = is_last_of number head.minor head.fields;
}

-- the bytes begin with this head, within the limits
pub record HasHead (bytes : List ℕ) (head : Head) : Type 0 where
  pub ends : head_length (take most_head_bytes bytes) ≡ Some head.len
  pub fits : head.len ≤ length bytes
  pub few : nat_lt most_header_lines (header_lines (take head.len bytes)) ≡ false
  pub read : IsRead (take head.len bytes) head

-- the bytes begin with this head, whose fields frame the body so
pub record HasFramed (bytes : List ℕ) (head : Head) (how : Framing) : Type 0 where
  pub head_is : HasHead bytes head
  pub framing_is : framing head.fields ≡ how

-- the message at the front was read up to there
abbrev pub IsProgress : List ℕ → Progress → Type 0
IsProgress bytes (InHead scan) = IsScanned Before (take most_head_bytes bytes) scan
IsProgress bytes (InBody head size) = HasFramed bytes head (Sized size)
IsProgress bytes (InChunks head chunks) = HasFramed bytes head Chunked × ReadsChunks (take most_encoded_bytes (drop head.len bytes)) chunks

-- what the bytes at the front are, whoever the users are and however many requests came before
abbrev pub IsAlways : List ℕ → (List User → ℕ → Outcome Request) → Type 0
IsAlways bytes outcome = (users : List User) (number : ℕ) → IsFirst users number bytes (outcome users number)

-- what reading on says of the bytes
abbrev pub AdvanceSays : List ℕ → Advance → Type 0
AdvanceSays bytes (Done head body n) = IsAlways bytes (λ users number. Whole (request_with users number head body) n)
AdvanceSays bytes (Needs progress) = IsAlways bytes (λ users number. Part) × IsProgress bytes progress
AdvanceSays bytes (Rejects why) = IsAlways bytes (λ users number. Refused why)
