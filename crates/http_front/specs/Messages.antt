-- The requests of HTTP/1.0 and HTTP/1.1 (RFC 9112).
use Rattle.std.specs.Prelude.{◌≡◌, ℕ, ◌+◌, ◌≤◌, ◌⊎◌, Bool, ◌||◌, List, [], ◌∷◌, length, map, take, drop, Option, None, Some, ◌==◌, nat_lt, nat_le, MatchBool, if◌then◌else◌}
use Rattle.httparse.specs.Grammar.{RequestHead, ReadsRequest}
use Rattle.dsv_base.specs.declared.field.Field.{Field}
use Rattle.http_front.specs.declared.framing.Framing.{Framing}
use Rattle.http_front.specs.declared.framing.Framing.TheVariants.{Sized, Chunked, TooLong, Unframed}
use Rattle.http_front.specs.declared.message_fault.MessageFault.{MessageFault}
use Rattle.http_front.specs.declared.message_fault.MessageFault.TheVariants.{BadMessage, HeadTooLarge, BodyTooLarge}
use Rattle.http_front.specs.declared.request.Request.{Request}
use Rattle.http_front.specs.declared.user.User.{User}
use Rattle.http_front.specs.Chunks.{IsBody}
use Rattle.http_front.specs.Connections.{is_last}
use Rattle.http_front.specs.Fields.{field_of_line}
use Rattle.http_front.specs.Framings.{framing}
use Rattle.http_front.specs.Limits.{most_head_bytes, most_header_lines, most_requests}
use Rattle.http_front.specs.Logins.{login_of}
use Rattle.http_front.specs.Outcomes.{Outcome, Whole, Part, Refused}
use Rattle.http_front.specs.Sections.{head_length, header_lines}

-- ---- heads

-- the bytes are this head and nothing else, with no more fields than a head may have
pub record IsHead (bytes : List ℕ) (head : RequestHead) : Type 0 where
  pub reads : ReadsRequest bytes head []
  pub few : length head.fields ≤ most_header_lines

-- the fields of a head, whose values have no blanks around them
abbrev pub head_fields : RequestHead → List Field
head_fields head = map field_of_line head.fields

-- ---- requests

-- the request is the last of its connection: by its version or its fields, or since it is the last that a connection may have
abbrev pub is_last_of : ℕ → ℕ → List Field → Bool
is_last_of number minor fields = is_last minor fields || (number + 1 == most_requests)

-- the request with this head and this body, after so many others, to a server with these users
abbrev pub request_of : List User → ℕ → RequestHead → List ℕ → Request
request_of users number head body = record {
  method = head.method;
  target = head.target;
  fields = head_fields head;
  login = login_of users (head_fields head);
  body = body;
  last = is_last_of number head.minor (head_fields head);
}

-- a request with a body of so many bytes, after a head of n
abbrev pub sized_outcome : List User → ℕ → RequestHead → ℕ → ℕ → List ℕ → Outcome Request
sized_outcome users number head n size after = if nat_le size (length after) then Whole (request_of users number head (take size after)) (n + size) else Part

-- a request with a body by chunks, after a head of n
abbrev pub chunked_outcome : List User → ℕ → RequestHead → ℕ → Outcome (List ℕ) → Outcome Request
chunked_outcome users number head n (Whole body used) = Whole (request_of users number head body) (n + used)
chunked_outcome users number head n Part = Part
chunked_outcome users number head n (Refused why) = Refused why

-- what a head of n bytes and the bytes after it are
abbrev pub FramingSays : List User → ℕ → RequestHead → ℕ → List ℕ → Framing → Outcome Request → Type 0
FramingSays users number head n after (Sized size) outcome = outcome ≡ sized_outcome users number head n size after
FramingSays users number head n after Chunked outcome = (body : Outcome (List ℕ)) × IsBody after body × (outcome ≡ chunked_outcome users number head n body)
FramingSays users number head n after TooLong outcome = outcome ≡ Refused BodyTooLarge
FramingSays users number head n after Unframed outcome = outcome ≡ Refused BadMessage

-- the text of a head is one, and this follows from its fields
pub record IsMessage (users : List User) (number : ℕ) (text after : List ℕ) (outcome : Outcome Request) : Type 0 where
  pub head : RequestHead
  pub is_head : IsHead text head
  pub says : FramingSays users number head (length text) after (framing (head_fields head)) outcome

-- the text is no head
pub record IsNoHead (text : List ℕ) (outcome : Outcome Request) : Type 0 where
  pub none : (head : RequestHead) → ¬ (IsHead text head)
  pub is : outcome ≡ Refused BadMessage

-- a head that isn't whole
abbrev pub open_head : List ℕ → Outcome Request
open_head bytes = if nat_lt (length bytes) most_head_bytes then Part else Refused HeadTooLarge

-- what the bytes are, where their head ends after so many
abbrev pub HeadSays : List User → ℕ → List ℕ → Option ℕ → Outcome Request → Type 0
HeadSays users number bytes None outcome = outcome ≡ open_head bytes
HeadSays users number bytes (Some n) outcome =
    MatchBool (nat_lt most_header_lines (header_lines (take n bytes)))
    (outcome ≡ Refused HeadTooLarge)
    (IsMessage users number (take n bytes) (drop n bytes) outcome ⊎ IsNoHead (take n bytes) outcome)

-- what the bytes at the front of a connection are, after so many requests
pub record IsFirst (users : List User) (number : ℕ) (bytes : List ℕ) (outcome : Outcome Request) : Type 0 where
  pub says : HeadSays users number bytes (head_length (take most_head_bytes bytes)) outcome

-- ---- connections

-- how a connection's bytes end: after its last request; with a rest that is no whole message; or with a refusal of the message that begins at an offset
pub data End : Type 0 where
  LastGiven : End
  Left : List ℕ → End
  RefusedAt : MessageFault → ℕ → End

-- the end where no further request comes
abbrev pub EndSays : List User → ℕ → ℕ → List ℕ → End → Type 0
EndSays users number at bytes LastGiven = ⊥
EndSays users number at bytes (Left rest) = IsFirst users number bytes Part × (rest ≡ bytes)
EndSays users number at bytes (RefusedAt why offset) = IsFirst users number bytes (Refused why) × (offset ≡ at)

-- after so many requests and bytes the bytes are these requests, one after another, and then come to this end
abbrev pub MessagesFrom : List User → ℕ → ℕ → List ℕ → List Request → End → Type 0
MessagesFrom users number at bytes [] end = EndSays users number at bytes end
MessagesFrom users number at bytes (request ∷ requests) end =
    (n : ℕ) × IsFirst users number bytes (Whole request n)
    × MatchBool request.last ((requests ≡ []) × (end ≡ LastGiven)) (MessagesFrom users (number + 1) (at + n) (drop n bytes) requests end)

-- the requests of a connection's bytes and how they end
abbrev pub Messages : List User → List ℕ → List Request → End → Type 0
Messages users bytes requests end = MessagesFrom users 0 0 bytes requests end
