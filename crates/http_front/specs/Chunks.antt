-- Bodies by chunks (RFC 9112, section 7.1).
use Rattle.std.specs.Prelude.{◌≡◌, ℕ, ◌+◌, ◌≤◌, ◌<◌, ◌⊎◌, List, [], ◌∷◌, ◌++◌, length, take, drop, Option, None, Some, ◌==◌, nat_lt, if◌then◌else◌}
use Rattle.httparse.specs.Grammar.{ChunkLine, print_chunk_line, chunk_size, ReadsChunkLine, HasNoChunkLine, NeverHasChunkLine, MayBecomeChunkLine}
use Rattle.http_front.specs.declared.byte_place.BytePlace.TheVariants.{Between}
use Rattle.http_front.specs.declared.size_line.SizeLine.{SizeLine}
use Rattle.http_front.specs.declared.size_line.SizeLine.TheVariants.{Line, Unended, Unreadable}
use Rattle.http_front.specs.declared.message_fault.MessageFault.TheVariants.{BadMessage, HeadTooLarge, BodyTooLarge}
use Rattle.http_front.specs.Limits.{most_body_bytes, most_encoded_bytes, most_line_bytes, most_trailer_bytes}
use Rattle.http_front.specs.Outcomes.{Outcome, Whole, Part, Refused}
use Rattle.http_front.specs.declared.line_section.LineSection.{LineSection}
use Rattle.http_front.specs.Sections.{section_from}

-- ---- size lines

-- the bytes begin with a size line of so many bytes that says this size; with a part of one; or with none, whatever follows.
-- A size line that isn't whole in its first 1,024 bytes is none.
abbrev pub IsSizeLine : List ℕ → SizeLine → Type 0
IsSizeLine bytes (Line n size) = (l : ChunkLine) × (rest : List ℕ) × ReadsChunkLine (take most_line_bytes bytes) l rest × (n ≡ length (print_chunk_line l)) × (size ≡ chunk_size l)
IsSizeLine bytes Unended = HasNoChunkLine (take most_line_bytes bytes) × MayBecomeChunkLine (take most_line_bytes bytes) × (length bytes < most_line_bytes)
IsSizeLine bytes Unreadable = HasNoChunkLine (take most_line_bytes bytes) × (NeverHasChunkLine (take most_line_bytes bytes) ⊎ (most_line_bytes ≤ length bytes))

-- ---- chunks

-- what comes after a chunk's data: nothing if it is CR and LF
abbrev pub after_data : List ℕ → Option (Outcome (List ℕ))
after_data [] = Some Part
after_data (b ∷ []) = if b == 13 then Some Part else Some (Refused BadMessage)
after_data (b ∷ c ∷ bytes) = if b == 13 then (if c == 10 then None else Some (Refused BadMessage)) else Some (Refused BadMessage)

-- what comes after the size line of n bytes of the last chunk: trailer lines, which are dropped, and an empty line
abbrev pub after_last : List ℕ → ℕ → LineSection → Outcome (List ℕ)
after_last body n s = if nat_lt most_trailer_bytes s.lines then Refused HeadTooLarge else (if nat_lt 0 s.closing then Whole body (n + s.lines + s.closing) else Part)

-- what the bytes at a size line come to, after chunks of this body: nothing if they begin with a whole chunk, after which it goes on
abbrev pub chunk_step : List ℕ → SizeLine → List ℕ → Option (Outcome (List ℕ))
chunk_step body (Line n size) bytes =
    if size == 0 then Some (after_last body n (section_from Between (drop n bytes)))
    else (if nat_lt most_body_bytes (length body + size) then Some (Refused BodyTooLarge)
    else after_data (drop (n + size) bytes))
chunk_step body Unended bytes = Some Part
chunk_step body Unreadable bytes = Some (Refused BadMessage)

-- the bytes of a chunk: its size line, its data, CR and LF
abbrev pub chunk_length : ℕ → ℕ → ℕ
chunk_length n size = n + size + 2

-- the bytes begin with whole chunks, whose size lines have these lengths and say these sizes. They have so many bytes, and make
-- this body together with what was before them
abbrev pub AreChunks : List (ℕ × ℕ) → List ℕ → List ℕ → List ℕ → ℕ → Type 0
AreChunks [] before bytes body used = (before ≡ body) × (used ≡ 0)
AreChunks (c ∷ cs) before bytes body used =
    (left : ℕ) × (used ≡ chunk_length c.0 c.1 + left)
    × IsSizeLine bytes (Line c.0 c.1) × (chunk_step before (Line c.0 c.1) bytes ≡ None)
    × AreChunks cs (before ++ take c.1 (drop c.0 bytes)) (drop (chunk_length c.0 c.1) bytes) body left

-- whole chunks at the front make this body, and have so many bytes
pub record HasChunks (bytes body : List ℕ) (used : ℕ) : Type 0 where
  pub chunks : List (ℕ × ℕ)
  pub are : AreChunks chunks [] bytes body used

-- no further whole chunk comes: after chunks of this body the bytes come to this
pub record EndsBody (body bytes : List ℕ) (outcome : Outcome (List ℕ)) : Type 0 where
  pub line : SizeLine
  pub is_line : IsSizeLine bytes line
  pub ends : chunk_step body line bytes ≡ Some outcome

-- a body with so many bytes more in front of it
abbrev pub placed_after : ℕ → Outcome (List ℕ) → Outcome (List ℕ)
placed_after used (Whole body n) = Whole body (used + n)
placed_after used Part = Part
placed_after used (Refused why) = Refused why

-- all whole chunks at the front, and what the bytes after them come to
pub record IsContent (bytes : List ℕ) (outcome : Outcome (List ℕ)) : Type 0 where
  pub body : List ℕ
  pub used : ℕ
  pub ending : Outcome (List ℕ)
  pub chunks : HasChunks bytes body used
  pub ends : EndsBody body (drop used bytes) ending
  pub is : outcome ≡ placed_after used ending

-- a part that is longer than a body by chunks may be is refused
abbrev pub within_encoded_limit : List ℕ → Outcome (List ℕ) → Outcome (List ℕ)
within_encoded_limit bytes (Whole body n) = Whole body n
within_encoded_limit bytes Part = if nat_lt most_encoded_bytes (length bytes) then Refused BodyTooLarge else Part
within_encoded_limit bytes (Refused why) = Refused why

-- the body by chunks at the front, which has its limit
pub record IsBody (bytes : List ℕ) (outcome : Outcome (List ℕ)) : Type 0 where
  pub content : Outcome (List ℕ)
  pub is_content : IsContent (take most_encoded_bytes bytes) content
  pub is : outcome ≡ within_encoded_limit bytes content
