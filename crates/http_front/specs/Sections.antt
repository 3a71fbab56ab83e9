-- Lines up to an empty one, as a head has them (RFC 9112, section 2.1) and a trailer section (section 7.1.2).
-- A line ends with LF, and a CR before the LF belongs to the line's end.
use Rattle.std.specs.Prelude.{ℕ, ◌+◌, ◌-◌, Bool, false, ◌&&◌, List, [], ◌∷◌, length, drop, Option, None, Some, ◌==◌, nat_lt, if◌then◌else◌}
use Rattle.std.specs.List.{count_by}
use Rattle.http_front.specs.Limits.{most_head_bytes}
use Rattle.http_front.specs.declared.byte_place.BytePlace.{BytePlace}
use Rattle.http_front.specs.declared.byte_place.BytePlace.TheVariants.{Before, Between, Inside}
use Rattle.http_front.specs.declared.line_section.LineSection.{LineSection}

-- ---- line ends

-- the bytes begin with LF
abbrev pub begins_with_line_feed : List ℕ → Bool
begins_with_line_feed [] = false
begins_with_line_feed (b ∷ bytes) = b == 10

-- how many bytes the line end has that the bytes begin with: 1 for LF, 2 for CR and LF, 0 where there is none
abbrev pub line_end_length : List ℕ → ℕ
line_end_length [] = 0
line_end_length (b ∷ bytes) = if b == 10 then 1 else (if (b == 13) && begins_with_line_feed bytes then 2 else 0)

-- the bytes begin with LF, or with CR and LF
abbrev pub begins_with_line_end : List ℕ → Bool
begins_with_line_end bytes = nat_lt 0 (line_end_length bytes)

-- a CR and nothing after it: an LF may follow
abbrev pub is_return_alone : List ℕ → Bool
is_return_alone [] = false
is_return_alone (b ∷ []) = b == 13
is_return_alone (b ∷ c ∷ bytes) = false

-- the line ends at the front, in bytes
abbrev pub blank_length : List ℕ → ℕ
blank_length [] = 0
blank_length (b ∷ bytes) = if begins_with_line_end (b ∷ bytes) then blank_length bytes + 1 else 0

-- line ends and nothing else, fewer than would be too large a head
abbrev pub is_idle : List ℕ → Bool
is_idle bytes = nat_lt (length bytes) most_head_bytes && blank_length bytes == length bytes

-- ---- sections

-- A section is seen as the bytes in front of its empty line and the bytes of that line: 0 where it hasn't come. A line that
-- isn't ended counts with one byte more, since it needs an LF; a CR alone may become the empty line, and doesn't count.
abbrev pub section_end : ℕ → LineSection
section_end n = record { lines = 0; closing = n }

-- one byte more in front
abbrev pub one_more : LineSection → LineSection
one_more s = record { lines = s.lines + 1; closing = s.closing }

-- where a line goes on after a byte of it
abbrev pub place_after : ℕ → BytePlace
place_after b = if b == 10 then Between else Inside

-- the section of bytes that stand in a line, at a line's beginning, or before a head, whose line ends in front are part of it
abbrev pub section_from : BytePlace → List ℕ → LineSection
section_from Inside [] = record { lines = 1; closing = 0 }
section_from Inside (b ∷ bytes) = one_more (section_from (place_after b) bytes)
section_from Between [] = section_end 0
section_from Between (b ∷ bytes) = if begins_with_line_end (b ∷ bytes) then section_end (line_end_length (b ∷ bytes)) else (if is_return_alone (b ∷ bytes) then section_end 0 else one_more (section_from Inside bytes))
section_from Before [] = section_end 0
section_from Before (b ∷ bytes) = if begins_with_line_end (b ∷ bytes) then one_more (section_from Before bytes) else (if is_return_alone (b ∷ bytes) then section_end 0 else one_more (section_from Inside bytes))

-- ---- heads

-- where a section ends, if it does
abbrev pub section_length : LineSection → Option ℕ
section_length s = if nat_lt 0 s.closing then Some (s.lines + s.closing) else None

-- the bytes of the head at the front, where it is whole: the line ends in front, then all up to the first LF that is
-- followed by a line end, and that line end
unfoldable pub head_length : List ℕ → Option ℕ
head_length bytes = section_length (section_from Before bytes)

-- the byte is LF
abbrev pub is_line_feed_byte : ℕ → Bool
is_line_feed_byte b = b == 10

-- the lines of a whole head between its first line and the empty one
unfoldable pub header_lines : List ℕ → ℕ
header_lines head = count_by is_line_feed_byte (drop (blank_length head) head) - 2
