-- The lines of a text file without their ends, and those that are skipped.
use Rattle.std.specs.Prelude.{ℕ, ◌+◌, ◌-◌, Bool, false, ◌&&◌, ◌||◌, List, [], ◌∷◌, length, take, Option, None, Some, ◌==◌, nat_le, slice_index, if◌then◌else◌}
use Rattle.std.specs.List.{list_all}
use Rattle.dsv_base.specs.Lines.{lines_of}

-- a blank is a space or a tab
abbrev pub is_blank : ℕ → Bool
is_blank b = b == 32 || b == 9

-- the byte that parts the words of a list
abbrev pub is_comma : ℕ → Bool
is_comma b = b == 44

-- without the blanks in front
abbrev pub without_front : List ℕ → List ℕ
without_front [] = []
without_front (b ∷ bs) = if is_blank b then without_front bs else b ∷ bs

-- without the blanks at the end
abbrev pub without_back : List ℕ → List ℕ
without_back [] = []
without_back (b ∷ bs) = if list_all is_blank (b ∷ bs) then [] else b ∷ without_back bs

-- without the blanks around
abbrev pub trimmed : List ℕ → List ℕ
trimmed text = without_back (without_front text)

-- without a CR at the end
abbrev pub without_return : List ℕ → List ℕ
without_return text = if nat_le 1 (length text) && (slice_index text (length text - 1) == 13) then take (length text - 1) text else text

-- a CR belongs to the line feed after it: the last part, which has none, keeps its own
abbrev pub without_returns : List (List ℕ) → List (List ℕ)
without_returns [] = []
without_returns (last ∷ []) = last ∷ []
without_returns (line ∷ next ∷ rest) = without_return line ∷ without_returns (next ∷ rest)

-- the lines without their ends
unfoldable pub file_lines : List ℕ → List (List ℕ)
file_lines text = without_returns (lines_of text)

-- the lines of what is left, if anything is
abbrev pub lines_left : Option (List ℕ) → List (List ℕ)
lines_left None = []
lines_left (Some text) = file_lines text

-- how much is left: more than nothing, where a text is left, if only an empty one
abbrev pub left_size : Option (List ℕ) → ℕ
left_size None = 0
left_size (Some text) = length text + 1

-- a text begins with a byte
abbrev pub begins_with : ℕ → List ℕ → Bool
begins_with byte [] = false
begins_with byte (b ∷ bs) = b == byte

-- blank lines and comments are skipped
abbrev pub is_skipped : List ℕ → Bool
is_skipped line = list_all is_blank line || begins_with 35 line
