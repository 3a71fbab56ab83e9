-- The lines of a rules file: without those that are skipped, and each with the lines that continue it.
use Rattle.std.specs.Prelude.{ℕ, ◌+◌, Bool, ◌||◌, not, List, [], ◌∷◌, ◌++◌, Option, if◌then◌else◌}
use Rattle.dsv_base.specs.TextFiles.{begins_with, is_skipped, lines_left, without_front}
use Rattle.authz_file.specs.declared.joined_line.JoinedLine.{JoinedLine}
use Rattle.authz_file.specs.declared.joined_line.JoinedLine.TheVariants.{Head, Body, Stray}

-- it begins with a blank: where it isn't skipped, it continues a line
abbrev pub is_indented : List ℕ → Bool
is_indented line = begins_with 32 line || begins_with 9 line

-- it begins with `[`
abbrev pub begins_section : List ℕ → Bool
begins_section line = begins_with 91 line

-- what a line and those after it add to the line before them
abbrev pub line_adds : List ℕ → List ℕ → List ℕ
line_adds line more = if is_skipped line then more else if is_indented line then 32 ∷ without_front line ++ more else []

-- what the lines that continue a line add to it, each after one blank, up to the next line that begins one
unfoldable pub continued : List (List ℕ) → List ℕ
continued [] = []
continued (line ∷ rest) = line_adds line (continued rest)

-- what a line is: nothing where it is skipped or continues another, which it may where one is `begun`
abbrev pub line_gives : Bool → ℕ → List ℕ → List ℕ → List JoinedLine
line_gives begun number line more =
    if is_skipped line then [] else
    if is_indented line then (if begun then [] else Stray number ∷ []) else
    if begins_section line then Head number line ∷ [] else Body number (line ++ more) ∷ []

-- what a line is, where the lines of this text stand after it
abbrev pub line_before : Bool → ℕ → List ℕ → Option (List ℕ) → List JoinedLine
line_before begun number line after = line_gives begun number line (continued (lines_left after))

-- whether the next line may continue one: not at the start of the file, and not after the line of a section
abbrev pub opens : Bool → List ℕ → Bool
opens begun line = if is_skipped line || is_indented line then begun else not (begins_section line)

-- the lines that aren't skipped, each with those that continue it, numbered from the given number
unfoldable pub joined_lines : Bool → ℕ → List (List ℕ) → List JoinedLine
joined_lines begun number [] = []
joined_lines begun number (line ∷ rest) = line_gives begun number line (continued rest) ++ joined_lines (opens begun line) (number + 1) rest
