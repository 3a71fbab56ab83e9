-- The lines of a file: each ends with LF, and the last may lack it.
use Rattle.std.specs.Prelude.{ℕ, Bool, List, [], ◌∷◌, Option, None, Some, ◌==◌, if◌then◌else◌}
use Rattle.std.specs.List.{slice_split}
use Rattle.std.specs.Option.{option_map}

-- the byte that ends a line
abbrev pub is_line_feed : ℕ → Bool
is_line_feed b = b == 10

-- what stands between the line feeds: a text that ends with one has an empty last part
unfoldable pub lines_of : List ℕ → List (List ℕ)
lines_of text = slice_split is_line_feed text

-- what stands before the first such byte and what stands after it, where it stands somewhere
abbrev pub cut_at : ℕ → List ℕ → Option (List ℕ × List ℕ)
cut_at byte [] = None
cut_at byte (b ∷ bs) = if b == byte then Some ([], bs) else option_map (λ cut. (b ∷ cut.0, cut.1)) (cut_at byte bs)

-- the first line without its line feed, and what stands after that, where there is a line feed
abbrev pub cut_line : List ℕ → Option (List ℕ × List ℕ)
cut_line text = cut_at 10 text
