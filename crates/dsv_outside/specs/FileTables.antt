-- Files that are told: a list of names with bytes.
use Rattle.std.specs.Prelude.{ℕ, List, [], ◌∷◌, length, nat_le, Option, None, Some, if◌then◌else◌, option_and_then}
use Rattle.std.specs.Str.{bytes_eq}

-- the most bytes of a file that can be read
abbrev pub most_file_bytes : ℕ
most_file_bytes = 268435456

-- what stands under a name; where the name stands twice, the first pair counts
unfoldable pub file_named : List (List ℕ × List ℕ) → List ℕ → Option (List ℕ)
file_named [] name = None
file_named (file ∷ files) name = if bytes_eq file.0 name then Some file.1 else file_named files name

-- a text, unless it is too long to be read
abbrev pub readable_text : List ℕ → Option (List ℕ)
readable_text text = if nat_le (length text) most_file_bytes then Some text else None

-- what a read of a name can give: none where nothing stands there, and where it is too long
unfoldable pub text_named : List (List ℕ × List ℕ) → List ℕ → Option (List ℕ)
text_named files name = option_and_then readable_text (file_named files name)
