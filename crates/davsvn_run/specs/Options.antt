-- The options of a command: they stand at the front of its words, each as its name and, where it takes
-- one, its value as the next word.
use Rattle.std.specs.Prelude.{ℕ, Bool, false, ◌||◌, List, [], ◌∷◌, Option, None, Some, is_some, codes, if◌then◌else◌}
use Rattle.std.specs.Str.{bytes_eq}
use Rattle.davsvn_run.specs.declared.verb.Verb.{Verb}
use Rattle.davsvn_run.specs.declared.verb.Verb.TheVariants.{Pipe, AccessOf, Serve}

-- an option with a value
abbrev pub takes_value : Verb → List ℕ → Bool
takes_value Pipe name =
    bytes_eq name (codes "--script") || bytes_eq name (codes "--rules") || bytes_eq name (codes "--users")
takes_value AccessOf name =
    bytes_eq name (codes "--rules") || bytes_eq name (codes "--repos")
    || bytes_eq name (codes "--user") || bytes_eq name (codes "--is")
takes_value Serve name =
    bytes_eq name (codes "--script") || bytes_eq name (codes "--rules") || bytes_eq name (codes "--users")
    || bytes_eq name (codes "--listen") || bytes_eq name (codes "--workers") || bytes_eq name (codes "--each")

-- an option without one
abbrev pub stands_alone : Verb → List ℕ → Bool
stands_alone Pipe name = false
stands_alone AccessOf name = bytes_eq name (codes "--recursive")
stands_alone Serve name = false

-- the options that are given, by name and value, in their order
abbrev pub Given : Type 0
Given = List (List ℕ × List ℕ)

-- one option more, at the front of what was read
abbrev pub with_option : List ℕ → List ℕ → Given × List (List ℕ) → Given × List (List ℕ)
with_option name value read = ((name, value) ∷ read.0, read.1)

-- the options at the front of the words, and the words after them; the value of one that takes none is
-- empty. A name that is no option's, or whose value is missing, is a word after them
unfoldable pub read_options : Verb → List (List ℕ) → Given × List (List ℕ)
read_options verb [] = ([], [])
read_options verb (word ∷ []) = if stands_alone verb word then ((word, []) ∷ [], []) else ([], word ∷ [])
read_options verb (word ∷ next ∷ rest) =
    if stands_alone verb word then with_option word [] (read_options verb (next ∷ rest)) else
    if takes_value verb word then with_option word next (read_options verb rest) else ([], word ∷ next ∷ rest)

-- the value of the option of this name, where it is given
unfoldable pub value_of : List ℕ → Given → Option (List ℕ)
value_of name [] = None
value_of name (option ∷ given) = if bytes_eq option.0 name then Some option.1 else value_of name given

-- an option is given twice
unfoldable pub has_double : Given → Bool
has_double [] = false
has_double (option ∷ given) = is_some (value_of option.0 given) || has_double given
