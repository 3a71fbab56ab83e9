-- What stands in a line: its key and its value, names, lists of names, and access values.
use Rattle.std.specs.Prelude.{ℕ, ◌+◌, Bool, false, ◌||◌, not, List, [], ◌∷◌, map, take, drop, position, Option, None, Some, ◌==◌, codes, if◌then◌else◌}
use Rattle.std.specs.List.{list_all, slice_split}
use Rattle.std.specs.Str.{bytes_eq}
use Rattle.dsv_base.specs.TextFiles.{begins_with, is_comma, trimmed}
use Rattle.authz_file.specs.declared.right.Right.{Right}
use Rattle.authz_file.specs.declared.right.Right.TheVariants.{No, Read, Write}
use Rattle.authz_file.specs.declared.who.Who.{Who}
use Rattle.authz_file.specs.declared.who.Who.TheVariants.{All, LoggedIn, Anonymous, Word}

-- `=` or `:`
abbrev pub is_separator : ℕ → Bool
is_separator b = b == 61 || b == 58

-- key and value stand around the first separator, and the key isn't empty
abbrev pub keyed : List ℕ → List ℕ → Option (List ℕ × List ℕ)
keyed [] value = None
keyed (b ∷ bs) value = Some (b ∷ bs, value)

-- key and value of a text whose first separator stands at this place
abbrev pub parted : List ℕ → Option ℕ → Option (List ℕ × List ℕ)
parted text None = None
parted text (Some place) = keyed (trimmed (take place text)) (trimmed (drop (place + 1) text))

-- key and value of a line: what stands before its first separator and after it, without the blanks around them
unfoldable pub key_value : List ℕ → Option (List ℕ × List ℕ)
key_value text = parted text (position is_separator text)

-- `@`, `&`, `~` or `$`
abbrev pub is_sigil : ℕ → Bool
is_sigil b = b == 64 || b == 38 || b == 126 || b == 36

-- the name of a user is any text that isn't empty and begins with none of these
abbrev pub is_user : List ℕ → Bool
is_user [] = false
is_user (b ∷ bs) = not (is_sigil b)

-- a word is the name of a user, or `@` and the name of a group, or `&` and that of an alias
abbrev pub is_word : List ℕ → Bool
is_word text = is_user text || begins_with 64 text || begins_with 38 text

-- the items of a list, which may be empty
abbrev pub list_items : List ℕ → List (List ℕ)
list_items [] = []
list_items (b ∷ bs) = map trimmed (slice_split is_comma (b ∷ bs))

-- the items, where each of them is a word
abbrev pub words_if : List (List ℕ) → Option (List (List ℕ))
words_if items = if list_all is_word items then Some items else None

-- what a group holds
unfoldable pub words_of : List ℕ → Option (List (List ℕ))
words_of value = words_if (list_items value)

-- a principal may stand after `~`
abbrev pub is_negated : List ℕ → Bool
is_negated key = begins_with 126 key

-- the principal of a key: what stands after `~`, or all of it
abbrev pub principal_of : List ℕ → List ℕ
principal_of key = if is_negated key then drop 1 key else key

-- whom a principal names: everyone, all who are logged in, all who aren't, or a user, a group or an alias
unfoldable pub who_of : List ℕ → Option Who
who_of principal =
    if bytes_eq principal (codes "*") then Some All else
    if bytes_eq principal (codes "$authenticated") then Some LoggedIn else
    if bytes_eq principal (codes "$anonymous") then Some Anonymous else
    if is_word principal then Some Word else None

-- the words of a principal: itself, where it is one
abbrev pub own_words : Who → List ℕ → List (List ℕ)
own_words All principal = []
own_words LoggedIn principal = []
own_words Anonymous principal = []
own_words Word principal = principal ∷ []

-- what an access value gives: nothing where it is empty, `r` or `rw`
unfoldable pub right_of : List ℕ → Option Right
right_of value =
    if bytes_eq value (codes "") then Some No else
    if bytes_eq value (codes "r") then Some Read else
    if bytes_eq value (codes "rw") then Some Write else None
