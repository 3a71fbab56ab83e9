-- What labels name, what groups reach, and the users that they hold.
use Rattle.std.specs.Prelude.{ℕ, zero, suc, ◌+◌, Bool, List, [], ◌∷◌, ◌++◌, map, length, Option, None, Some, nat_eq, if◌then◌else◌, slice_index_or}
use Rattle.std.specs.List.{list_any, filter, filter_map, flat_map}
use Rattle.std.specs.Option.{option_or}
use Rattle.std.specs.Str.{bytes_eq}
use Rattle.std.specs.Ordering.{match_ordering, nat_cmp}
use Rattle.std.specs.Cmp.Lexicographic.{slice_cmp}
use Rattle.authz_file.specs.declared.section_entry.SectionEntry.{SectionEntry}
use Rattle.authz_file.specs.Words.{is_user}

-- the place of the last entry with this label, where the first entry is at place n: a later one decides
abbrev pub last_from : ℕ → List SectionEntry → List ℕ → Option ℕ
last_from n [] label = None
last_from n (e ∷ es) label = option_or (last_from (n + 1) es label) (if bytes_eq label e.label then Some n else None)

-- where the entry stands that counts for this label
unfoldable pub place_of_label : List SectionEntry → List ℕ → Option ℕ
place_of_label entries label = last_from 0 entries label

-- what a word names: a definition, unless it is the name of a user
abbrev pub definition_of : List SectionEntry → List ℕ → Option ℕ
definition_of entries word = if is_user word then None else place_of_label entries word

-- per entry the places of the definitions that its words name
unfoldable pub targets : List SectionEntry → List (List ℕ)
targets entries = map (λ e. filter_map (definition_of entries) e.words) entries

-- the places that the entry at this place names
abbrev pub named_at : List (List ℕ) → ℕ → List ℕ
named_at graph place = slice_index_or graph place []

-- the places that are reached from these in at most so many steps, these among them
unfoldable pub reached : List (List ℕ) → ℕ → List ℕ → List ℕ
reached graph zero places = places
reached graph (suc steps) places = places ++ reached graph steps (flat_map (named_at graph) places)

-- no way needs more steps than there are entries
abbrev pub reached_by : List (List ℕ) → List ℕ → List ℕ
reached_by graph places = reached graph (length graph) places

-- a definition that reaches itself. An entry that doesn't count is reached by none
abbrev pub is_circular : List (List ℕ) → ℕ → Bool
is_circular graph place = list_any (nat_eq place) (reached_by graph (named_at graph place))

-- a name put to its place in byte order, once
abbrev pub with_name : List (List ℕ) → List ℕ → List (List ℕ)
with_name [] name = name ∷ []
with_name (n ∷ ns) name = match_ordering (slice_cmp nat_cmp name n) (name ∷ n ∷ ns) (n ∷ ns) (n ∷ with_name ns name)

-- names in byte order, each once
unfoldable pub names_in_order : List (List ℕ) → List (List ℕ)
names_in_order [] = []
names_in_order (name ∷ names) = with_name (names_in_order names) name

-- the users that an entry names by itself
abbrev pub own_users : SectionEntry → List (List ℕ)
own_users entry = filter is_user entry.words

-- the users that the entry at this place names by itself
abbrev pub users_at : List SectionEntry → ℕ → List (List ℕ)
users_at entries place = slice_index_or (map own_users entries) place []

-- all users that the entry at this place names, by itself and by way of groups and aliases
unfoldable pub names_at : List SectionEntry → ℕ → List (List ℕ)
names_at entries place = names_in_order (flat_map (users_at entries) (reached_by (targets entries) (place ∷ [])))
