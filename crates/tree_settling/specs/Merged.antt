-- Entries of a directory, with what was made of some names.
use Rattle.std.specs.Prelude.{ℕ, ◌≡◌, ◌<◌, ◌≤◌, ◌+◌, List, [], ◌∷◌, Option, None, Some, map, length, take, drop, slice_index_or, IsTrue, IfSome}
use Rattle.std.specs.FinMap.{find, is_sorted}
use Rattle.std.specs.Ordering.{nat_cmp}
use Rattle.std.specs.declared.cmp.Ordering.{Ordering}
use Rattle.std.specs.declared.cmp.Ordering.TheVariants.{Less, Equal, Greater}
use Rattle.std.specs.Cmp.Lexicographic.{slice_cmp}
use Rattle.rev_nodes.specs.declared.cell.Cell.{Cell}
use Rattle.rev_nodes.specs.declared.entry.Entry.{Entry}
use Rattle.rev_nodes.specs.declared.height.Height.{Height}
use Rattle.node_table.specs.Ways.{Name}
use Rattle.node_table.specs.Tables.{pair, child, height_over}

-- texts, which are paths or names, with what was made of each: the number of a cell, or nothing
abbrev pub AllMade : Type 0
AllMade = List (List ℕ × Option ℕ)

-- what was made of a text, if anything was
abbrev pub made_at : AllMade → List ℕ → Option (Option ℕ)
made_at made text = find (slice_cmp nat_cmp) text made

-- what was made counts before what stood there
abbrev pub or_made : Option (Option ℕ) → Option ℕ → Option ℕ
or_made None old = old
or_made (Some new) old = new

-- entries in byte order of the names, where at each name stands what was made of it, and else what stood there
pub record AreMerged (changes : AllMade) (old all : List Entry) : Type 0 where
  pub sorted : IsTrue (is_sorted (slice_cmp nat_cmp) (map pair all))
  pub finds : (n : Name) → child n all ≡ or_made (made_at changes n) (child n old)

-- the entry of what was made of a name
abbrev pub entry_made : Name → Option ℕ → List Entry
entry_made name None = []
entry_made name (Some id) = record { name = name; id = id } ∷ []

-- an entry and what follows it, if a name is behind the entry's
abbrev pub before_by : Ordering → Entry → List Entry → List Entry
before_by Less e rest = []
before_by Equal e rest = []
before_by Greater e rest = e ∷ rest

-- the entries before a name
abbrev pub entries_before : Name → List Entry → List Entry
entries_before name [] = []
entries_before name (e ∷ es) = before_by (slice_cmp nat_cmp name e.name) e (entries_before name es)

-- an entry with all behind it, all behind it, or what is left of these, as a name is before the entry's, that or behind it
abbrev pub behind_by : Ordering → Entry → List Entry → List Entry → List Entry
behind_by Less e es rest = e ∷ es
behind_by Equal e es rest = es
behind_by Greater e es rest = rest

-- the entries behind a name
abbrev pub entries_behind : Name → List Entry → List Entry
entries_behind name [] = []
entries_behind name (e ∷ es) = behind_by (slice_cmp nat_cmp name e.name) e es (entries_behind name es)

-- at this index stands the entry of the name, before it stand the entries before the name, and behind it those behind the name
pub record CutsAt (name : Name) (entries : List Entry) (index : ℕ) : Type 0 where
  pub within : index < length entries
  pub own : (d : Entry) → (slice_index_or entries index d).name ≡ name
  pub before : take index entries ≡ entries_before name entries
  pub behind : drop (index + 1) entries ≡ entries_behind name entries

-- before this index stand the entries before the name, and from it on those behind the name
pub record CutsBefore (name : Name) (entries : List Entry) (index : ℕ) : Type 0 where
  pub within : index ≤ length entries
  pub before : take index entries ≡ entries_before name entries
  pub behind : drop index entries ≡ entries_behind name entries

-- a height, if it is told, is that of these entries among the cells
abbrev pub TellsHeight : List Cell → List Entry → Option Height → Type 0
TellsHeight cells entries height = IfSome height (λ h. h ≡ height_over cells entries)
