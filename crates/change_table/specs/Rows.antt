-- How a table of what changes did last is kept: as a map from the path's text to a row, which holds its path.
use Rattle.std.specs.Prelude.{ℕ, ◌≡◌, Bool, List, map, IsTrue}
use Rattle.std.specs.Option.{option_map}
use Rattle.std.specs.List.{list_all}
use Rattle.std.specs.Str.{bytes_eq}
use Rattle.change_table.specs.declared.row.LastCopy.{LastCopy}
use Rattle.change_table.specs.declared.row.Row.{Row}
use Rattle.change_table.specs.ChangeTables.{LastChanges, ChangeTable}

-- the number and the source of a copy
abbrev pub copy_in : LastCopy → ℕ × (List ℕ × ℕ)
copy_in copy = (copy.number, (copy.source, copy.source_rev))

-- what a row tells
abbrev pub last_in : Row → LastChanges
last_in row = record { copy = option_map copy_in row.copy; delete = row.delete }

-- a row's path, and what it tells
abbrev pub row_in : Row → List ℕ × LastChanges
row_in row = (row.path, last_in row)

-- the table that the entries of a map are, their keys being read as texts
abbrev pub table_in : {K : Type 0} → (K → List ℕ) → List (K × Row) → ChangeTable
table_in text entries = map (λ e. (text e.0, last_in e.1)) entries

-- each key, being read as a text, is the path of its row
abbrev pub are_at_paths : {K : Type 0} → (K → List ℕ) → List (K × Row) → Bool
are_at_paths text entries = list_all (λ e. bytes_eq e.1.path (text e.0)) entries

-- the rows of a map's entries, each with its own path
abbrev pub rows_in : {K : Type 0} → List (K × Row) → ChangeTable
rows_in entries = map (λ e. row_in e.1) entries

-- the entries of a map are the rows of this table, and each key is the path of its row
pub record AreRowsOf {K : Type 0} (text : K → List ℕ) (table : ChangeTable) (entries : List (K × Row)) : Type 0 where
  pub is : table_in text entries ≡ table
  pub named : IsTrue (are_at_paths text entries)
