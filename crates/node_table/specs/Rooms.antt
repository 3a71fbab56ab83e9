-- A table as its callers see it.
use Rattle.std.specs.Prelude.{ℕ, ◌≡◌, ◌≤◌, List}
use Rattle.rev_nodes.specs.declared.cell.Cell.{Cell}

-- the cells of a table, to which `room` more can be added before memory is taken
pub record RoomyTable : Type 0 where
  pub cells : List Cell
  pub room : ℕ

-- a table of these cells with this room
abbrev pub table_of : List Cell → ℕ → RoomyTable
table_of cells room = record { cells = cells; room = room }

-- the table has its cells, and no less room
pub record KeepsCells (old new : RoomyTable) : Type 0 where
  pub cells : new.cells ≡ old.cells
  pub room : old.room ≤ new.room
