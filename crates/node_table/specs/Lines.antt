-- The lines that are seen from a place on.
use Rattle.std.specs.Prelude.{ℕ, ◌≡◌, List, Option, Some, IsTrue}
use Rattle.std.specs.Option.{option_map}
use Rattle.rev_nodes.specs.declared.cell.Cell.{Cell}
use Rattle.rev_nodes.specs.declared.line.Line.{Line}
use Rattle.rev_nodes.specs.SoundNodes.{is_from_path}
use Rattle.node_table.specs.Ways.{Name}
use Rattle.node_table.specs.Tables.{Spot, walk}

-- a number with the line of its place
abbrev pub spot_with : ℕ → Line → Spot
spot_with id line = record { id = id; line = line }

-- the line where names lead to from a place
abbrev pub line_seen : List Cell → Spot → List Name → Option Line
line_seen cells spot ns = option_map (λ s. s.line) (walk cells (Some spot) ns)

-- whatever names lead to from this place on, itself included, has a line whose source, if it has one, is a path
abbrev pub ComeFromPaths : List Cell → Spot → Type 0
ComeFromPaths cells spot = (ns : List Name) (s : Spot) → walk cells (Some spot) ns ≡ Some s → IsTrue (is_from_path s.line.source)
