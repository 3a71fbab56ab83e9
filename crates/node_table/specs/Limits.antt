-- How long the ways below a number are.
use Rattle.std.specs.Prelude.{ℕ, suc, ◌≡◌, ◌-◌, nat_le, Bool, true, false, ◌&&◌, List, [], ◌∷◌, Some, length}
use Rattle.rev_nodes.specs.declared.cell.Cell.{Cell}
use Rattle.node_table.specs.Ways.{Name}
use Rattle.node_table.specs.Tables.{reach}

-- a way has at most so many names, and so many bytes with a slash before each
abbrev pub fits : ℕ → ℕ → List Name → Bool
fits levels bytes [] = true
fits levels bytes (n ∷ ns) = nat_le 1 levels && (nat_le (suc (length n)) bytes && fits (levels - 1) (bytes - suc (length n)) ns)

-- each way that leads somewhere from the number is so
abbrev pub AllFit : List Cell → ℕ → ℕ → ℕ → Type 0
AllFit cells levels bytes id = (ns : List Name) (j : ℕ) → reach cells (Some id) ns ≡ Some j → fits levels bytes ns ≡ true

-- a way that leads somewhere from the number has more names than that, or more bytes
pub record HasLong (cells : List Cell) (levels bytes id : ℕ) : Type 0 where
  pub names : List Name
  pub end_ : ℕ
  pub leads : reach cells (Some id) names ≡ Some end_
  pub long : fits levels bytes names ≡ false
