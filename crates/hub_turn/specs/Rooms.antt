-- The rooms of a table, into which its passes come.
use Rattle.std.specs.Prelude.{ℕ, ◌≡◌, List, [], ◌∷◌}
use Rattle.atomic_table.specs.Seated.{TableId}
use Rattle.atomic_table.specs.Table.{Me}
use Rattle.hub_turn.specs.Views.{Idle, SeatView}
use Rattle.hub_turn.specs.Plays.{rest_of}

-- all of one table
abbrev pub Only : TableId → List TableId → Type 0
Only z [] = Unit {0}
Only z (x ∷ xs) = (x ≡ z) × Only z xs

-- the first member of the seat has this number and is before its first call
pub record SplitsNext {S : Type 0} (number count : ℕ) (m : Me S SeatView) : Type 0 where
  pub idle : m.0.stage ≡ Idle
  pub empty : m.1 ≡ []
  pub next : m.0.members ≡ record { number = number; front = m.0.about.history } ∷ rest_of m.0.members
  pub counted : count ≡ m.0.about.passes
