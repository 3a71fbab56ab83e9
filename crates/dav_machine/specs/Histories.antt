-- The history of the machine: what was done to its state, in order.
use Rattle.std.specs.Prelude.{ℕ, ◌+◌, Bool, true, false, List, [], ◌∷◌, ◌++◌, ◌==◌, ◌≡◌}
use Rattle.std.specs.List.{filter}
use Rattle.dav_machine.specs.declared.effect.Effect.{Effect}
use Rattle.dav_machine.specs.declared.event.Event.{Event}
use Rattle.dav_machine.specs.States.{State}

-- an event, and the name of its user
pub record HistoryEntry : Type 0 where
  pub event : Event
  pub name : List ℕ

-- what an effect makes of a state, by the entry that it stands in, which tells who made it, when and by
-- which pass; as yet there are no effects
abbrev pub stepped : Effect → State → HistoryEntry → State
stepped effect state entry = elim effect [ ]

-- the state after one more entry
unfoldable pub step : State → HistoryEntry → State
step state entry = stepped entry.event.effect state entry

-- the state after these entries
abbrev pub replay : State → List HistoryEntry → State
replay state [] = state
replay state (entry ∷ entries) = replay (step state entry) entries

-- the entry is one of the pass
abbrev pub is_of : ℕ → HistoryEntry → Bool
is_of pass entry = entry.event.pass == pass

-- the entries of a pass
abbrev pub own : ℕ → List HistoryEntry → List HistoryEntry
own pass entries = filter (is_of pass) entries

-- the later history goes on from the earlier one
abbrev pub IsPrefix : List HistoryEntry → List HistoryEntry → Type 0
IsPrefix front later = (others : List HistoryEntry) × (later ≡ front ++ others)

-- the effect makes a revision; as yet none does
abbrev pub is_commit : Effect → Bool
is_commit effect = elim effect [ ]

-- the effect tells that the keeper failed; as yet none does
abbrev pub is_failure : Effect → Bool
is_failure effect = elim effect [ ]

-- 1 for what is so, 0 for what isn't
abbrev pub one_if : Bool → ℕ
one_if true = 1
one_if false = 0

-- how many of the entries made a revision
abbrev pub commits : List HistoryEntry → ℕ
commits [] = 0
commits (entry ∷ entries) = one_if (is_commit entry.event.effect) + commits entries

-- how many of the entries tell that the keeper failed
abbrev pub failures : List HistoryEntry → ℕ
failures [] = 0
failures (entry ∷ entries) = one_if (is_failure entry.event.effect) + failures entries
