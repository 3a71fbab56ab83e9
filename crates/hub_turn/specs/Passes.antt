-- A pass, as contracts see it.
use Rattle.std.specs.Prelude.{ℕ, ◌≡◌, ◌+◌, ◌<◌, ◌≤◌, zero, suc, List, [], ◌∷◌, ◌++◌, map, length}
use Rattle.atomic_table.specs.Seated.{TableId}
use Rattle.dav_machine.specs.Histories.{HistoryEntry}
use Rattle.dav_machine.specs.Origins.{Origin}
use Rattle.dav_machine.specs.States.{State}
use Rattle.hub_turn.specs.Cores.{CoreTold}
use Rattle.dav_machine.specs.Hubs.{IsHubOf}
use Rattle.hub_turn.specs.Views.{Start, Member, Idle, SeatView, Follow, AllOf}

-- the state that its hub opened with, its number, which start it is of, and the history at its last call's point
pub record PassState : Type 0 where
  pub opening : State
  pub number : ℕ
  pub origin : Origin
  pub front : List HistoryEntry

-- the front of the first member
abbrev pub first_front : List Member → List HistoryEntry
first_front [] = []
first_front (x ∷ xs) = x.front

-- what tells one table from another
abbrev pub mark_of : TableId → List ℕ
mark_of z = z.words ∷ z.slots ∷ z.views_name ∷ z.atom ∷ z.block ∷ z.offset ∷ z.slot_names

-- which start a seat at this table is of
abbrev pub origin_of : TableId → Start → Origin
origin_of z about = record { mark = mark_of z; passes = about.passes; opening = about.opening; history = about.history; faults = about.first.faults; kept = about.first.kept }

-- a table with three words and one slot
pub record IsBoard (z : TableId) : Type 0 where
  pub words : z.words ≡ 3
  pub slots : z.slots ≡ 1

-- the seat of a pass with this number, of which count were given
pub record IsSeated (number count : ℕ) (v : SeatView) : Type 0 where
  pub idle : v.stage ≡ Idle
  pub single : v.members ≡ record { number = number; front = first_front v.members } ∷ []
  pub passes : count ≡ v.about.passes

-- ---- start

-- the origin is that of so many passes over this hub
pub record IsStart {H : Type 0} (tells : H → CoreTold) (hub : H) (passes : ℕ) (origin : Origin) : Type 0 where
  pub counted : origin.passes ≡ passes
  pub opening : origin.opening ≡ (tells hub).opening
  pub history : origin.history ≡ (tells hub).history
  pub faults : origin.faults ≡ (tells hub).first.faults
  pub kept : origin.kept ≡ (tells hub).first.kept

-- so many passes of this origin, with the numbers from k on, before their first calls
abbrev pub passes_from : ℕ → Origin → ℕ → List PassState
passes_from zero origin k = []
passes_from (suc count) origin k = record { opening = origin.opening; number = k; origin = origin; front = origin.history } ∷ passes_from count origin (k + 1)

-- ---- end

-- a pass, as a seat's member
abbrev pub member_of : PassState → Member
member_of p = record { number = p.number; front = p.front }

-- passes, as the members of one seat
abbrev pub members_of : List PassState → List Member
members_of passes = map member_of passes

-- all are of this origin
abbrev pub AreOf : Origin → List PassState → Type 0
AreOf origin [] = Unit {0}
AreOf origin (p ∷ ps) = (p.origin ≡ origin) × AreOf origin ps

-- passes of one start
abbrev pub OfOneStart : List PassState → Type 0
OfOneStart [] = Unit {0}
OfOneStart (p ∷ ps) = AreOf p.origin ps

-- no passes, or fewer than their start gave
abbrev pub AreFew : List PassState → Type 0
AreFew [] = Unit {0}
AreFew (p ∷ ps) = length (p ∷ ps) < p.origin.passes

-- at least as many passes as their start gave
abbrev pub AreAll : List PassState → Type 0
AreAll [] = ⊥
AreAll (p ∷ ps) = p.origin.passes ≤ length (p ∷ ps)

-- what the hub is after all calls of all passes of this origin: each pass's front is a beginning of the history, and holds
-- every entry of the pass's number; and every entry beyond the history of the start has the number of one of them
pub record EndsOver {H : Type 0} (tells : H → CoreTold) (origin : Origin) (passes : List PassState) (hub : H) : Type 0 where
  pub enough : origin.passes ≤ length passes
  pub opening : (tells hub).opening ≡ origin.opening
  pub faults : (tells hub).first.faults ≡ origin.faults
  pub first_kept : (tells hub).first.kept ≡ origin.kept
  pub follow : Follow (tells hub).history (members_of passes)
  pub rest : List HistoryEntry
  pub begins : (tells hub).history ≡ origin.history ++ rest
  pub authors : AllOf (members_of passes) rest
  pub holds : IsHubOf (tells hub).opening (tells hub).state (tells hub).history (tells hub).first.faults (tells hub).now.faults

-- what the hub is after all calls of these passes, which are all of one start
abbrev pub Ended : {H : Type 0} → (H → CoreTold) → List PassState → H → Type 0
Ended tells [] hub = ⊥
Ended tells (p ∷ ps) hub = EndsOver tells p.origin (p ∷ ps) hub
