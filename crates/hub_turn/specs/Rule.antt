-- The rule of the table: the words ticket, serving and count, and one slot, which holds the hub.
use Rattle.std.specs.Prelude.{ℕ, ◌≡◌, ◌+◌, ◌%◌, ◌<◌, ◌≤◌, List, [], ◌∷◌, ◌++◌, length, Option, Some, None}
use mathlib.Core.Option.{some}
use lib.ListN.{get_elem?}
use Rattle.atomic_table.specs.Table.{State}
use Rattle.dav_machine.specs.Histories.{HistoryEntry}
use Rattle.hub_turn.specs.Cores.{CoreTold}
use Rattle.hub_turn.specs.Views.{Start, Stage, Founding, Idle, Queued, Served, SeatView, times, has_ticket, has_any, is_served, total, below, Follow, AllBelow}

-- the hub is of this start, and this is its history
pub record Stands {H : Type 0} (tells : H → CoreTold) (about : Start) (history : List HistoryEntry) (hub : H) : Type 0 where
  pub opening : (tells hub).opening ≡ about.opening
  pub first : (tells hub).first ≡ about.first
  pub is : (tells hub).history ≡ history

-- what the slots at home hold: none where the slot is out with a seat
abbrev pub Homes : Type 0 → Type 0
Homes H = List (mathlib.Core.Option.Option (Option H))

-- a seat whose ticket is served knows it: before the hub is in, with the slot empty; else with the one history as it is
abbrev pub IsServing : {H : Type 0} → Start → Homes H → List HistoryEntry → ℕ → Stage → Type 0
IsServing about homes one served Founding = (0 ≡ served) × (homes ≡ some None ∷ []) × (one ≡ about.history)
IsServing about homes one served Idle = Unit {0}
IsServing about homes one served (Queued t) = Unit {0}
IsServing about homes one served (Served t seen) = (t ≡ served) × (seen ≡ one)

-- each view is of the start, its members follow the one history, and it has a member where it holds a ticket
pub record Knows {H : Type 0} (about : Start) (homes : Homes H) (one : List HistoryEntry) (served : ℕ) (v : SeatView) : Type 0 where
  pub of : 0 < length v.members → v.about ≡ about
  pub follow : Follow one v.members
  pub serving : IsServing about homes one served v.stage
  pub some : has_any v.stage ≤ length v.members

-- the history goes on from that of the start, by entries of its passes
pub record Begun (about : Start) (one : List HistoryEntry) : Type 0 where
  pub rest : List HistoryEntry
  pub begins : one ≡ about.history ++ rest
  pub authors : AllBelow about.passes rest

-- the rule. `one` is the one history; `taken` and `served` count tickets and turns without a bound, and the words are
-- their rests; what counts views is a sum over all of them: each number below the count of passes stands in exactly one
-- view, each ticket from served up to but not at taken is held by exactly one, and where no view has found its ticket
-- served, the hub is home with the one history
pub record Ruled {H : Type 0} (tells : H → CoreTold) (about : Start) (s : State (Option H) SeatView) : Type 0 where
  pub one : List HistoryEntry
  pub taken : ℕ
  pub served : ℕ
  pub words : s.words ≡ taken % 18446744073709551616 ∷ served % 18446744073709551616 ∷ length one ∷ []
  pub each : (i : ℕ) (v : SeatView) → get_elem? s.views i ≡ some v → Knows about s.homes one served v
  pub begun : Begun about one
  pub numbers : (k : ℕ) → total (λ v. times k v.members) s.views ≡ below k about.passes
  pub counted : total (λ v. length v.members) s.views ≡ about.passes
  pub few : about.passes ≤ 64
  pub tickets : (t : ℕ) → total (λ v. has_ticket t v.stage) s.views + below t served ≡ below t taken
  pub waiting : served + total (λ v. has_any v.stage) s.views ≡ taken
  pub home : total (λ v. is_served v.stage) s.views ≡ 0 → (hub : H) × (s.homes ≡ some (Some hub) ∷ []) × Stands tells about one hub
