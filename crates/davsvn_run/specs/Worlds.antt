-- The world of a run, as contracts see it: its parts, and what they tell.
use Rattle.std.specs.Prelude.{ℕ, ◌≡◌, ◌⊎◌, Bool, List, Option}
use Rattle.dsv_outside.specs.Causes.{Rose}
use Rattle.dav_machine.specs.Histories.{HistoryEntry}
use Rattle.dav_serve.specs.Points.{Point}

-- names of files with their bytes, where they are told
abbrev pub Contents : Type 0
Contents = Option (List (List ℕ × List ℕ))

-- the bytes that the source has left, whether it is over, and its count of faults; the bytes that the sink has taken,
-- and its count; the same of the errors; the clock's readings; what the files hold, and their count; the revisions with
-- their texts that the keeper has kept, and its count. Counts are always told, the others where the part tells them
pub record WorldTold : Type 0 where
  pub left : Option (List ℕ)
  pub over : Bool
  pub read_faults : ℕ
  pub taken : Option (List ℕ)
  pub write_faults : ℕ
  pub errors_taken : Option (List ℕ)
  pub error_faults : ℕ
  pub readings : Option (List ℕ)
  pub contents : Contents
  pub file_faults : ℕ
  pub kept : Option (List (ℕ × List ℕ))
  pub keep_faults : ℕ

-- the parts of a world, and what they tell
pub record WorldState (S K E C F P : Type 0) : Type 0 where
  pub source : S
  pub sink : K
  pub errors : E
  pub clock : C
  pub files : F
  pub keeper : P
  pub told : WorldTold

-- a connection over these parts, after this history
abbrev pub point_of : List HistoryEntry → WorldTold → Point
point_of history told = record {
  history = history;
  left = told.left;
  over = told.over;
  taken = told.taken;
  readings = told.readings;
}

-- between two worlds source, clock and keeper stayed what they were, told or not
abbrev pub IsUnread : {S K E C F P : Type 0} → WorldState S K E C F P → WorldState S K E C F P → Type 0
IsUnread p q = (q.source ≡ p.source) × (q.clock ≡ p.clock) × (q.keeper ≡ p.keeper)

-- .. and the sink too: no connection was served, and nothing was put
abbrev pub IsUnserved : {S K E C F P : Type 0} → WorldState S K E C F P → WorldState S K E C F P → Type 0
IsUnserved p q = IsUnread p q × (q.sink ≡ p.sink)

-- .. and the files: only the errors may have been touched
abbrev pub IsUntouched : {S K E C F P : Type 0} → WorldState S K E C F P → WorldState S K E C F P → Type 0
IsUntouched p q = IsUnserved p q × (q.files ≡ p.files)

-- the errors stayed what they were, and tell what they told
abbrev pub IsUnreported : {S K E C F P : Type 0} → WorldState S K E C F P → WorldState S K E C F P → Type 0
IsUnreported p q =
    (q.errors ≡ p.errors) × (q.told.errors_taken ≡ p.told.errors_taken)
    × (q.told.error_faults ≡ p.told.error_faults)

-- the keeper tells what it told, and its count is what it was
abbrev pub KeepsNothing : WorldTold → WorldTold → Type 0
KeepsNothing p q = (q.kept ≡ p.kept) × (q.keep_faults ≡ p.keep_faults)

-- the count of source, sink or files rose
abbrev pub HasFault : WorldTold → WorldTold → Type 0
HasFault p q =
    Rose p.read_faults q.read_faults ⊎ (Rose p.write_faults q.write_faults ⊎ Rose p.file_faults q.file_faults)
