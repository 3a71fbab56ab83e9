-- What a run does, by what it is given.
use Rattle.std.specs.Prelude.{ℕ, ◌≡◌, ◌≤◌, ◌⊎◌, Bool, true, false, List, [], take, length, Option, None, Some}
use Rattle.std.specs.Io.KnownBytes.{Appends, Keeps}
use Rattle.authz_file.specs.declared.right.Right.{Right}
use Rattle.authz_file.specs.declared.rules.Rules.{Rules}
use Rattle.dav_machine.specs.Histories.{HistoryEntry}
use Rattle.dav_machine.specs.States.{opening_state}
use Rattle.dav_serve.specs.Serves.{Serves}
use Rattle.dsv_outside.specs.Causes.{Rose}
use Rattle.dsv_outside.specs.declared.serve_end.ServeEnd.{ServeEnd}
use Rattle.dsv_outside.specs.declared.serve_end.ServeEnd.TheVariants as serve_end
use Rattle.http_front.specs.declared.user.User.{User}
use Rattle.rev_nodes.specs.Trees.{Repository}
use Rattle.davsvn_run.specs.declared.end.End.{End}
use Rattle.davsvn_run.specs.declared.end.End.TheVariants as end
use Rattle.davsvn_run.specs.Asking.{right_asked, right_line, is_expected}
use Rattle.davsvn_run.specs.Commands.{Command, Pipe, AccessOf, FileNames, Question}
use Rattle.davsvn_run.specs.Opening.{Opens, AreRules, AreNoRules, IsBadFile, IsNextFile}
use Rattle.davsvn_run.specs.Worlds.{WorldTold, WorldState, point_of, IsUnread, IsUnserved, IsUntouched}

-- ---- `pipe`

-- between what was told before and after, a connection was served as the one pass of a machine that opens on these,
-- and ended so
abbrev pub ServedBy : Repository → Rules → List User → WorldTold → WorldTold → ServeEnd → Type 0
ServedBy repository rules users p q ended =
    (history : List HistoryEntry)
    × Serves (opening_state repository rules.list) 0 users (point_of [] p) (point_of history q) ended

-- .. and these are what the three files give
pub record Served (names : FileNames) (p q : WorldTold) (ended : ServeEnd) : Type 0 where
  pub repository : Repository
  pub rules : Rules
  pub users : List User
  pub opens : Opens p.contents names repository rules users
  pub served : ServedBy repository rules users p q ended

-- the sink took some first bytes of the output, as a put that failed does
abbrev pub TookFront : Option (List ℕ) → Option (List ℕ) → List ℕ → Type 0
TookFront old new output = (n : ℕ) × (n ≤ length output) × Appends old new (take n output)

-- what a run of `pipe` between two worlds says of its end
abbrev pub PipeSays :
    {S K E C F P : Type 0} → FileNames → WorldState S K E C F P → WorldState S K E C F P → End → Type 0
PipeSays names p q end.Well =
    Served names p.told q.told serve_end.Ended ⊎ Served names p.told q.told serve_end.Closed
PipeSays names p q end.BrokeOff = Served names p.told q.told serve_end.BrokeOff
PipeSays names p q end.ReadFault =
    Rose p.told.read_faults q.told.read_faults × Served names p.told q.told serve_end.ReadFault
PipeSays names p q end.WriteFault =
    Rose p.told.write_faults q.told.write_faults × Served names p.told q.told serve_end.WriteFault
PipeSays names p q end.NoMemory = IsUnserved p q ⊎ Served names p.told q.told serve_end.NoMemory
PipeSays names p q (end.BadFile name line) = IsBadFile p.told.contents names name line × IsUnserved p q
PipeSays names p q (end.FileFault name) =
    IsNextFile p.told.contents names name × Rose p.told.file_faults q.told.file_faults × IsUnserved p q
PipeSays names p q _ = ⊥

-- ---- `accessof`

-- what putting a right says of its end
abbrev pub TellSays : Option Right → Right → Option (List ℕ) → Option (List ℕ) → Type 0 → End → Type 0
TellSays expected right old new sink_rose end.Well =
    (is_expected expected right ≡ true) × Appends old new (right_line right)
TellSays expected right old new sink_rose end.OtherRight =
    (is_expected expected right ≡ false) × Appends old new (right_line right)
TellSays expected right old new sink_rose end.WriteFault = TookFront old new (right_line right) × sink_rose
TellSays expected right old new sink_rose end.NoMemory = Keeps old new
TellSays expected right old new sink_rose _ = ⊥

-- the sink took the right that is asked for, and whether it is the expected one is as told
abbrev pub TookRight : Question → List ℕ → WorldTold → WorldTold → Bool → Type 0
TookRight question path p q expected =
    (rules : Rules) × AreRules p.contents question.rules rules
    × (is_expected question.expected (right_asked rules.list question path) ≡ expected)
    × Appends p.taken q.taken (right_line (right_asked rules.list question path))

-- the sink failed, and took some first bytes of that right
abbrev pub TookSomeOfRight : Question → List ℕ → WorldTold → WorldTold → Type 0
TookSomeOfRight question path p q =
    (rules : Rules) × AreRules p.contents question.rules rules
    × TookFront p.taken q.taken (right_line (right_asked rules.list question path))
    × Rose p.write_faults q.write_faults

-- what a run of `accessof` between two worlds says of its end
abbrev pub AskSays :
    {S K E C F P : Type 0} → Question → List ℕ → WorldState S K E C F P → WorldState S K E C F P → End → Type 0
AskSays question path p q end.Well = TookRight question path p.told q.told true
AskSays question path p q end.OtherRight = TookRight question path p.told q.told false
AskSays question path p q end.WriteFault = TookSomeOfRight question path p.told q.told
AskSays question path p q (end.BadFile name line) =
    (name ≡ question.rules) × AreNoRules p.told.contents question.rules line × IsUnserved p q
AskSays question path p q (end.FileFault name) =
    (name ≡ question.rules) × Rose p.told.file_faults q.told.file_faults × IsUnserved p q
AskSays question path p q end.NoMemory = Keeps p.told.taken q.told.taken
AskSays question path p q _ = ⊥

-- ---- all commands

-- the same by the words, which may be those of no command
abbrev pub WorkSays :
    {S K E C F P : Type 0} → Option Command → WorldState S K E C F P → WorldState S K E C F P → End → Type 0
WorkSays None p q given = (given ≡ end.Usage) × IsUntouched p q
WorkSays (Some (Pipe names)) p q given = PipeSays names p q given
WorkSays (Some (AccessOf question path)) p q given = AskSays question path p q given × IsUnread p q

-- the words are those of `pipe`, and this holds of its files
abbrev pub ForPipe : Option Command → (FileNames → Type 0) → Type 0
ForPipe None holds = ⊥
ForPipe (Some (Pipe names)) holds = holds names
ForPipe (Some (AccessOf question path)) holds = ⊥
