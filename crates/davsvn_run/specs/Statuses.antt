-- The exit statuses, and the line that each puts to the errors.
use Rattle.std.specs.Prelude.{ℕ, ◌≡◌, ◌⊎◌, List, [], ◌++◌, Option, codes}
use Rattle.std.specs.Fmt.{decimal}
use Rattle.std.specs.Io.KnownBytes.{Appends, Keeps}
use Rattle.davsvn_run.specs.declared.end.End.{End}
use Rattle.davsvn_run.specs.declared.end.End.TheVariants.{Well, Usage, BadFile, BrokeOff, ReadFault, WriteFault, FileFault, NoMemory, OtherRight}
use Rattle.dsv_outside.specs.Causes.{Rose}
use Rattle.davsvn_run.specs.Runs.{TookFront}
use Rattle.davsvn_run.specs.Worlds.{WorldState}

-- no two ends of different kinds have one number
abbrev pub number_of : End → ℕ
number_of Well = 0
number_of Usage = 1
number_of (BadFile name line) = 2
number_of BrokeOff = 3
number_of ReadFault = 4
number_of WriteFault = 5
number_of (FileFault name) = 6
number_of NoMemory = 8
number_of OtherRight = 9

-- the line of an end; empty where it has none
abbrev pub end_line : End → List ℕ
end_line Well = []
end_line Usage = codes "davsvn: usage\n"
end_line (BadFile name line) = codes "davsvn: " ++ name ++ codes ": line " ++ decimal line ++ codes "\n"
end_line BrokeOff = codes "davsvn: input broke off\n"
end_line ReadFault = codes "davsvn: read fault\n"
end_line WriteFault = codes "davsvn: write fault\n"
end_line (FileFault name) = codes "davsvn: file fault: " ++ name ++ codes "\n"
end_line NoMemory = codes "davsvn: no memory\n"
end_line OtherRight = []

-- the sink took the line, or nothing for want of memory, or some first bytes of it where its count rose
abbrev pub TookLine : Option (List ℕ) → Option (List ℕ) → List ℕ → Type 0 → Type 0
TookLine old new line rose = Appends old new line ⊎ Keeps old new ⊎ (rose × TookFront old new line)

-- the errors took the end's line; where it has none, they are what they were, told or not
abbrev pub IsReported :
    {S K E C F P : Type 0} → End → WorldState S K E C F P → WorldState S K E C F P → Type 0
IsReported end p q =
    TookLine p.told.errors_taken q.told.errors_taken (end_line end) (Rose p.told.error_faults q.told.error_faults)
    × (end_line end ≡ [] → q.errors ≡ p.errors)
