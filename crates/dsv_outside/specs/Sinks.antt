-- What a put into a sink does.
use Rattle.std.specs.Prelude.{ℕ, ◌≤◌, Bool, true, false, List, length, take, Option}
use Rattle.std.specs.Io.KnownBytes.{Appends, Keeps}
use Rattle.dsv_outside.specs.declared.put.Put.{Put}
use Rattle.dsv_outside.specs.declared.put.Put.TheVariants.{Done, Failed, NoMemory}

-- `Done` appends the bytes, `Failed` some first ones of them, `NoMemory` nothing
abbrev pub PutGives : Option (List ℕ) → Option (List ℕ) → Put → List ℕ → Type 0
PutGives old new Done bytes = Appends old new bytes
PutGives old new Failed bytes = (n : ℕ) × (n ≤ length bytes) × Appends old new (take n bytes)
PutGives old new NoMemory bytes = Keeps old new

-- a put that failed
abbrev pub is_failed_put : Put → Bool
is_failed_put Done = false
is_failed_put Failed = true
is_failed_put NoMemory = false
