-- What a read of a source does.
use Rattle.std.specs.Prelude.{ℕ, ◌≡◌, ◌≤◌, Bool, true, false, List, length, take, Option, min, nat_eq, if◌then◌else◌}
use Rattle.std.specs.Io.KnownBytes.{Consumes, Keeps, IsAtEnd}
use Rattle.dsv_outside.specs.declared.got.Got.{Got}
use Rattle.dsv_outside.specs.declared.got.Got.TheVariants.{Bytes, End, Failed}

-- The bytes given are the first of what was left, and at least one. `End` comes only where nothing was
-- left. `End` and `Failed` leave what was left as it was.
abbrev pub TakesFirst : Option (List ℕ) → Option (List ℕ) → Got → List ℕ → Type 0
TakesFirst old new (Bytes n) into = (1 ≤ n) × (n ≤ length into) × Consumes old new (take n into)
TakesFirst old new End into = IsAtEnd old × Keeps old new
TakesFirst old new Failed into = Keeps old new

-- a source is over once a call has answered `End`, and from then on no call gives bytes
abbrev pub TellsOver : Bool → Bool → Got → Type 0
TellsOver old new (Bytes n) = (old ≡ false) × (new ≡ false)
TellsOver old new End = new ≡ true
TellsOver old new Failed = new ≡ old

-- a read that failed
abbrev pub is_failed_got : Got → Bool
is_failed_got (Bytes n) = false
is_failed_got End = false
is_failed_got Failed = true

-- what a source in memory answers that doesn't fail: as many bytes as there are and fit
abbrev pub got_of : List ℕ → ℕ → Got
got_of left room = if nat_eq (length left) 0 then End else Bytes (min (length left) room)
