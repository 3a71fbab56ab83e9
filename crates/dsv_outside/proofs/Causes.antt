-- How the causes of calls that follow one another join, and what it means that a count rose.
use Rattle.std.proofs.Common.{◌≡◌, ℕ, ◌<◌, ◌≤◌, ◌⊎◌, Bool, true, false, arith}
use Rattle.dsv_outside.specs.Causes.{last_count, Rose, HasCause}

-- a count that rose has risen for whoever looks later
pub Rose-later : (before now later : ℕ) → Rose before now → now ≤ later → Rose before later
Rose-later before now later rose after = omega arith

-- and for whoever looked earlier
pub Rose-earlier : (earlier before now : ℕ) → earlier ≤ before → Rose before now → Rose earlier now
Rose-earlier earlier before now until rose = omega arith

-- a count that stands below its last value hasn't risen
pub Rose-same : (count : ℕ) → count < last_count → Rose count count → ⊥
Rose-same count below rose = omega arith

-- of a u64: it is greater now, or it stood at its last value
pub Rose-cases : (before now : ℕ) → before ≤ last_count → Rose before now → (before < now) ⊎ (before ≡ last_count)
Rose-cases before now fits rose = grind arith

pub Rose-greater : (before now : ℕ) → before < now → Rose before now
Rose-greater before now greater = omega arith

pub Rose-last : (before now : ℕ) → before ≡ last_count → before ≤ now → Rose before now
Rose-last before now last later = omega arith

-- the cause of the last of several calls is one of all of them
pub HasCause-earlier : (earlier before now : ℕ) (failed : Bool) → earlier ≤ before → HasCause before now failed → HasCause earlier now failed
HasCause-earlier earlier before now true until cause = record { later = let after : before ≤ now = cause.later in omega arith; rose = Rose-earlier earlier before now until cause.rose }
HasCause-earlier earlier before now false until cause = record { later = let after : before ≤ now = cause.later in omega arith; rose = tt }
