-- What a reading of a clock does.
use Rattle.std.specs.Prelude.{ℕ, zero, suc, ◌+◌, ◌-◌, ◌≡◌, ◌≤◌, List, [], ◌∷◌, ◌++◌, length, min, slice_index, Option, None, Some, nat_eq, if◌then◌else◌, ⊤}
use Rattle.dsv_outside.specs.Causes.{last_count}

-- What is known of the readings grows by these moments. It stays known, unless there are as many as a
-- count can tell, and what isn't known stays so.
abbrev pub Reads : Option (List ℕ) → Option (List ℕ) → List ℕ → Type 0
Reads None None moments = ⊤
Reads None (Some new) moments = ⊥
Reads (Some old) None moments = last_count ≤ length old + length moments
Reads (Some old) (Some new) moments = new ≡ old ++ moments

-- what a clock in memory answers as its reading of this number, counted from 0: past its list the last
-- moment again, and 0 where the list is empty
abbrev pub moment_at : List ℕ → ℕ → ℕ
moment_at moments number = slice_index moments (min number (length moments - 1))

-- what it answers as its first readings, so many
unfoldable pub first_readings : List ℕ → ℕ → List ℕ
first_readings moments zero = []
first_readings moments (suc count) = first_readings moments count ++ moment_at moments count ∷ []

-- those readings, which are known as long as they can be counted
abbrev pub told_readings : List ℕ → ℕ → Option (List ℕ)
told_readings moments count = if nat_eq count last_count then None else Some (first_readings moments count)
