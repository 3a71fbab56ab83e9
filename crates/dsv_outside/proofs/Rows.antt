-- Rows that the definitions must give.
use Rattle.std.proofs.Common.{◌≡◌, [], ◌∷◌, None, Some, false, refl, lit<, arith}
use Rattle.dsv_outside.specs.Causes.{next_count, last_count}
use Rattle.dsv_outside.specs.Calls.{no_calls, after_call, IsDue}
use Rattle.dsv_outside.specs.FileTables.{file_named, text_named}
use Rattle.dsv_outside.specs.Clocks.{moment_at, first_readings}
use Rattle.dsv_outside.specs.Sources.{got_of}
use Rattle.dsv_outside.specs.declared.got.Got.TheVariants.{Bytes, End}

-- of two pairs with one name the first counts
first_of_two : file_named ((70 ∷ [], 1 ∷ []) ∷ (71 ∷ [], 2 ∷ []) ∷ (70 ∷ [], 3 ∷ []) ∷ []) (70 ∷ []) ≡ Some (1 ∷ [])
unfolding file_named
first_of_two = refl

second_name : text_named ((70 ∷ [], 1 ∷ []) ∷ (71 ∷ [], 2 ∷ []) ∷ []) (71 ∷ []) ≡ Some (2 ∷ [])
unfolding file_named text_named
second_name = refl

missing : text_named ((70 ∷ [], 1 ∷ []) ∷ []) (71 ∷ []) ≡ None
unfolding file_named text_named
missing = refl

-- a read gives what is there, at most as much as fits, and then the end
fits : got_of (1 ∷ 2 ∷ []) 3 ≡ Bytes 2
fits = refl

filled : got_of (1 ∷ 2 ∷ []) 1 ≡ Bytes 1
filled = refl

empty : got_of [] 1 ≡ End
empty = refl

-- the second call fails, and no other
first_call : IsDue (no_calls (1 ∷ [])) → ⊥
first_call due = grind arith

second_call : IsDue (after_call false (no_calls (1 ∷ [])))
second_call = (0, lit< tt, refl)

stands : next_count last_count ≡ last_count
stands = refl

-- past its list a clock in memory answers the last moment again
three_readings : first_readings (7 ∷ 5 ∷ []) 3 ≡ 7 ∷ 5 ∷ 5 ∷ []
unfolding first_readings
three_readings = refl

no_moments : moment_at [] 4 ≡ 0
no_moments = refl
