-- Small texts, worked out by hand.
use Rattle.std.specs.Prelude.{◌≡◌, ℕ, true, false, List, [], ◌∷◌, ◌++◌, codes, None, Some, refl}
use Rattle.http_front.specs.declared.framing.Framing.TheVariants.{Sized, Chunked, TooLong, Unframed}
use Rattle.http_front.specs.declared.byte_place.BytePlace.TheVariants.{Between}
use Rattle.http_front.specs.Framings.{length_framing, coding_framing}
use Rattle.http_front.specs.Sections.{head_length, header_lines, is_idle, section_from}

ends : List ℕ
ends = 13 ∷ 10 ∷ 13 ∷ 10 ∷ []

-- "GET / HTTP/1.1" and an empty line, with one more byte after it
head : head_length (codes "G" ++ 13 ∷ 10 ∷ 13 ∷ 10 ∷ 65 ∷ []) ≡ Some 5
unfolding head_length
head = refl

-- line ends in front count
head_after_blank : head_length (13 ∷ 10 ∷ 10 ∷ codes "G" ++ 10 ∷ 10 ∷ []) ≡ Some 6
unfolding head_length
head_after_blank = refl

-- a CR without LF is a byte of the head, and a CR at the end isn't the empty line yet
head_with_return : head_length (13 ∷ 65 ∷ 10 ∷ 13 ∷ []) ≡ None
unfolding head_length
head_with_return = refl

lines : header_lines (10 ∷ codes "G" ++ 10 ∷ codes "A:" ++ 13 ∷ 10 ∷ codes "B:" ++ 10 ∷ 13 ∷ 10 ∷ []) ≡ 2
unfolding header_lines
lines = refl

idle : is_idle (13 ∷ 10 ∷ 10 ∷ []) ≡ true
idle = refl

return_is_not_idle : is_idle (10 ∷ 13 ∷ []) ≡ false
return_is_not_idle = refl

-- one trailer line of two bytes and the empty line; and one that isn't ended
trailers : section_from Between (65 ∷ 10 ∷ 13 ∷ 10 ∷ []) ≡ record { lines = 2; closing = 2 }
trailers = refl

open_trailer : section_from Between (65 ∷ []) ≡ record { lines = 2; closing = 0 }
open_trailer = refl

length_3 : length_framing (codes "003") ≡ Sized 3
unfolding length_framing
length_3 = refl

length_signed : length_framing (codes "+3") ≡ Unframed
unfolding length_framing
length_signed = refl

length_21 : length_framing (codes "000000000000000000003") ≡ TooLong
unfolding length_framing
length_21 = refl

length_most : length_framing (codes "16777216") ≡ Sized 16777216
unfolding length_framing
length_most = refl

length_over : length_framing (codes "16777217") ≡ TooLong
unfolding length_framing
length_over = refl

coding : coding_framing (codes "chUNKed") ≡ Chunked
unfolding coding_framing
coding = refl
