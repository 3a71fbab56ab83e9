-- Line ends, of which a reader knows one (XML 1.0, section 2.11).
use Rattle.std.specs.Prelude.{ℕ, Bool, true, false, cond, ◌&&◌, ◌||◌, List, [], ◌∷◌, ◌==◌}

-- CRLF and CR become LF; the test says that a CR came just before
abbrev pub ends_joined : Bool → List ℕ → List ℕ
ends_joined after [] = []
ends_joined after (b ∷ bs) = cond (b == 13) (10 ∷ ends_joined true bs) (cond (after && (b == 10)) (ends_joined false bs) (b ∷ ends_joined false bs))

-- CRLF and CR become LF
abbrev pub lines_joined : List ℕ → List ℕ
lines_joined text = ends_joined false text

-- a byte of an attribute's value: tab and LF become a blank
abbrev pub blanked : ℕ → ℕ
blanked b = cond (b == 9 || b == 10) 32 b
