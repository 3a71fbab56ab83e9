-- What a call answers is what a definition says, but for an error that is free, as want of memory is.
use Rattle.std.specs.Prelude.{◌≡◌, Bool, Result, Ok, Err, MatchBool}

-- the answer is the one that is right, but where its error is free
abbrev pub Gives : {X E : Type 0} → (E → Bool) → Result X E → Result X E → Type 0
Gives is_free (Ok x) right = right ≡ Ok x
Gives is_free (Err e) right = MatchBool (is_free e) (Unit {0}) (right ≡ Err e)

-- what a call answered, seen by a view (as the bytes that a reference points to), is what a definition says, but
-- for an error that is free
abbrev pub GivesBy : {X Y E : Type 0} → (X → Y) → (E → Bool) → Result X E → Result Y E → Type 0
GivesBy view is_free (Ok x) right = right ≡ Ok (view x)
GivesBy view is_free (Err e) right = MatchBool (is_free e) (Unit {0}) (right ≡ Err e)

-- the next step of a chain, which the first error ends
infixl 10 ◌>>=◌
abbrev pub ◌>>=◌ : {A B E : Type 0} → Result A E → (A → Result B E) → Result B E
(Ok x) >>= f = f x
(Err e) >>= f = Err e
