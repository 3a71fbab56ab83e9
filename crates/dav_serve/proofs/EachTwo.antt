-- What holds at each place holds of each two items of the lists.
use Rattle.std.proofs.Common.{◌≡◌, ℕ, suc, ◌<◌, List, [], ◌∷◌, ◌++◌, length, get_or, take, drop, map, arith, refl, ap, ◌∙◌, sym}
use Rattle.dav_serve.specs.SideBySide.{OfEachTwo}

pub of_each_two : {X : Type 0} (R : X → X → Type 0) (xs ys : List X) → length ys ≡ length xs
    → ((i : ℕ) (d : X) → i < length xs → R (get_or xs i d) (get_or ys i d)) → OfEachTwo R xs ys
of_each_two R [] [] same each = tt
of_each_two R [] (y ∷ ys) same each = absurd (omega arith)
of_each_two R (x ∷ xs) [] same each = absurd (omega arith)
of_each_two R (x ∷ xs) (y ∷ ys) same each = (each 0 x (omega arith), of_each_two R xs ys (omega arith) (λ i d below. each (suc i) d (omega arith)))

pub two_lengths : {X : Type 0} (R : X → X → Type 0) (xs ys : List X) → OfEachTwo R xs ys → length ys ≡ length xs
two_lengths R [] [] each = refl
two_lengths R [] (y ∷ ys) each = absurd each
two_lengths R (x ∷ xs) [] each = absurd each
two_lengths R (x ∷ xs) (y ∷ ys) each = ap suc (two_lengths R xs ys each.1)

take_front : {X : Type 0} (xs ys : List X) → take (length xs) (xs ++ ys) ≡ xs
take_front [] ys = refl
take_front (x ∷ xs) ys = ap (λ zs. x ∷ zs) (take_front xs ys)

-- what stands behind a slice after it was written whole
written_whole : {X : Type 0} (new old : List X) (n : ℕ) → length new ≡ length old → n ≡ length old → take n (new ++ drop (length new) old) ≡ new
written_whole {X} new old n same size = ap (λ (k : ℕ). take k (new ++ drop (length new) old)) (size ∙ sym same) ∙ take_front new (drop (length new) old)

-- what was made of the items of a vector whose slice was written whole
pub made_of_written : {X Y : Type 0} (f : X → Y) (new old : List X) (n : ℕ) (first made : List Y) → length new ≡ length old → n ≡ length old → first ≡ []
    → made ≡ first ++ map f (take n (new ++ drop (length new) old)) → made ≡ map f new
made_of_written {X} {Y} f new old n first made same size none is =
    is ∙ ap (λ (ys : List Y). ys ++ map f (take n (new ++ drop (length new) old))) none ∙ ap (map f) (written_whole new old n same size)
