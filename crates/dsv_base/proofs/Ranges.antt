-- A part of a list, cut again.
use Rattle.std.proofs.Common.{◌≡◌, ℕ, ◌+◌, ◌-◌, ◌≤◌, ◌<◌, List, length, take, drop, slice_range, ap, ◌∙◌, arith, sym, length-take-le, length-drop}
use Rattle.std.proofs.lemmas.List.{drop-take, drop-drop, take-take, drop_all, take_all}

-- all of a list
pub range_all : (xs : List ℕ) (start end : ℕ) → start ≡ 0 → length xs ≤ end → slice_range xs start end ≡ xs
range_all xs start end none long =
    ap (λ n. slice_range xs n end) none ∙ take_all (end - 0) xs (omega arith)

range_size : (xs : List ℕ) (start end : ℕ) → start ≤ end → end ≤ length xs → length (slice_range xs start end) ≡ end - start
range_size xs start end some within = length-take-le (end - start) (drop start xs) (omega (arith, length-drop start xs))

-- what stands behind a part's front
pub range_after : (xs part : List ℕ) (start end count : ℕ) → slice_range xs start end ≡ part → start ≤ end → count ≤ end - start → slice_range xs (start + count) end ≡ drop count part
range_after xs part start end count is some within =
    let size : end - start ≡ count + (end - (start + count)) = omega arith in
    sym (ap (drop count) (sym is)
    ∙ ap (λ n. drop count (take n (drop start xs))) size
    ∙ drop-take count (end - (start + count)) (drop start xs)
    ∙ ap (take (end - (start + count))) (drop-drop count start xs))

-- nothing stands behind more than a part has
pub range_gone : (xs part : List ℕ) (start end count : ℕ) → slice_range xs start end ≡ part → start ≤ end → end ≤ length xs → end - start < count → slice_range xs end end ≡ drop count part
range_gone xs part start end count is some within more =
    let none : end - end ≡ 0 = omega arith in
    ap (λ n. take n (drop end xs)) none
    ∙ sym (ap (drop count) (sym is) ∙ drop_all count (slice_range xs start end) (omega (arith, range_size xs start end some within)))

-- a part's front
pub range_front : (xs part : List ℕ) (start end count : ℕ) → slice_range xs start end ≡ part → start ≤ end → count ≤ end - start → slice_range xs start (start + count) ≡ take count part
range_front xs part start end count is some within =
    let size : start + count - start ≡ count = omega arith in
    ap (λ n. take n (drop start xs)) size
    ∙ sym (ap (take count) (sym is) ∙ take-take count (end - start) (drop start xs) within)

-- the front of a part that has no more
pub range_short : (xs part : List ℕ) (start end count : ℕ) → slice_range xs start end ≡ part → start ≤ end → end ≤ length xs → end - start < count → slice_range xs start end ≡ take count part
range_short xs part start end count is some within more =
    sym (ap (take count) (sym is) ∙ take_all count (slice_range xs start end) (omega (arith, range_size xs start end some within)))
