-- Numbers that are written and read back, and lines that are cut where they end.
use Rattle.std.proofs.Common.{◌≡◌, ℕ, zero, suc, ◌<◌, ◌≤◌, ◌^◌, T, Bool, true, false, ◌&&◌, ◌||◌, not, List, [], ◌∷◌, ◌++◌, Some, Result, Ok, length, get_or, nat_eq, nat_le, nat_lt, refl, sym, ap, subst, arith, rules, length-append}
use Rattle.std.proofs.Math.Seq.{drop-append_seam, take-append_seam}
use Rattle.std.specs.Prelude.{◌==◌}
use Rattle.std.specs.List.{list_all}
use Rattle.std.specs.Fmt.{decimal}
use Rattle.std.proofs.lemmas.Bool.Decides.{nat_tests}
use Rattle.std.proofs.lemmas.Str.Parse.{IsNumeralModel, IsDigitsTest, FoldsDigits, numerals_by_fold}
use Rattle.std.proofs.lemmas.Fmt.{digits_decimal, digits_value-decimal, first_decimal, decimal_nonempty, decimal_digit}
use Rattle.dsv_base.specs.Lines.{cut_at}
use Rattle.dsv_base.specs.Numbers as numbers
use Rattle.dsv_base.specs.Numbers.{is_digit, is_decimal, digits_after}
use Rattle.dsv_base.specs.Gives.{◌>>=◌}
use Rattle.rev_scripts.specs.declared.item_fault.ItemFault.{ItemFault}
use Rattle.rev_scripts.specs.Steps.{number_from, word_from, line_from, bytes_from, ok_where, most_revision}
use Rattle.rev_scripts.specs.Items.{two_lengths, three_lengths, copy_numbers, one_part, two_parts, three_parts}

-- ---- numbers

are_digits : List ℕ → Type 0
are_digits ds = list_all is_digit ds ≡ true

tells : IsDigitsTest (λ ds. list_all is_digit ds ≡ true)
tells = search rules

folds : FoldsDigits digits_after
folds = search rules

own : IsNumeralModel (λ ds. list_all is_digit ds ≡ true) (digits_after 0)
own = numerals_by_fold (λ ds. list_all is_digit ds ≡ true) tells digits_after folds

pub digits_written : (n : ℕ) → n < 2 ^ 64 → list_all is_digit (decimal n) ≡ true
digits_written n h = digits_decimal own n h

or_true : (b : Bool) → (b || true) ≡ true
or_true true = refl
or_true false = refl

not_zero : (d : ℕ) → 48 < d → not (d == 48) ≡ true
not_zero d h = grind (arith, nat_tests)

decimal_of : (ds : List ℕ) → list_all is_digit ds ≡ true → 0 < length ds → 48 < get_or ds 0 0 → is_decimal ds ≡ true
decimal_of [] digits some first = absurd (omega arith)
decimal_of (d ∷ ds) digits some first = rw (digits, not_zero d first) (or_true (nat_eq (length ds) 0))

pub is_decimal-written : (n : ℕ) → n < 2 ^ 64 → is_decimal (decimal n) ≡ true
is_decimal-written zero h = ap is_decimal (decimal_digit 0 (omega arith))
is_decimal-written (suc n) h = decimal_of (decimal (suc n)) (digits_written (suc n) h) (decimal_nonempty (suc n) h) (first_decimal (suc n) (omega arith) h)

pub number_back : (most n : ℕ) → n ≤ most → n < 2 ^ 64 → number_from most (decimal n) ≡ Ok n
unfolding numbers.read_decimal
number_back most n fits h =
    rw (is_decimal-written n h, digits_value-decimal own n h) (grind (arith, nat_tests))

-- ---- tests

pub and_parts : (a b : Bool) → (a && b) ≡ true → (a ≡ true) × (b ≡ true)
and_parts true b h = (refl, h)
and_parts false b h = absurd (subst T (sym h) tt)

not_true : (b : Bool) → not b ≡ true → b ≡ false
not_true true h = absurd (subst T (sym h) tt)
not_true false h = refl

-- ---- cuts

-- no such byte stands in it
abbrev pub lacks : ℕ → List ℕ → Bool
lacks byte text = list_all (λ b. not (b == byte)) text

cut_back : (byte : ℕ) (xs ys : List ℕ) → lacks byte xs ≡ true → cut_at byte (xs ++ byte ∷ ys) ≡ Some (xs, ys)
cut_back byte [] ys h = let same : (byte == byte) ≡ true = grind (arith, nat_tests) in rw same refl
cut_back byte (x ∷ xs) ys h =
    let p = and_parts (not (x == byte)) (lacks byte xs) h in
    rw (not_true (x == byte) p.0, cut_back byte xs ys p.1) refl

pub line_back : (line rest : List ℕ) → lacks 10 line ≡ true → line_from (line ++ 10 ∷ rest) ≡ Ok (line, rest)
line_back line rest h = rw (cut_back 10 line rest h) refl

pub word_back : (word rest : List ℕ) → lacks 32 word ≡ true → word_from (word ++ 32 ∷ rest) ≡ Ok (word, rest)
word_back word rest h = rw (cut_back 32 word rest h) refl

other_digit : (byte d : ℕ) → byte < 48 → is_digit d ≡ true → not (d == byte) ≡ true
other_digit byte d low h = grind (arith, nat_tests)

digits_lack : (byte : ℕ) (ds : List ℕ) → byte < 48 → list_all is_digit ds ≡ true → lacks byte ds ≡ true
digits_lack byte [] low h = refl
digits_lack byte (d ∷ ds) low h =
    let p = and_parts (is_digit d) (list_all is_digit ds) h in
    rw (other_digit byte d low p.0, digits_lack byte ds low p.1) refl

pub number_lacks : (byte n : ℕ) → byte < 48 → n < 2 ^ 64 → lacks byte (decimal n) ≡ true
number_lacks byte n low h = digits_lack byte (decimal n) low (digits_written n h)

pub number_word : (n : ℕ) (rest : List ℕ) → n < 2 ^ 64 → word_from (decimal n ++ 32 ∷ rest) ≡ Ok (decimal n, rest)
number_word n rest h = word_back (decimal n) rest (number_lacks 32 n (omega arith) h)

-- ---- parts

pub bytes_back : (part rest : List ℕ) → bytes_from (length part) (part ++ rest) ≡ Ok (part, rest)
bytes_back part rest =
    let within : nat_le (length part) (length (part ++ rest)) ≡ true = rw (length-append part rest) (grind (arith, nat_tests)) in
    rw (within, take-append_seam part rest, drop-append_seam part rest) refl

pub one_part_back : (one rest : List ℕ) → one_part (length one) (one ++ 10 ∷ rest) ≡ Ok (one, rest)
one_part_back one rest = rw (bytes_back one (10 ∷ rest)) refl

pub two_parts_back : (one two rest : List ℕ) → two_parts (length one) (length two) (one ++ (two ++ 10 ∷ rest)) ≡ Ok (one, two, rest)
two_parts_back one two rest =
    rw (bytes_back one (two ++ 10 ∷ rest)) (ap (λ (r : Result (List ℕ × List ℕ) ItemFault). r >>= (λ parts. Ok (one, parts.0, parts.1))) (one_part_back two rest))

pub three_parts_back : (one two three rest : List ℕ) → three_parts (length one) (length two) (length three) (one ++ (two ++ (three ++ 10 ∷ rest))) ≡ Ok (one, two, three, rest)
three_parts_back one two three rest =
    rw (bytes_back one (two ++ (three ++ 10 ∷ rest))) (ap (λ (r : Result (List ℕ × List ℕ × List ℕ) ItemFault). r >>= (λ parts. Ok (one, parts.0, parts.1, parts.2))) (two_parts_back two three rest))

-- ---- numbers of a line

pub two_lengths_back : (top one two : ℕ) → one ≤ top → two ≤ top → one < 2 ^ 64 → two < 2 ^ 64 → two_lengths top (decimal one ++ 32 ∷ decimal two) ≡ Ok (one, two)
two_lengths_back top one two few more s t =
    rw (number_word one (decimal two) s, number_back top one few s, number_back top two more t) refl

pub three_lengths_back : (top one two three : ℕ) → one ≤ top → two ≤ top → three ≤ top → one < 2 ^ 64 → two < 2 ^ 64 → three < 2 ^ 64 → three_lengths top (decimal one ++ 32 ∷ (decimal two ++ 32 ∷ decimal three)) ≡ Ok (one, two, three)
three_lengths_back top one two three few more most s t u =
    rw (number_word one (decimal two ++ 32 ∷ decimal three) s, number_back top one few s) (ap (λ (r : Result (ℕ × ℕ) ItemFault). r >>= (λ others. Ok (one, others.0, others.1))) (two_lengths_back top two three more most t u))

pub copy_numbers_back : (top number source rev path : ℕ) → source ≤ top → rev ≤ most_revision → nat_lt rev number ≡ true → path ≤ top → source < 2 ^ 64 → path < 2 ^ 64 → copy_numbers top number (decimal source ++ 32 ∷ (decimal rev ++ 32 ∷ decimal path)) ≡ Ok (source, rev, path)
copy_numbers_back top number source rev path few young below more s t =
    rw (number_word source (decimal rev ++ 32 ∷ decimal path) s, number_back top source few s, number_word rev (decimal path) (omega arith), number_back most_revision rev young (omega arith), number_back top path more t) (ap (λ (b : Bool). ok_where b (source, rev, path)) below)
