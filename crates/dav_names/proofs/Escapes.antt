-- Escapes that are written, and read back.
use Rattle.std.proofs.Common.{◌≡◌, ℕ, ◌/◌, ◌%◌, ◌<◌, ◌≤◌, Bool, true, false, ◌&&◌, ◌||◌, not, List, [], ◌∷◌, ◌++◌, None, Some, length, nat_eq, refl, ap, ◌∙◌, arith}
use Rattle.std.specs.Prelude.{◌==◌, if◌then◌else◌}
use Rattle.std.specs.Char.{is_ascii_hexdigit}
use Rattle.std.specs.List.{All, list_any, flat_map}
use Rattle.std.proofs.lemmas.Bool.{and_from, or_from, or_parts, eqb-false}
use Rattle.std.proofs.lemmas.Bool.Decides.{nat_tests}
use Rattle.std.proofs.lemmas.Grind.{flat_map-append}
use Rattle.std.proofs.lemmas.List.Elements.{All-head, All-tail}
use Rattle.std.proofs.lemmas.List.Folds.{list_any-append}
use Rattle.percent_encoding.specs.Percent.{percent_decode}
use Rattle.percent_encoding.proofs.PercentLemmas.{IsByte, percent_decode_not_percent}
use Rattle.dsv_base.specs.Escapes.{is_url_byte, hex_digit, percent_escape, url_escape, url_text}
use Rattle.dsv_base.specs.Paths.{is_slash}
use Rattle.dsv_base.proofs.Escaping.{percent_decode-url_text}
use Rattle.dav_names.specs.Escaped.{begins_escape_but_slash, is_escaped, unescaped}
use Rattle.dav_names.specs.Targets.{is_mark}

abbrev pub is_percent : ℕ → Bool
is_percent b = b == 37

-- text without `%` needs no reading
is_escaped-plain : (xs ys : List ℕ) → list_any is_percent xs ≡ false → is_escaped (xs ++ ys) ≡ is_escaped ys
is_escaped-plain [] ys none = refl
is_escaped-plain (x ∷ xs) ys none =
    let parts = or_parts (is_percent x) (list_any is_percent xs) none in
    ap (λ b. (not b || begins_escape_but_slash (xs ++ ys)) && is_escaped (xs ++ ys)) parts.0 ∙ is_escaped-plain xs ys parts.1

percent_decode-plain : (xs ys : List ℕ) → list_any is_percent xs ≡ false → percent_decode (xs ++ ys) ≡ xs ++ percent_decode ys
percent_decode-plain [] ys none = refl
percent_decode-plain (x ∷ xs) ys none =
    let parts = or_parts (is_percent x) (list_any is_percent xs) none in
    percent_decode_not_percent x (xs ++ ys) (eqb-false x 37 parts.0) ∙ ap (λ rest. x ∷ rest) (percent_decode-plain xs ys parts.1)

hex : (n : ℕ) → n < 16 → (is_ascii_hexdigit (hex_digit n) ≡ true) × ((hex_digit n == 37) ≡ false) × ((hex_digit n == 102) ≡ false)
hex n small = (grind (arith, nat_tests), grind (arith, nat_tests), grind (arith, nat_tests))

-- the digits of no byte but `/` are `2F`
not_slash : (b : ℕ) → b < 256 → is_url_byte b ≡ false → not (hex_digit (b / 16 % 16) == 50 && (hex_digit (b % 16) == 70 || hex_digit (b % 16) == 102)) ≡ true
not_slash b small other = grind (arith, nat_tests)

escape_begins : (b : ℕ) (rest : List ℕ) → b < 256 → is_url_byte b ≡ false → is_escaped (percent_escape b ++ rest) ≡ is_escaped rest
escape_begins b rest small other =
    let high = hex (b / 16 % 16) (omega arith) in
    let low = hex (b % 16) (omega arith) in
    let digits : begins_escape_but_slash (hex_digit (b / 16 % 16) ∷ hex_digit (b % 16) ∷ rest) ≡ true = and_from _ _ (and_from _ _ high.0 low.0) (not_slash b small other) in
    ap (λ x. x && ((not (hex_digit (b / 16 % 16) == 37) || begins_escape_but_slash (hex_digit (b % 16) ∷ rest)) && ((not (hex_digit (b % 16) == 37) || begins_escape_but_slash rest) && is_escaped rest))) digits
    ∙ ap (λ x. (not x || begins_escape_but_slash (hex_digit (b % 16) ∷ rest)) && ((not (hex_digit (b % 16) == 37) || begins_escape_but_slash rest) && is_escaped rest)) high.1
    ∙ ap (λ x. (not x || begins_escape_but_slash rest) && is_escaped rest) low.1

stays : (b : ℕ) (rest : List ℕ) → is_url_byte b ≡ true → is_escaped (b ∷ rest) ≡ is_escaped rest
stays b rest one = let other : (b == 37) ≡ false = grind (arith, nat_tests) in ap (λ x. (not x || begins_escape_but_slash rest) && is_escaped rest) other

is_escaped-url : (p : List ℕ) → All IsByte p → is_escaped (url_text p) ≡ true
unfolding url_text
is_escaped-url [] small = refl
is_escaped-url (b ∷ bs) small = either (is_url_byte b) refl (is_escaped-url bs (All-tail IsByte b bs small))
  where
    either : (kept : Bool) → is_url_byte b ≡ kept → is_escaped (flat_map url_escape bs) ≡ true → is_escaped ((if kept then b ∷ [] else percent_escape b) ++ flat_map url_escape bs) ≡ true
    either true e rest = stays b (flat_map url_escape bs) e ∙ rest
    either false e rest = escape_begins b (flat_map url_escape bs) (All-head IsByte b bs small) e ∙ rest

-- a path that is written behind a text without `%`
pub unescaped-url : (xs p : List ℕ) → list_any is_percent xs ≡ false → All IsByte p → unescaped (xs ++ url_text p) ≡ Some (xs ++ p)
unfolding unescaped
unescaped-url xs p none small =
    ap (λ b. if b then Some (percent_decode (xs ++ url_text p)) else None) (is_escaped-plain xs (url_text p) none ∙ is_escaped-url p small)
    ∙ ap Some (percent_decode-plain xs (url_text p) none ∙ ap (λ rest. xs ++ rest) (percent_decode-url_text p small))

-- what is written has no byte of a kind that neither an escape nor what stays is of
abbrev NotWritten : (ℕ → Bool) → ℕ → Type 0
NotWritten p b = (is_url_byte b ≡ true → p b ≡ false) × (p 37 ≡ false) × ((n : ℕ) → n < 16 → p (hex_digit n) ≡ false)

escape_has_none : (p : ℕ → Bool) (b : ℕ) → NotWritten p b → list_any p (url_escape b) ≡ false
escape_has_none p b none = either (is_url_byte b) refl
  where
    either : (kept : Bool) → is_url_byte b ≡ kept → list_any p (if kept then b ∷ [] else percent_escape b) ≡ false
    either true e = or_from (p b) false (none.0 e) refl
    either false e = or_from (p 37) _ none.1 (or_from (p (hex_digit (b / 16 % 16))) _ (none.2 (b / 16 % 16) (omega arith)) (or_from (p (hex_digit (b % 16))) false (none.2 (b % 16) (omega arith)) refl))

-- neither `?` nor `#`
mark_none : (b : ℕ) → NotWritten is_mark b
mark_none b = ((λ one. grind (arith, nat_tests)), refl, (λ n small. grind (arith, nat_tests)))

pub marks_in_url : (p : List ℕ) → list_any is_mark (url_text p) ≡ false
unfolding url_text
marks_in_url [] = refl
marks_in_url (b ∷ bs) = list_any-append is_mark (url_escape b) (flat_map url_escape bs) ∙ or_from _ _ (escape_has_none is_mark b (mark_none b)) (marks_in_url bs)

-- no `/` but those of the path
slash_none : (b : ℕ) → is_slash b ≡ false → NotWritten is_slash b
slash_none b other = ((λ one. other), refl, (λ n small. grind (arith, nat_tests)))

pub slashes_in_url : (p : List ℕ) → list_any is_slash p ≡ false → list_any is_slash (url_text p) ≡ false
unfolding url_text
slashes_in_url [] none = refl
slashes_in_url (b ∷ bs) none =
    let parts = or_parts (is_slash b) (list_any is_slash bs) none in
    list_any-append is_slash (url_escape b) (flat_map url_escape bs) ∙ or_from _ _ (escape_has_none is_slash b (slash_none b parts.0)) (slashes_in_url bs parts.1)

pub url_text-append : (xs ys : List ℕ) → url_text (xs ++ ys) ≡ url_text xs ++ url_text ys
unfolding url_text
url_text-append xs ys = flat_map-append url_escape xs ys

pub url_text-slash : (ys : List ℕ) → url_text (47 ∷ ys) ≡ 47 ∷ url_text ys
unfolding url_text
url_text-slash ys = refl

pub url_text-some : (p : List ℕ) → nat_eq (length p) 0 ≡ false → 1 ≤ length (url_text p)
unfolding url_text
url_text-some [] some = absurd (no_way some)
  where
    no_way : true ≡ false → ⊥
    no_way e = cc
url_text-some (b ∷ bs) some = either (is_url_byte b)
  where
    either : (kept : Bool) → 1 ≤ length ((if kept then b ∷ [] else percent_escape b) ++ flat_map url_escape bs)
    either true = omega arith
    either false = omega arith
