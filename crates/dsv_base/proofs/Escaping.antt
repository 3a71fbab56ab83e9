-- The kit's escapes of a URL are those of our definition.
use Rattle.std.proofs.Common.{◌≡◌, ℕ, ◌<◌, ◌≤◌, Bool, true, false, not, ◌||◌, List, [], ◌∷◌, ◌++◌, cond, nat_lt, refl, ap, sym, ◌∙◌, arith, ⊎_elim}
use Rattle.std.specs.List.{All, flat_map}
use Rattle.std.proofs.lemmas.Bool.{agree_below, agree_below_at, cases_lt, lt-ltb, le-ltb}
use Rattle.std.proofs.lemmas.Bool.Decides.{nat_tests}
use Rattle.percent_encoding.specs.AsciiSet.{contains, should_percent_encode}
use Rattle.percent_encoding.specs.Percent.{percent_decode, percent_encode, percent_encode_byte, encode_byte}
use Rattle.percent_encoding.proofs.PercentLemmas.{IsByte, round_trip}
use Rattle.dsv_base.specs.declared.escapes.TheConstants.{ESCAPED}
use Rattle.dsv_base.specs.Escapes.{is_url_byte, percent_escape, url_escape, url_text}

same_ascii : agree_below (contains ESCAPED) (λ b. not (is_url_byte b)) 128 ≡ true
same_ascii = refl

other_byte : (b : ℕ) → 128 ≤ b → not (is_url_byte b) ≡ true
other_byte b large = grind (arith, nat_tests)

same_test : (b : ℕ) → should_percent_encode ESCAPED b ≡ not (is_url_byte b)
unfolding should_percent_encode
same_test b = ⊎_elim (λ small. low small (agree_below_at (contains ESCAPED) (λ b. not (is_url_byte b)) 128 b same_ascii small)) (λ large. high large) (cases_lt b 128)
  where
    low : b < 128 → contains ESCAPED b ≡ not (is_url_byte b) → (not (nat_lt b 128) || contains ESCAPED b) ≡ not (is_url_byte b)
    low small same = ap (λ ascii. not ascii || contains ESCAPED b) (lt-ltb b 128 small) ∙ same

    high : 128 ≤ b → (not (nat_lt b 128) || contains ESCAPED b) ≡ not (is_url_byte b)
    high large = ap (λ ascii. not ascii || contains ESCAPED b) (le-ltb b 128 large) ∙ sym (other_byte b large)

same_escape : (b : ℕ) → encode_byte ESCAPED b ≡ url_escape b
unfolding percent_encode_byte
same_escape b = ap (λ escaped. cond escaped (percent_escape b) (b ∷ [])) (same_test b) ∙ either (is_url_byte b)
  where
    either : (stays : Bool) → cond (not stays) (percent_escape b) (b ∷ []) ≡ cond stays (b ∷ []) (percent_escape b)
    either true = refl
    either false = refl

pub percent_encode-url_text : (path : List ℕ) → percent_encode ESCAPED path ≡ url_text path
unfolding percent_encode url_text
percent_encode-url_text [] = refl
percent_encode-url_text (b ∷ bs) = ap (λ front. front ++ flat_map (encode_byte ESCAPED) bs) (same_escape b) ∙ ap (λ rest. url_escape b ++ rest) (percent_encode-url_text bs)

has_percent : contains ESCAPED 37 ≡ true
has_percent = refl

-- a path that is written in a URL is read back
pub percent_decode-url_text : (path : List ℕ) → All IsByte path → percent_decode (url_text path) ≡ path
percent_decode-url_text path small = ap percent_decode (sym (percent_encode-url_text path)) ∙ round_trip ESCAPED path has_percent small
