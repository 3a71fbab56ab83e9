-- What is written is UTF-8 of characters that a document may have, without CR.
use Rattle.std.proofs.Common.{◌≡◌, ℕ, Bool, true, false, not, ◌&&◌, ◌||◌, ◌<◌, ◌+◌, List, [], ◌∷◌, ◌++◌, length, take, drop, get_or, refl, sym, ap, subst, ◌∙◌, arith, nat_eq, nat_le, nat_lt, zero, suc, ◌⊎◌, inl, inr, append_assoc, length-append}
use Rattle.std.proofs.lemmas.List.{take_at, drop_at, get_or_at}
use Rattle.std.proofs.lemmas.List.Folds.{list_all-append}
use Rattle.std.proofs.lemmas.Bool.Decides.{nat_tests}
use Rattle.std.proofs.lemmas.Str.{IsUtf8-append, IsUtf8-from_ascii, IsUtf8-take, IsUtf8-drop, IsCharBoundary-before_ascii, IsCharBoundary-after_ascii, IsUtf8-from_is_utf8, is_utf8-from_IsUtf8}
use Rattle.std.specs.List.{flat_map, list_all}
use Rattle.std.specs.Cmp.Lexicographic.{pointwise}
use Rattle.std.specs.Str.{IsUtf8, IsAscii, is_utf8}
use Rattle.dsv_base.specs.Paths.{has_noncharacter}
use Rattle.dsv_base.specs.Escapes.{xml_escape, xml_text, is_xml_byte, xml_plain}
use Rattle.dav_documents.specs.Plain.{begins_name, is_written_name_byte, is_written_name}
use Rattle.dav_documents.specs.Written.{Attribute, Written, Nothing, Element, attribute_text, after_attributes, element_text, written_text, declaration, page_text, body_text, is_plain_attribute, is_plain}
use Rattle.dav_reading.specs.LineEnds.{lines_joined}
use Rattle.dav_reading.proofs.Steps.{both, by_test, same_number}
use Rattle.dav_reading.proofs.Spelling.{attribute_spelled, inside_spelled, element_spelled}

abbrev is_line_byte : ℕ → Bool
is_line_byte b = nat_le 32 b || nat_eq b 9 || nat_eq b 10

pub record Clean (text : List ℕ) : Type 0 where
  pub utf8 : IsUtf8 text
  pub lines : list_all is_line_byte text ≡ true
  pub clear : has_noncharacter text ≡ false

pub and_true : (a b : Bool) → a ≡ true → b ≡ true → (a && b) ≡ true
and_true a b h k = rw (h, k) refl

or_false : (a b : Bool) → a ≡ false → b ≡ false → (a || b) ≡ false
or_false a b h k = rw (h, k) refl

neither : (a b : Bool) → (a || b) ≡ false → (a ≡ false) × (b ≡ false)
neither true b h = absurd (cc)
neither false b h = (refl, h)

-- bytes of ASCII
abbrev pub is_low : ℕ → Bool
is_low b = nat_lt b 128

abbrev begins_low : List ℕ → Bool
begins_low [] = true
begins_low (b ∷ bs) = is_low b

not_high : (b n : ℕ) → is_low b ≡ true → nat_le 128 n ≡ true → nat_eq n b ≡ false
not_high b n h k = grind (arith, nat_tests)

-- the last bytes of a noncharacter
abbrev ends_one : ℕ → List ℕ → Bool
ends_one last bs = pointwise nat_eq (last ∷ []) (take 1 bs)

abbrev ends_two : ℕ → List ℕ → Bool
ends_two last bs = pointwise nat_eq (191 ∷ last ∷ []) (take 2 bs)

and_false : (a b : Bool) → b ≡ false → (a && b) ≡ false
and_false true b h = h
and_false false b h = refl

front_two : (last : ℕ) (xs ys : List ℕ) → nat_le 128 last ≡ true → begins_low ys ≡ true → ends_two last (xs ++ ys) ≡ ends_two last xs
front_two last [] [] h l = refl
front_two last [] (y ∷ ys) h l = rw (not_high y 191 l refl) refl
front_two last (x ∷ []) [] h l = refl
front_two last (x ∷ []) (y ∷ ys) h l = rw (not_high y last l h) refl
front_two last (x ∷ z ∷ xs) ys h l = refl

clear-append : (xs ys : List ℕ) → begins_low ys ≡ true → has_noncharacter xs ≡ false → has_noncharacter ys ≡ false → has_noncharacter (xs ++ ys) ≡ false
clear-append [] ys l h k = k
clear-append (x ∷ xs) ys l h k =
    let e = neither (nat_eq 239 x && ends_two 190 xs || (nat_eq 239 x && ends_two 191 xs)) (has_noncharacter xs) h in
    rw (front_two 190 xs ys refl l, front_two 191 xs ys refl l) (or_false _ _ e.0 (clear-append xs ys l e.1 k))

clean-append : (xs ys : List ℕ) → begins_low ys ≡ true → Clean xs → Clean ys → Clean (xs ++ ys)
clean-append xs ys l f g = record {
  utf8 = IsUtf8-append xs ys f.utf8 g.utf8;
  lines = list_all-append is_line_byte xs ys ∙ and_true (list_all is_line_byte xs) (list_all is_line_byte ys) f.lines g.lines;
  clear = clear-append xs ys l f.clear g.clear;
}

-- texts that compute
low : (b : ℕ) → is_low b ≡ true → b < 128
low b h = grind (arith, nat_tests)

ascii : (xs : List ℕ) → list_all is_low xs ≡ true → IsAscii xs
ascii [] h i = omega arith
ascii (x ∷ xs) h zero = low x (both (is_low x) (list_all is_low xs) h).0
ascii (x ∷ xs) h (suc i) = ascii xs (both (is_low x) (list_all is_low xs) h).1 i

utf8_low : (xs : List ℕ) → list_all is_low xs ≡ true → IsUtf8 xs
utf8_low xs u = IsUtf8-from_ascii xs (ascii xs u)

clear_low : (xs ys : List ℕ) → list_all is_low xs ≡ true → has_noncharacter (xs ++ ys) ≡ has_noncharacter ys
clear_low [] ys h = refl
clear_low (x ∷ xs) ys h = let p = both (is_low x) (list_all is_low xs) h in rw (not_high x 239 p.0 refl) (clear_low xs ys p.1)

clean : (xs : List ℕ) → list_all is_low xs ≡ true → list_all is_line_byte xs ≡ true → has_noncharacter xs ≡ false → Clean xs
clean xs u l c = record { utf8 = utf8_low xs u; lines = l; clear = c }

weaker : (p q : ℕ → Bool) → ((b : ℕ) → p b ≡ true → q b ≡ true) → (xs : List ℕ) → list_all p xs ≡ true → list_all q xs ≡ true
weaker p q w [] h = refl
weaker p q w (x ∷ xs) h = let e = both (p x) (list_all p xs) h in and_true (q x) (list_all q xs) (w x e.0) (weaker p q w xs e.1)

-- what a text of XML's characters is
record Plain (text : List ℕ) : Type 0 where
  pub utf8 : is_utf8 text ≡ true
  pub bytes : list_all is_xml_byte text ≡ true
  pub clear : has_noncharacter text ≡ false

not_true : (b : Bool) → not b ≡ true → b ≡ false
not_true true h = absurd (cc)
not_true false h = refl

plain : (text : List ℕ) → xml_plain text ≡ true → Plain text
unfolding xml_plain
plain text h =
    let p = both (is_utf8 text && list_all is_xml_byte text) (not (has_noncharacter text)) h in
    let q = both (is_utf8 text) (list_all is_xml_byte text) p.0 in
    record { utf8 = q.0; bytes = q.1; clear = not_true (has_noncharacter text) p.1 }

-- names
no_name : (b : ℕ) → is_written_name_byte b ≡ true → nat_le 32 b ≡ false → ⊥
no_name b h n = grind (arith, nat_tests)

name_line : (b : ℕ) → is_written_name_byte b ≡ true → is_line_byte b ≡ true
name_line b h = by_test (nat_le 32 b) (λ e. rw e refl) λ n. absurd (no_name b h n)

or_true : (a b c d e : Bool) → a ≡ true → (a || b || c || d || e) ≡ true
or_true true b c d e h = refl
or_true false b c d e h = absurd (cc)

-- a name's first byte and the others
pub record Name (c : ℕ) (cs : List ℕ) : Type 0 where
  pub first : begins_name c ≡ true
  pub others : list_all is_written_name_byte cs ≡ true
  pub plain : xml_plain (c ∷ cs) ≡ true

pub name_of : (c : ℕ) (cs : List ℕ) → is_written_name (c ∷ cs) ≡ true → Name c cs
unfolding is_written_name
name_of c cs h =
    let p = both (begins_name c && list_all is_written_name_byte cs) (xml_plain (c ∷ cs)) h in
    let q = both (begins_name c) (list_all is_written_name_byte cs) p.0 in
    record { first = q.0; others = q.1; plain = p.1 }

pub no_empty_name : is_written_name [] ≡ true → ⊥
unfolding is_written_name
no_empty_name h = cc

pub name_bytes : (name : List ℕ) → is_written_name name ≡ true → list_all is_written_name_byte name ≡ true
name_bytes [] h = refl
name_bytes (c ∷ cs) h = let n = name_of c cs h in and_true (is_written_name_byte c) (list_all is_written_name_byte cs) (or_true (begins_name c) _ _ _ _ n.first) n.others

clean-name : (name : List ℕ) → is_written_name name ≡ true → Clean name
clean-name [] h = absurd (no_empty_name h)
clean-name (c ∷ cs) h =
    let p = plain (c ∷ cs) (name_of c cs h).plain in
    record { utf8 = IsUtf8-from_is_utf8 (c ∷ cs) p.utf8; lines = weaker is_written_name_byte is_line_byte name_line (c ∷ cs) (name_bytes (c ∷ cs) h); clear = p.clear }

-- a text cut at an ASCII byte
record Cut (front bs : List ℕ) : Type 0 where
  pub before : IsUtf8 front
  pub after : IsUtf8 bs

cut : (front bs : List ℕ) (b : ℕ) → b < 128 → IsUtf8 (front ++ b ∷ bs) → Cut front bs
cut front bs b l u =
    let all = front ++ b ∷ bs in
    let long : length front < length all = omega (arith, length-append front (b ∷ bs)) in
    let here : get_or all (length front) 0 < 128 = rw (get_or_at front b bs 0 (length front) refl) l in
    record {
      before = subst (λ x. IsUtf8 x) (take_at front (b ∷ bs) (length front) refl) (IsUtf8-take all (length front) u (IsCharBoundary-before_ascii all (length front) long here));
      after = subst (λ x. IsUtf8 x) (ap (λ x. drop (length front + 1) x) (sym (append_assoc front (b ∷ []) bs)) ∙ drop_at (front ++ b ∷ []) bs (length front + 1) (length-append front (b ∷ [])))
          (IsUtf8-drop all (length front + 1) u (IsCharBoundary-after_ascii all (length front) u long here));
    }

-- escaping
plain_line : (b : ℕ) → nat_eq b 13 ≡ false → is_xml_byte b ≡ true → (is_line_byte b && true) ≡ true
plain_line b n h = grind (arith, nat_tests)

special_line : (b : ℕ) → is_xml_byte b ≡ true → list_all is_line_byte (xml_escape b) ≡ true
special_line b h =
    let P : ℕ → Type 0 = λ x. list_all is_line_byte (xml_escape x) ≡ true in
    by_test (nat_eq b 38) (λ e. subst P (sym (same_number b 38 e)) refl) λ n38.
    by_test (nat_eq b 60) (λ e. subst P (sym (same_number b 60 e)) refl) λ n60.
    by_test (nat_eq b 62) (λ e. subst P (sym (same_number b 62 e)) refl) λ n62.
    by_test (nat_eq b 34) (λ e. subst P (sym (same_number b 34 e)) refl) λ n34.
    by_test (nat_eq b 13) (λ e. subst P (sym (same_number b 13 e)) refl) λ n13.
    simp (n38, n60, n62, n34, n13) (plain_line b n13 h)

escaped_lines : (text : List ℕ) → list_all is_xml_byte text ≡ true → list_all is_line_byte (xml_text text) ≡ true
unfolding xml_text
escaped_lines [] h = refl
escaped_lines (b ∷ bs) h = let p = both (is_xml_byte b) (list_all is_xml_byte bs) h in
    list_all-append is_line_byte (xml_escape b) (xml_text bs) ∙ and_true (list_all is_line_byte (xml_escape b)) (list_all is_line_byte (xml_text bs)) (special_line b p.0) (escaped_lines bs p.1)

-- a byte is written as it is, or is ASCII and written as a reference
record Special (b : ℕ) : Type 0 where
  pub low : is_low b ≡ true
  pub tail : List ℕ
  pub is : xml_escape b ≡ 38 ∷ tail
  pub lows : list_all is_low tail ≡ true

special : (b : ℕ) → (xml_escape b ≡ b ∷ []) ⊎ Special b
special b =
    let P : ℕ → Type 0 = λ x. Special x in
    by_test (nat_eq b 38) (λ e. inr (subst P (sym (same_number b 38 e)) (record { low = refl; tail = _; is = refl; lows = refl }))) λ n38.
    by_test (nat_eq b 60) (λ e. inr (subst P (sym (same_number b 60 e)) (record { low = refl; tail = _; is = refl; lows = refl }))) λ n60.
    by_test (nat_eq b 62) (λ e. inr (subst P (sym (same_number b 62 e)) (record { low = refl; tail = _; is = refl; lows = refl }))) λ n62.
    by_test (nat_eq b 34) (λ e. inr (subst P (sym (same_number b 34 e)) (record { low = refl; tail = _; is = refl; lows = refl }))) λ n34.
    by_test (nat_eq b 13) (λ e. inr (subst P (sym (same_number b 13 e)) (record { low = refl; tail = _; is = refl; lows = refl }))) λ n13.
    inl (simp (n38, n60, n62, n34, n13))

escaped_utf8 : (front text : List ℕ) → IsUtf8 (front ++ text) → IsUtf8 (front ++ xml_text text)
unfolding xml_text
escaped_utf8 front [] u = u
escaped_utf8 front (b ∷ bs) u = elim (special b) [
  | inl e ↦ subst (λ x. IsUtf8 x) (append_assoc front (b ∷ []) (xml_text bs) ∙ ap (λ x. front ++ (x ++ xml_text bs)) (sym e)) (escaped_utf8 (front ++ b ∷ []) bs (subst (λ x. IsUtf8 x) (sym (append_assoc front (b ∷ []) bs)) u))
  | inr s ↦ let c = cut front bs b (low b s.low) u in
      IsUtf8-append front (xml_escape b ++ xml_text bs) c.before (IsUtf8-append (xml_escape b) (xml_text bs) (rw s.is (utf8_low (38 ∷ s.tail) s.lows)) (escaped_utf8 [] bs c.after))
]

escaped_one : (last : ℕ) (text : List ℕ) → nat_le 128 last ≡ true → ends_one last (xml_text text) ≡ ends_one last text
unfolding xml_text
escaped_one last [] h = refl
escaped_one last (b ∷ bs) h = elim (special b) [
  | inl e ↦ rw e refl
  | inr s ↦ rw (s.is, not_high b last s.low h, not_high 38 last refl h) refl
]

escaped_two : (last : ℕ) (text : List ℕ) → nat_le 128 last ≡ true → ends_two last (xml_text text) ≡ ends_two last text
unfolding xml_text
escaped_two last [] h = refl
escaped_two last (b ∷ bs) h = elim (special b) [
  | inl e ↦ rw e (ap (λ t. nat_eq 191 b && t) (escaped_one last bs h))
  | inr s ↦ rw (s.is, not_high b 191 s.low refl) refl
]

escaped_clear : (text : List ℕ) → has_noncharacter text ≡ false → has_noncharacter (xml_text text) ≡ false
unfolding xml_text
escaped_clear [] h = refl
escaped_clear (b ∷ bs) h =
    let e = neither (nat_eq 239 b && ends_two 190 bs || (nat_eq 239 b && ends_two 191 bs)) (has_noncharacter bs) h in
    elim (special b) [
      | inl is ↦ rw (is, escaped_two 190 bs refl, escaped_two 191 bs refl) (or_false _ _ e.0 (escaped_clear bs e.1))
      | inr s ↦ rw s.is (clear_low (38 ∷ s.tail) (xml_text bs) s.lows ∙ escaped_clear bs e.1)
    ]

clean-escaped : (text : List ℕ) → xml_plain text ≡ true → Clean (xml_text text)
clean-escaped text h = let p = plain text h in record { utf8 = escaped_utf8 [] text (IsUtf8-from_is_utf8 text p.utf8); lines = escaped_lines text p.bytes; clear = escaped_clear text p.clear }

-- literals
open_quote : Clean (61 ∷ 34 ∷ [])
open_quote = clean (61 ∷ 34 ∷ []) refl refl refl

close_quote : Clean (34 ∷ [])
close_quote = clean (34 ∷ []) refl refl refl

blank : Clean (32 ∷ [])
blank = clean (32 ∷ []) refl refl refl

less : Clean (60 ∷ [])
less = clean (60 ∷ []) refl refl refl

more : Clean (62 ∷ [])
more = clean (62 ∷ []) refl refl refl

empty_end : Clean (47 ∷ 62 ∷ [])
empty_end = clean (47 ∷ 62 ∷ []) refl refl refl

end_mark : Clean (60 ∷ 47 ∷ [])
end_mark = clean (60 ∷ 47 ∷ []) refl refl refl

line : Clean (10 ∷ [])
line = clean (10 ∷ []) refl refl refl

clean-declaration : Clean declaration
clean-declaration = clean declaration refl refl refl

none : Clean []
none = clean [] refl refl refl

-- trees
low-attributes : (attributes : List Attribute) (rest : List ℕ) → begins_low rest ≡ true → begins_low (flat_map attribute_text attributes ++ rest) ≡ true
low-attributes [] rest h = h
low-attributes (a ∷ others) rest h = refl

low-inside : (name content : List ℕ) → begins_low (after_attributes name content) ≡ true
low-inside name [] = refl
low-inside name (b ∷ bs) = refl

low-written : (w : Written) → begins_low (written_text w) ≡ true
low-written Nothing = refl
low-written (Element name attributes text inside rest) = refl

-- behind ASCII anything may follow
clean-after : (xs ys : List ℕ) → list_all is_low xs ≡ true → Clean xs → Clean ys → Clean (xs ++ ys)
clean-after xs ys l f g = record {
  utf8 = IsUtf8-append xs ys f.utf8 g.utf8;
  lines = list_all-append is_line_byte xs ys ∙ and_true (list_all is_line_byte xs) (list_all is_line_byte ys) f.lines g.lines;
  clear = clear_low xs ys l ∙ g.clear;
}

low-all : (attributes : List Attribute) → begins_low (flat_map attribute_text attributes) ≡ true
low-all [] = refl
low-all (a ∷ others) = refl

clean-attributes : (attributes : List Attribute) → list_all is_plain_attribute attributes ≡ true → Clean (flat_map attribute_text attributes)
clean-attributes [] h = none
clean-attributes (a ∷ attributes) h =
    let p = both (is_plain_attribute a) (list_all is_plain_attribute attributes) h in
    let q = both (is_written_name a.name) (xml_plain a.value) p.0 in
    clean-append (attribute_text a) (flat_map attribute_text attributes) (low-all attributes)
    (subst Clean (sym (attribute_spelled a.name a.value))
    (clean-after (32 ∷ []) (a.name ++ 61 ∷ 34 ∷ (xml_text a.value ++ 34 ∷ [])) refl blank
    (clean-append a.name (61 ∷ 34 ∷ (xml_text a.value ++ 34 ∷ [])) refl (clean-name a.name q.0)
    (clean-after (61 ∷ 34 ∷ []) (xml_text a.value ++ 34 ∷ []) refl open_quote (clean-append (xml_text a.value) (34 ∷ []) refl (clean-escaped a.value q.1) close_quote)))))
    (clean-attributes attributes p.1)

clean-inside : (name content : List ℕ) → Clean name → Clean content → Clean (after_attributes name content)
clean-inside name [] n c = empty_end
clean-inside name (b ∷ bs) n c = subst Clean (sym (inside_spelled name b bs)) (clean-after (62 ∷ []) (b ∷ bs ++ (60 ∷ 47 ∷ (name ++ 62 ∷ []))) refl more
    (clean-append (b ∷ bs) (60 ∷ 47 ∷ (name ++ 62 ∷ [])) refl c (clean-after (60 ∷ 47 ∷ []) (name ++ 62 ∷ []) refl end_mark (clean-append name (62 ∷ []) refl n more))))

clean-written : (w : Written) → is_plain w ≡ true → Clean (written_text w)
clean-written Nothing h = none
clean-written (Element name attributes text inside rest) h =
    let h1 = both (is_written_name name && list_all is_plain_attribute attributes && xml_plain text && is_plain inside) (is_plain rest) h in
    let h2 = both (is_written_name name && list_all is_plain_attribute attributes && xml_plain text) (is_plain inside) h1.0 in
    let h3 = both (is_written_name name && list_all is_plain_attribute attributes) (xml_plain text) h2.0 in
    let h4 = both (is_written_name name) (list_all is_plain_attribute attributes) h3.0 in
    let content = xml_text text ++ written_text inside in
    clean-append (element_text name attributes content) (written_text rest) (low-written rest)
    (subst Clean (sym (element_spelled name content attributes))
    (clean-after (60 ∷ []) (name ++ (flat_map attribute_text attributes ++ after_attributes name content)) refl less
    (clean-append name (flat_map attribute_text attributes ++ after_attributes name content) (low-attributes attributes (after_attributes name content) (low-inside name content)) (clean-name name h4.0)
    (clean-append (flat_map attribute_text attributes) (after_attributes name content) (low-inside name content) (clean-attributes attributes h4.1)
    (clean-inside name content (clean-name name h4.0) (clean-append (xml_text text) (written_text inside) (low-written inside) (clean-escaped text h3.1) (clean-written inside h2.1)))))))
    (clean-written rest h1.1)

pub clean-body : (w : Written) → is_plain w ≡ true → Clean (body_text w)
unfolding body_text page_text
clean-body w h = clean-after declaration (written_text w ++ 10 ∷ []) refl clean-declaration (clean-append (written_text w) (10 ∷ []) refl (clean-written w h) line)

-- and so passes the reader's tests as it is
line_plain : (b : ℕ) → is_line_byte b ≡ true → is_xml_byte b ≡ true
line_plain b h = grind (arith, nat_tests)

line_no_return : (b : ℕ) → is_line_byte b ≡ true → nat_eq b 13 ≡ false
line_no_return b h = grind (arith, nat_tests)

pub clean-plain : (text : List ℕ) → Clean text → xml_plain text ≡ true
unfolding xml_plain
clean-plain text f = and_true (is_utf8 text && list_all is_xml_byte text) (not (has_noncharacter text))
    (and_true (is_utf8 text) (list_all is_xml_byte text) (is_utf8-from_IsUtf8 text f.utf8) (weaker is_line_byte is_xml_byte line_plain text f.lines)) (ap not f.clear)

pub lines_joined-clean : (text : List ℕ) → list_all is_line_byte text ≡ true → lines_joined text ≡ text
lines_joined-clean [] h = refl
lines_joined-clean (b ∷ bs) h = let p = both (is_line_byte b) (list_all is_line_byte bs) h in rw (line_no_return b p.0) (ap (λ l. b ∷ l) (lines_joined-clean bs p.1))
