-- Steps of the reader over the pieces that are written.
use Rattle.std.proofs.Common.{◌≡◌, ℕ, Bool, true, false, cond, ◌&&◌, List, [], ◌∷◌, ◌++◌, map, Option, Some, None, refl, sym, ap, subst, ◌∙◌, arith, nat_eq, append_assoc}
use Rattle.std.proofs.lemmas.List.{append-nil}
use Rattle.std.proofs.lemmas.Option.{same_Some}
use Rattle.std.proofs.lemmas.Bool.Decides.{nat_tests}
use Rattle.std.specs.Prelude.{◌+◌, option_and_then, option_map}
use Rattle.std.specs.List.{list_all}
use Rattle.std.specs.Char.{encode_utf8}
use Rattle.dsv_base.specs.Escapes.{xml_escape, xml_text}
use Rattle.dav_documents.specs.Plain.{is_written_name_byte}
use Rattle.dav_elements.specs.declared.tag.Tag.{Tag}
use Rattle.dav_elements.specs.declared.frame.Frame.{Frame}
use Rattle.dav_elements.specs.declared.progress.Progress.{Progress}
use Rattle.dav_elements.specs.declared.progress.Progress.TheVariants.{Within}
use Rattle.dav_reading.specs.declared.mode.Place.{Place}
use Rattle.dav_reading.specs.declared.mode.Reader.{Reader}
use Rattle.dav_reading.specs.declared.mode.Brackets.{Brackets}
use Rattle.dav_reading.specs.declared.mode.Mode.{Mode}
use Rattle.dav_reading.specs.declared.mode.Mode.TheVariants.{Closing, Content, Keying, Naming, Valued}
use Rattle.dav_reading.specs.LineEnds.{blanked}
use Rattle.dav_reading.specs.References.{referred, char_bytes}
use Rattle.dav_reading.specs.Modes.{brackets_with, read_byte, read_bytes}

-- a reader that has seen so many elements begin, and no left-out form
abbrev pub placed_in : ℕ → Mode → Progress → Reader
placed_in n mode progress = record { place = record { mode = mode; progress = progress }; begun = n; form = None }

-- where it stands after a step
abbrev pub then_in : ℕ → Mode → Progress → Option Reader
then_in n mode progress = Some (placed_in n mode progress)

pub both : (a b : Bool) → (a && b) ≡ true → (a ≡ true) × (b ≡ true)
both true b h = (refl, h)
both false b h = absurd (cc)

pub by_test : {P : Type 0} (t : Bool) → (t ≡ true → P) → (t ≡ false → P) → P
by_test true passed failed = passed refl
by_test false passed failed = failed refl

pub same_number : (b n : ℕ) → nat_eq b n ≡ true → b ≡ n
same_number b n h = grind (arith, nat_tests)

-- reading goes on from where its front ends
goes_on : (o : Option Reader) (k : Reader) (xs ys : List ℕ) → ((m : Reader) → read_bytes m xs ≡ Some k → read_bytes m (xs ++ ys) ≡ read_bytes k ys) → option_and_then (λ n. read_bytes n xs) o ≡ Some k → option_and_then (λ n. read_bytes n (xs ++ ys)) o ≡ read_bytes k ys
goes_on None k xs ys ih h = absurd (cc)
goes_on (Some m) k xs ys ih h = ih m h

pub read_on : (m k : Reader) (xs ys : List ℕ) → read_bytes m xs ≡ Some k → read_bytes m (xs ++ ys) ≡ read_bytes k ys
read_on m k [] ys h = ap (λ x. read_bytes x ys) (same_Some m k h)
read_on m k (b ∷ xs) ys h = goes_on (read_byte m b) k xs ys (λ n e. read_on n k xs ys e) h

-- a test that is known
abbrev at_count : ℕ → Place → Reader
at_count n place = record { place = place; begun = n; form = None }

pub took : (n : ℕ) (t : Bool) (x y : Option Place) (bs : List ℕ) → t ≡ true → option_and_then (λ r. read_bytes r bs) (option_map (at_count n) (cond t x y)) ≡ option_and_then (λ r. read_bytes r bs) (option_map (at_count n) x)
took n t x y bs h = ap (λ v. option_and_then (λ r. read_bytes r bs) (option_map (at_count n) (cond v x y))) h

-- the test for a name behind `<`, by which an element begins
pub took_one : (n : ℕ) (t : Bool) (x y : Option Place) (bs : List ℕ) → t ≡ true → option_and_then (λ r. read_bytes r bs) (option_map (at_count (cond t (n + 1) n)) (cond t x y)) ≡ option_and_then (λ r. read_bytes r bs) (option_map (at_count (n + 1)) x)
took_one n t x y bs h = ap (λ v. option_and_then (λ r. read_bytes r bs) (option_map (at_count (cond v (n + 1) n)) (cond v x y))) h

-- names
spelled : (n : ℕ) (mode : List ℕ → Mode) (progress : Progress) → ((name : List ℕ) (b : ℕ) → is_written_name_byte b ≡ true → read_byte (placed_in n (mode name) progress) b ≡ then_in n (mode (name ++ b ∷ [])) progress)
    → (name more : List ℕ) → list_all is_written_name_byte more ≡ true → read_bytes (placed_in n (mode name) progress) more ≡ then_in n (mode (name ++ more)) progress
spelled n mode progress steps name [] h = ap (λ m. then_in n (mode m) progress) (sym (append-nil name))
spelled n mode progress steps name (b ∷ bs) h = let p = both (is_written_name_byte b) (list_all is_written_name_byte bs) h in
    ap (λ o. option_and_then (λ n. read_bytes n bs) o) (steps name b p.0) ∙ spelled n mode progress steps (name ++ b ∷ []) bs p.1 ∙ ap (λ m. then_in n (mode m) progress) (append_assoc name (b ∷ []) bs)

pub naming : (n : ℕ) (progress : Progress) (name more : List ℕ) → list_all is_written_name_byte more ≡ true → read_bytes (placed_in n (Naming name) progress) more ≡ then_in n (Naming (name ++ more)) progress
naming n progress = spelled n Naming progress (λ name b h. rw h refl)

pub keying : (n : ℕ) (progress : Progress) (tag : Tag) (name more : List ℕ) → list_all is_written_name_byte more ≡ true → read_bytes (placed_in n (Keying tag name) progress) more ≡ then_in n (Keying tag (name ++ more)) progress
keying n progress tag = spelled n (Keying tag) progress (λ name b h. rw h refl)

pub closing_name : (n : ℕ) (progress : Progress) (name more : List ℕ) → list_all is_written_name_byte more ≡ true → read_bytes (placed_in n (Closing name) progress) more ≡ then_in n (Closing (name ++ more)) progress
closing_name n progress = spelled n Closing progress (λ name b h. rw h refl)

-- values
value_byte : (n : ℕ) (progress : Progress) (tag : Tag) (key value : List ℕ) (b : ℕ) → read_bytes (placed_in n (Valued tag key 34 value) progress) (xml_escape b) ≡ then_in n (Valued tag key 34 (value ++ blanked b ∷ [])) progress
unfolding referred char_bytes encode_utf8
value_byte n progress tag key value b =
    let P : ℕ → Type 0 = λ x. read_bytes (placed_in n (Valued tag key 34 value) progress) (xml_escape x) ≡ then_in n (Valued tag key 34 (value ++ blanked x ∷ [])) progress in
    by_test (nat_eq b 38) (λ h. subst P (sym (same_number b 38 h)) refl) λ n38.
    by_test (nat_eq b 60) (λ h. subst P (sym (same_number b 60 h)) refl) λ n60.
    by_test (nat_eq b 62) (λ h. subst P (sym (same_number b 62 h)) refl) λ n62.
    by_test (nat_eq b 34) (λ h. subst P (sym (same_number b 34 h)) refl) λ n34.
    by_test (nat_eq b 13) (λ h. subst P (sym (same_number b 13 h)) refl) λ n13.
    simp (n38, n60, n62, n34, n13)

pub value_read : (n : ℕ) (progress : Progress) (tag : Tag) (key value more : List ℕ) → read_bytes (placed_in n (Valued tag key 34 value) progress) (xml_text more) ≡ then_in n (Valued tag key 34 (value ++ map blanked more)) progress
unfolding xml_text
value_read n progress tag key value [] = ap (λ v. then_in n (Valued tag key 34 v) progress) (sym (append-nil value))
value_read n progress tag key value (b ∷ bs) = read_on _ _ (xml_escape b) (xml_text bs) (value_byte n progress tag key value b) ∙ value_read n progress tag key (value ++ blanked b ∷ []) bs
    ∙ ap (λ v. then_in n (Valued tag key 34 v) progress) (append_assoc value (blanked b ∷ []) (map blanked bs))

-- texts
abbrev pub texted : Frame → List ℕ → Frame
texted f more = record f { text = f.text ++ more }

text_byte : (n : ℕ) (y : Brackets) (f : Frame) (around : List Frame) (b : ℕ) → read_bytes (placed_in n (Content y) (Within f around)) (xml_escape b) ≡ then_in n (Content (brackets_with y b)) (Within (texted f (b ∷ [])) around)
unfolding referred char_bytes encode_utf8
text_byte n y f around b =
    let P : ℕ → Type 0 = λ x. read_bytes (placed_in n (Content y) (Within f around)) (xml_escape x) ≡ then_in n (Content (brackets_with y x)) (Within (texted f (x ∷ [])) around) in
    by_test (nat_eq b 38) (λ h. subst P (sym (same_number b 38 h)) refl) λ n38.
    by_test (nat_eq b 60) (λ h. subst P (sym (same_number b 60 h)) refl) λ n60.
    by_test (nat_eq b 62) (λ h. subst P (sym (same_number b 62 h)) refl) λ n62.
    by_test (nat_eq b 34) (λ h. subst P (sym (same_number b 34 h)) refl) λ n34.
    by_test (nat_eq b 13) (λ h. subst P (sym (same_number b 13 h)) refl) λ n13.
    simp (n38, n60, n62, n34, n13)

-- how many `]` stand in a row behind a text
abbrev pub brackets_behind : Brackets → List ℕ → Brackets
brackets_behind y [] = y
brackets_behind y (b ∷ bs) = brackets_behind (brackets_with y b) bs

pub text_read : (n : ℕ) (y : Brackets) (f : Frame) (around : List Frame) (more : List ℕ) → read_bytes (placed_in n (Content y) (Within f around)) (xml_text more) ≡ then_in n (Content (brackets_behind y more)) (Within (texted f more) around)
unfolding xml_text
text_read n y f around [] = ap (λ t. then_in n (Content y) (Within (record f { text = t }) around)) (sym (append-nil f.text))
text_read n y f around (b ∷ bs) = read_on _ _ (xml_escape b) (xml_text bs) (text_byte n y f around b) ∙ text_read n (brackets_with y b) (texted f (b ∷ [])) around bs
    ∙ ap (λ t. then_in n (Content (brackets_behind y (b ∷ bs))) (Within (record f { text = t }) around)) (append_assoc f.text (b ∷ []) bs)
