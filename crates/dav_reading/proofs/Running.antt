-- A run that is read in one step is read as its bytes one by one.
use Rattle.std.proofs.Common.{◌≡◌, ℕ, Bool, true, false, cond, ◌&&◌, not, List, [], ◌∷◌, ◌++◌, Option, Some, None, refl, sym, ap, subst, ◌∙◌, arith, nat_eq, append_assoc}
use Rattle.std.proofs.lemmas.List.{append-nil}
use Rattle.std.proofs.lemmas.Option.{same_Some}
use Rattle.std.proofs.lemmas.Bool.Decides.{nat_tests}
use Rattle.std.specs.Prelude.{option_and_then, option_map, if◌then◌else◌}
use Rattle.dsv_base.specs.Lines.{cut_at}
use Rattle.std.specs.Prelude.{Result, Err}
use Rattle.dav_elements.specs.declared.unread.Unread.TheVariants.{Bad, NoMemory}
use Rattle.dav_elements.specs.declared.unread.Unread.{Unread}
use Rattle.dav_elements.specs.declared.tag.Tag.{Tag}
use Rattle.dav_elements.specs.declared.frame.Frame.{Frame}
use Rattle.dav_elements.specs.declared.progress.Progress.{Progress}
use Rattle.dav_elements.specs.declared.progress.Progress.TheVariants.{Within}
use Rattle.dav_elements.specs.Growing.{refer}
use Rattle.dav_reading.specs.declared.form_place.FormPlace.{FormPlace}
use Rattle.dav_reading.specs.declared.mode.Brackets.TheVariants.{Zero}
use Rattle.dav_reading.specs.declared.mode.Mode.TheVariants.{Closing, Content, Keying, Naming, TextRef, Valued, ValueRef}
use Rattle.dav_reading.specs.declared.mode.Reader.{Reader}
use Rattle.dav_reading.specs.declared.run.Run.{Run}
use Rattle.dav_reading.specs.declared.run.Run.TheVariants.{Name, Text, Value, Reference}
use Rattle.dav_reading.specs.References.{referred}
use Rattle.dav_reading.specs.Asides.{now_in, then_between}
use Rattle.dav_reading.specs.Modes.{first_form, reader_with, read_byte, read_bytes, read_in}
use Rattle.dav_reading.specs.Runs.{GoesBy, goes, put, run_left, reader_at, reader_in, GoesOn, Refers, in_text, in_value, reference_in}

-- no form here changes nothing
kept : (form : Option FormPlace) → first_form form None ≡ form
kept None = refl
kept (Some form) = refl

-- the run is read from any reader that goes on with each of its bytes
run_read : (run : Run) (at : List ℕ → Reader) → GoesOn run at → (read text : List ℕ) → read_bytes (at (run_left run read text).0) (run_left run read text).1 ≡ read_bytes (at read) text
run_read run at on read [] = refl
run_read run at on read (b ∷ bs) = turn (goes run b) refl (run_read run at on (read ++ put run b ∷ []) bs)
  where
    turn : (t : Bool) → goes run b ≡ t → read_bytes (at (run_left run (read ++ put run b ∷ []) bs).0) (run_left run (read ++ put run b ∷ []) bs).1 ≡ read_bytes (at (read ++ put run b ∷ [])) bs
        → read_bytes (at (cond t (run_left run (read ++ put run b ∷ []) bs) (read, b ∷ bs)).0) (cond t (run_left run (read ++ put run b ∷ []) bs) (read, b ∷ bs)).1 ≡ read_bytes (at read) (b ∷ bs)
    turn true h later = later ∙ sym (ap (option_and_then (λ next. read_bytes next bs)) (on read b h))
    turn false h later = refl

pub run_is : (run : Run) (at : List ℕ → Reader) → GoesOn run at → (read text more rest : List ℕ) → (more, rest) ≡ run_left run read text → read_bytes (at more) rest ≡ read_bytes (at read) text
run_is run at on read text more rest e =
    let P : List ℕ × List ℕ → Type 0 = λ x. read_bytes (at x.0) x.1 ≡ read_bytes (at read) text in
    subst P (sym e) (run_read run at on read text)

pub name_on : (progress : Progress) (begun : ℕ) (form : Option FormPlace) → GoesOn Name (λ n. reader_in (Naming n) progress begun form)
name_on progress begun form read b h = rw (h, kept form) refl

pub key_on : (progress : Progress) (tag : Tag) (begun : ℕ) (form : Option FormPlace) → GoesOn Name (λ n. reader_in (Keying tag n) progress begun form)
key_on progress tag begun form read b h = rw (h, kept form) refl

pub closing_on : (progress : Progress) (begun : ℕ) (form : Option FormPlace) → GoesOn Name (λ n. reader_in (Closing n) progress begun form)
closing_on progress begun form read b h = rw (h, kept form) refl

-- no test of three passes
record AllFail (a b c : Bool) : Type 0 where
  pub first : a ≡ false
  pub second : b ≡ false
  pub third : c ≡ false

all_fail : (a b c : Bool) → (not a && not b && not c) ≡ true → AllFail a b c
all_fail false false false h = record { first = refl; second = refl; third = refl }
all_fail true b c h = absurd (cc)
all_fail false true c h = absurd (cc)
all_fail false false true h = absurd (cc)

fails : (a : Bool) → not a ≡ true → a ≡ false
fails false h = refl
fails true h = absurd (cc)

pub text_on : (f : Frame) (around : List Frame) (begun : ℕ) (form : Option FormPlace) → GoesOn Text (in_text f around begun form)
text_on f around begun form read b h =
    let n = all_fail (nat_eq b 60) (nat_eq b 38) (nat_eq b 93) h in
    rw (n.first, n.second, n.third) (turn (nat_eq b 62))
  where
    turn : (t : Bool) → option_map (reader_with (in_text f around begun form read) b) (cond (t && false) None (Some (record { mode = Content Zero; progress = Within (record f { text = read ++ b ∷ [] }) around }))) ≡ Some (in_text f around begun form (read ++ b ∷ []))
    turn true = rw (kept form) refl
    turn false = rw (kept form) refl

pub value_on : (progress : Progress) (tag : Tag) (key : List ℕ) (quote begun : ℕ) (form : Option FormPlace) → GoesOn (Value quote) (in_value progress tag key quote begun form)
value_on progress tag key quote begun form read b h =
    let n = all_fail (nat_eq b quote) (nat_eq b 60) (nat_eq b 38) h in
    rw (n.first, n.second, n.third, kept form) refl

pub text_word_on : (progress : Progress) (begun : ℕ) (form : Option FormPlace) → GoesOn Reference (λ w. reader_in (TextRef w) progress begun form)
text_word_on progress begun form read b h = rw (fails (nat_eq b 59) h, kept form) refl

pub value_word_on : (progress : Progress) (tag : Tag) (key : List ℕ) (quote : ℕ) (value : List ℕ) (begun : ℕ) (form : Option FormPlace) → GoesOn Reference (λ w. reader_in (ValueRef tag key quote value w) progress begun form)
value_word_on progress tag key quote value begun form read b h = rw (fails (nat_eq b 59) h, kept form) refl

-- what a reference stands for, and the run behind it
pub referred_run : (run : Run) (at : List ℕ → Reader) → GoesOn run at → (read word behind bytes longer more rest : List ℕ) → referred word ≡ Some bytes → longer ≡ read ++ bytes → (more, rest) ≡ run_left run longer behind
    → read_bytes (at more) rest ≡ option_and_then (λ found. read_bytes (at (read ++ found)) behind) (referred word)
referred_run run at on read word behind bytes longer more rest known long left = rw known (run_is run at on longer behind more rest left ∙ ap (λ l. read_bytes (at l) behind) long)

-- what is left comes to the same
pub goes_same : {X : Type 0} (left : X → Option Reader) (result : Result X Unread) (a b : Option Reader) → a ≡ b → GoesBy left result a → GoesBy left result b
goes_same left result a b e h = subst (λ w. GoesBy left result w) e h

-- a word up to its `;`
map_then : {A : Type 0} (k : A → Reader) (o : Option A) (bs : List ℕ) → option_and_then (λ next. read_bytes next bs) (option_map k o) ≡ option_and_then (λ a. read_bytes (k a) bs) o
map_then k None bs = refl
map_then k (Some a) bs = refl

record Cut (b : ℕ) (bs word rest : List ℕ) : Type 0 where
  pub others : List ℕ
  pub is : cut_at 59 bs ≡ Some (others, rest)
  pub word_is : b ∷ others ≡ word

cut_behind : (b : ℕ) (bs word rest : List ℕ) (o : Option (List ℕ × List ℕ)) → cut_at 59 bs ≡ o → option_map {U = List ℕ × List ℕ} (λ cut. (b ∷ cut.0, cut.1)) o ≡ Some (word, rest) → Cut b bs word rest
cut_behind b bs word rest None e h = absurd (cc)
cut_behind b bs word rest (Some cut) e h =
    let p = same_Some (b ∷ cut.0, cut.1) (word, rest) h in
    record { others = cut.0; is = e ∙ ap (λ r. Some (cut.0, r)) (ap (λ (x : List ℕ × List ℕ). x.1) p); word_is = ap (λ (x : List ℕ × List ℕ). x.0) p }

abbrev cut_by : Bool → ℕ → List ℕ → Option (List ℕ × List ℕ)
cut_by t b bs = if t then Some ([], bs) else option_map (λ cut. (b ∷ cut.0, cut.1)) (cut_at 59 bs)

word_read : (at k : List ℕ → Reader) → GoesOn Reference at → ((word : List ℕ) → read_byte (at word) 59 ≡ option_map k (referred word)) → (read text word rest : List ℕ) → cut_at 59 text ≡ Some (word, rest)
    → read_bytes (at read) text ≡ option_and_then (λ bytes. read_bytes (k bytes) rest) (referred (read ++ word))
word_read at k on ends read [] word rest h = absurd (cc)
word_read at k on ends read (b ∷ bs) word rest h = turn (nat_eq b 59) refl h (λ others e. word_read at k on ends (read ++ b ∷ []) bs others rest e)
  where
    turn : (t : Bool) → nat_eq b 59 ≡ t → cut_by t b bs ≡ Some (word, rest)
        → ((others : List ℕ) → cut_at 59 bs ≡ Some (others, rest) → read_bytes (at (read ++ b ∷ [])) bs ≡ option_and_then (λ bytes. read_bytes (k bytes) rest) (referred ((read ++ b ∷ []) ++ others)))
        → read_bytes (at read) (b ∷ bs) ≡ option_and_then (λ bytes. read_bytes (k bytes) rest) (referred (read ++ word))
    turn true test e later =
        let n : b ≡ 59 = grind (arith, nat_tests) in
        let p = same_Some ([], bs) (word, rest) e in
        let P : List ℕ × List ℕ → Type 0 = λ x. read_bytes (at read) (59 ∷ bs) ≡ option_and_then (λ bytes. read_bytes (k bytes) x.1) (referred (read ++ x.0)) in
        subst (λ c. read_bytes (at read) (c ∷ bs) ≡ option_and_then (λ bytes. read_bytes (k bytes) rest) (referred (read ++ word))) (sym n)
        (subst P p (ap (option_and_then (λ next. read_bytes next bs)) (ends read) ∙ map_then k (referred read) bs ∙ ap (λ w. option_and_then (λ bytes. read_bytes (k bytes) bs) (referred w)) (sym (append-nil read))))
    turn false test e later =
        let c = cut_behind b bs word rest (cut_at 59 bs) refl e in
        ap (option_and_then (λ next. read_bytes next bs)) (on read b (rw test refl)) ∙ later c.others c.is
        ∙ ap (λ w. option_and_then (λ bytes. read_bytes (k bytes) rest) (referred w)) (append_assoc read (b ∷ []) c.others ∙ ap (λ w. read ++ w) c.word_is)

-- a reference in front of a text
refers : (at : List ℕ → Reader) (inside k : List ℕ → List ℕ → Reader) → ((read : List ℕ) → GoesOn Reference (inside read)) → ((read word : List ℕ) → read_byte (inside read word) 59 ≡ option_map (k read) (referred word))
    → ((read : List ℕ) → read_byte (at read) 38 ≡ Some (inside read [])) → (read text word rest : List ℕ) → reference_in text ≡ Some (word, rest) → read_bytes (at read) text ≡ option_and_then (λ bytes. read_bytes (k read bytes) rest) (referred word)
refers at inside k on ends begins read [] word rest h = absurd (cc)
refers at inside k on ends begins read (b ∷ bs) word rest h = turn (nat_eq b 38) refl h
  where
    turn : (t : Bool) → nat_eq b 38 ≡ t → cond t (cut_at 59 bs) None ≡ Some (word, rest) → read_bytes (at read) (b ∷ bs) ≡ option_and_then (λ bytes. read_bytes (k read bytes) rest) (referred word)
    turn true test e =
        let n : b ≡ 38 = grind (arith, nat_tests) in
        subst (λ c. read_bytes (at read) (c ∷ bs) ≡ option_and_then (λ bytes. read_bytes (k read bytes) rest) (referred word)) (sym n)
        (ap (option_and_then (λ next. read_bytes next bs)) (begins read) ∙ word_read (inside read) (k read) (on read) (ends read) [] bs word rest e)
    turn false test e = absurd (cc)

pub text_refers : (f : Frame) (around : List Frame) (begun : ℕ) (form : Option FormPlace) → Refers (in_text f around begun form)
text_refers f around begun form = refers (in_text f around begun form) (λ text word. reader_in (TextRef word) (Within (record f { text = text }) around) begun form) (λ text bytes. in_text f around begun form (text ++ bytes))
    (λ text. text_word_on (Within (record f { text = text }) around) begun form) (λ text word. ends text (referred word)) (λ text. rw (kept form) refl)
  where
    ends : (text : List ℕ) (o : Option (List ℕ)) → option_map (λ place. record { place = place; begun = begun; form = first_form form None }) (option_and_then (λ bytes. then_between (refer (Within (record f { text = text }) around) bytes)) o) ≡ option_map (λ bytes. in_text f around begun form (text ++ bytes)) o
    ends text None = refl
    ends text (Some bytes) = rw (kept form) refl

-- the quote isn't `&`
abbrev Differ : ℕ → Type 0
Differ quote = nat_eq 38 quote ≡ false

pub value_refers : (progress : Progress) (tag : Tag) (key : List ℕ) (quote begun : ℕ) (form : Option FormPlace) → Differ quote → Refers (in_value progress tag key quote begun form)
value_refers progress tag key quote begun form n = refers (in_value progress tag key quote begun form) (λ value word. reader_in (ValueRef tag key quote value word) progress begun form) (λ value bytes. in_value progress tag key quote begun form (value ++ bytes))
    (λ value. value_word_on progress tag key quote value begun form) (λ value word. ends value (referred word)) (λ value. rw (n, kept form) refl)
  where
    ends : (value : List ℕ) (o : Option (List ℕ)) → option_map (λ place. record { place = place; begun = begun; form = first_form form None }) (option_and_then (λ bytes. now_in (Valued tag key quote (value ++ bytes)) progress) o) ≡ option_map (λ bytes. in_value progress tag key quote begun form (value ++ bytes)) o
    ends value None = refl
    ends value (Some bytes) = rw (kept form) refl

-- a fault stays one
pub err_same : (X Y : Type 0) (left : X → Option Reader) (other : Y → Option Reader) (fault : Unread) (a b : Option Reader) → a ≡ b → GoesBy left (Err fault) a → GoesBy other (Err fault) b
err_same X Y left other Bad a b e h = sym e ∙ h
err_same X Y left other NoMemory a b e h = tt

-- a byte of an end tag
pub closing_goes : (progress : Progress) (name : List ℕ) (begun : ℕ) (form : Option FormPlace) (b : ℕ) (rest : List ℕ) → option_and_then (λ p. read_bytes (reader_at p begun form) rest) (read_in progress (Closing name) b) ≡ read_bytes (reader_in (Closing name) progress begun form) (b ∷ rest)
closing_goes progress name begun None b rest = sym (map_then (λ p. reader_at p begun None) (read_in progress (Closing name) b) rest)
closing_goes progress name begun (Some form) b rest = sym (map_then (λ p. reader_at p begun (Some form)) (read_in progress (Closing name) b) rest)
