-- What is read of a text is read of it with more behind it, and that is left too.
use Rattle.std.proofs.Common.{◌≡◌, ℕ, ◌≤◌, ◌<◌, ◌+◌, ◌-◌, Bool, true, false, ◌&&◌, List, [], ◌∷◌, ◌++◌, Option, None, Some, Result, Ok, Err, length, take, drop, nat_eq, nat_le, nat_lt, refl, sym, ap, ◌∙◌, subst, arith, length-append}
use Rattle.std.specs.Prelude.{codes, ◌==◌, if◌then◌else◌, ⊤}
use Rattle.std.specs.List.{starts_with, count_by}
use Rattle.std.specs.Option.{option_map}
use Rattle.std.specs.Str.{bytes_eq}
use Rattle.std.proofs.lemmas.Bool.Decides.{nat_tests}
use Rattle.std.proofs.lemmas.List.{take-append-le, drop-append-le}
use Rattle.dsv_base.specs.Gives.{◌>>=◌}
use Rattle.dsv_base.specs.Lines.{cut_at, is_line_feed}
use Rattle.dsv_base.specs.Paths.{is_path}
use Rattle.dsv_base.specs.Names.{is_repository_name}
use Rattle.dsv_base.specs.Numbers.{read_decimal, is_decimal, digits_after}
use Rattle.rev_nodes.specs.declared.change.Change.TheVariants.{Put, Mkdir, Delete}
use Rattle.rev_scripts.specs.declared.item.Item.TheVariants as item
use Rattle.rev_scripts.specs.declared.item_fault.ItemFault.{ItemFault}
use Rattle.rev_nodes.specs.PropertyNames.{is_property_name, is_revision_property}
use Rattle.rev_scripts.specs.Steps.{or_bad, ok_where, line_from, word_from, after_front, bytes_from, number_from, at_line, line_after, most_revision}
use Rattle.rev_scripts.specs.Items.{Told, two_lengths, three_lengths, copy_numbers, one_part, two_parts, three_parts, prop_from, mkdir_from, delete_from, put_from, setprop_from, delprop_from, copy_from, item_of, item_after, item_from, may_follow}
use Rattle.rev_scripts.specs.Uuids.{is_uuid}
use Rattle.rev_nodes.specs.Commits.{is_author}
use Rattle.rev_scripts.specs.Scripts.{told_line, heading_from, revision_line, revision_head, next_item}

-- where the one gives something, the other gives the same with more
abbrev pub Behind : {A F : Type 0} → (A → A) → Result A F → Result A F → Type 0
Behind more (Ok a) then_ = then_ ≡ Ok (more a)
Behind more (Err e) then_ = ⊤

pub behind_then : {A B F : Type 0} (more : A → A) (and_more : B → B) (r s : Result A F) (f g : A → Result B F) → Behind more r s → ((a : A) → Behind and_more (f a) (g (more a))) → Behind and_more (r >>= f) (s >>= g)
behind_then more and_more (Ok a) s f g h then_ = subst (λ (x : Result _ _). Behind and_more (f a) (x >>= g)) (sym h) (then_ a)
behind_then more and_more (Err e) s f g h then_ = tt

pub behind_same : {A F : Type 0} (r : Result A F) → Behind (λ a. a) r r
behind_same (Ok a) = refl
behind_same (Err e) = tt

pub behind_where : {A : Type 0} (more : A → A) (b : Bool) (a : A) → Behind more (ok_where b a) (ok_where b (more a))
behind_where more true a = refl
behind_where more false a = tt

-- more text behind what is left
abbrev pub more_1 : {X : Type 0} → List ℕ → X × List ℕ → X × List ℕ
more_1 more p = (p.0, p.1 ++ more)

abbrev pub more_2 : {X Y : Type 0} → List ℕ → X × Y × List ℕ → X × Y × List ℕ
more_2 more p = (p.0, p.1, p.2 ++ more)

abbrev pub more_3 : {X Y Z : Type 0} → List ℕ → X × Y × Z × List ℕ → X × Y × Z × List ℕ
more_3 more p = (p.0, p.1, p.2, p.3 ++ more)

-- ---- steps

cut_more : (byte : ℕ) (text more : List ℕ) → Behind (more_1 more) (or_bad (cut_at byte text)) (or_bad (cut_at byte (text ++ more)))
cut_more byte [] more = tt
cut_more byte (b ∷ bs) more = by_test (b == byte) (cut_at byte bs) (cut_at byte (bs ++ more)) (cut_more byte bs more)
  where
    by_test : (stops : Bool) (cut then_ : Option (List ℕ × List ℕ)) → Behind (more_1 more) (or_bad cut) (or_bad then_) → Behind (more_1 more) (or_bad (if stops then Some ([], bs) else option_map (λ (cut : List ℕ × List ℕ). (b ∷ cut.0, cut.1)) cut)) (or_bad (if stops then Some ([], bs ++ more) else option_map (λ (cut : List ℕ × List ℕ). (b ∷ cut.0, cut.1)) then_))
    by_test true cut then_ h = refl
    by_test false None then_ h = tt
    by_test false (Some c) None h = absurd (cc)
    by_test false (Some c) (Some d) h = let same : d ≡ (c.0, c.1 ++ more) = cc in ap (λ (d : List ℕ × List ℕ). let r : Result (List ℕ × List ℕ) ItemFault = Ok (b ∷ d.0, d.1) in r) same

line_more : (text more : List ℕ) → Behind (more_1 more) (line_from text) (line_from (text ++ more))
line_more text more = cut_more 10 text more

front_more : (front text more : List ℕ) → Behind (λ rest. rest ++ more) (after_front front text) (after_front front (text ++ more))
front_more [] text more = refl
front_more (f ∷ fs) [] more = tt
front_more (f ∷ fs) (b ∷ bs) more = by_test (nat_eq f b) (starts_with nat_eq bs fs) (starts_with nat_eq (bs ++ more) fs) (front_more fs bs more)
  where
    by_test : (same starts then_ : Bool) → Behind (λ rest. rest ++ more) (ok_where starts (drop (length fs) bs)) (ok_where then_ (drop (length fs) (bs ++ more))) → Behind (λ rest. rest ++ more) (ok_where (same && starts) (drop (length fs) bs)) (ok_where (same && then_) (drop (length fs) (bs ++ more)))
    by_test true starts then_ h = h
    by_test false starts then_ h = tt

bytes_more : (count : ℕ) (text more : List ℕ) → Behind (more_1 more) (bytes_from count text) (bytes_from count (text ++ more))
bytes_more count text more = by_test (nat_le count (length text)) refl
  where
    by_test : (within : Bool) → nat_le count (length text) ≡ within → Behind (more_1 more) (ok_where within (take count text, drop count text)) (bytes_from count (text ++ more))
    by_test true e =
        let few : count ≤ length text = grind (arith, nat_tests) in
        let all : length (text ++ more) ≡ length text + length more = length-append text more in
        let too : nat_le count (length (text ++ more)) ≡ true = grind (arith, nat_tests) in
        rw (too, take-append-le count text more few, drop-append-le count text more few) refl
    by_test false e = tt

pub line_after_more : (line : ℕ) (text rest more : List ℕ) → line_after line (text ++ more) (rest ++ more) ≡ line_after line text rest
line_after_more line text rest more =
    let all : length (text ++ more) ≡ length text + length more = length-append text more in
    let left : length (rest ++ more) ≡ length rest + length more = length-append rest more in
    let same : length (text ++ more) - length (rest ++ more) ≡ length text - length rest = omega arith in
    ap (λ (n : ℕ). line + count_by is_line_feed (take n (text ++ more))) same
    ∙ ap (λ (t : List ℕ). line + count_by is_line_feed t) (take-append-le (length text - length rest) text more (omega arith))

-- ---- parts

pub one_part_more : (n : ℕ) (text more : List ℕ) → Behind (more_1 more) (one_part n text) (one_part n (text ++ more))
one_part_more n text more =
    behind_then (more_1 more) (more_1 more) (bytes_from n text) (bytes_from n (text ++ more)) _ _ (bytes_more n text more)
    (λ one. behind_then (λ rest. rest ++ more) (more_1 more) (after_front (codes "\n") one.1) (after_front (codes "\n") (one.1 ++ more)) _ _ (front_more (codes "\n") one.1 more) (λ rest. refl))

pub two_parts_more : (m n : ℕ) (text more : List ℕ) → Behind (more_2 more) (two_parts m n text) (two_parts m n (text ++ more))
two_parts_more m n text more =
    behind_then (more_1 more) (more_2 more) (bytes_from m text) (bytes_from m (text ++ more)) _ _ (bytes_more m text more)
    (λ one. behind_then (more_1 more) (more_2 more) (one_part n one.1) (one_part n (one.1 ++ more)) _ _ (one_part_more n one.1 more) (λ rest. refl))

pub three_parts_more : (k m n : ℕ) (text more : List ℕ) → Behind (more_3 more) (three_parts k m n text) (three_parts k m n (text ++ more))
three_parts_more k m n text more =
    behind_then (more_1 more) (more_3 more) (bytes_from k text) (bytes_from k (text ++ more)) _ _ (bytes_more k text more)
    (λ one. behind_then (more_2 more) (more_3 more) (two_parts m n one.1) (two_parts m n (one.1 ++ more)) _ _ (two_parts_more m n one.1 more) (λ rest. refl))

-- ---- numbers, of which none is above what stands behind the line

number_more : (m n : ℕ) (text : List ℕ) → m ≤ n → Behind (λ a. a) (number_from m text) (number_from n text)
unfolding read_decimal
number_more m n text h = by (is_decimal text) (nat_le (digits_after 0 text) m) refl (nat_le (digits_after 0 text) n) refl
  where
    by : (is low : Bool) → nat_le (digits_after 0 text) m ≡ low → (high : Bool) → nat_le (digits_after 0 text) n ≡ high → Behind (λ a. a) (or_bad (if is && low then Some (digits_after 0 text) else None)) (or_bad (if is && high then Some (digits_after 0 text) else None))
    by true true e true f = refl
    by true true e false f = absurd (let a : digits_after 0 text ≤ m = grind (arith, nat_tests) in let b : n < digits_after 0 text = grind (arith, nat_tests) in omega (arith, a, b, h))
    by true false e high f = tt
    by false low e high f = tt

two_lengths_more : (m n : ℕ) (numbers : List ℕ) → m ≤ n → Behind (λ a. a) (two_lengths m numbers) (two_lengths n numbers)
two_lengths_more m n numbers h =
    behind_then (λ a. a) (λ a. a) (word_from numbers) (word_from numbers) _ _ (behind_same (word_from numbers))
    (λ word. behind_then (λ a. a) (λ a. a) (number_from m word.0) (number_from n word.0) _ _ (number_more m n word.0 h)
    (λ one. behind_then (λ a. a) (λ a. a) (number_from m word.1) (number_from n word.1) _ _ (number_more m n word.1 h) (λ two. refl)))

three_lengths_more : (m n : ℕ) (numbers : List ℕ) → m ≤ n → Behind (λ a. a) (three_lengths m numbers) (three_lengths n numbers)
three_lengths_more m n numbers h =
    behind_then (λ a. a) (λ a. a) (word_from numbers) (word_from numbers) _ _ (behind_same (word_from numbers))
    (λ word. behind_then (λ a. a) (λ a. a) (number_from m word.0) (number_from n word.0) _ _ (number_more m n word.0 h)
    (λ one. behind_then (λ a. a) (λ a. a) (two_lengths m word.1) (two_lengths n word.1) _ _ (two_lengths_more m n word.1 h) (λ others. refl)))

copy_numbers_more : (m n number : ℕ) (numbers : List ℕ) → m ≤ n → Behind (λ a. a) (copy_numbers m number numbers) (copy_numbers n number numbers)
copy_numbers_more m n number numbers h =
    behind_then (λ a. a) (λ a. a) (word_from numbers) (word_from numbers) _ _ (behind_same (word_from numbers))
    (λ first. behind_then (λ a. a) (λ a. a) (number_from m first.0) (number_from n first.0) _ _ (number_more m n first.0 h)
    (λ source. behind_then (λ a. a) (λ a. a) (word_from first.1) (word_from first.1) _ _ (behind_same (word_from first.1))
    (λ second. behind_then (λ a. a) (λ a. a) (number_from most_revision second.0) (number_from most_revision second.0) _ _ (behind_same (number_from most_revision second.0))
    (λ rev. behind_then (λ a. a) (λ a. a) (number_from m second.1) (number_from n second.1) _ _ (number_more m n second.1 h)
    (λ path. behind_same (ok_where (nat_lt rev number) (source, rev, path)))))))

longer : (text more : List ℕ) → length text ≤ length (text ++ more)
longer text more = let e = length-append text more in omega (arith, e)

-- ---- items

prop_more : (numbers text more : List ℕ) → Behind (more_1 more) (prop_from numbers text) (prop_from numbers (text ++ more))
prop_more numbers text more =
    behind_then (λ a. a) (more_1 more) (two_lengths (length text) numbers) (two_lengths (length (text ++ more)) numbers) _ _ (two_lengths_more (length text) (length (text ++ more)) numbers (longer text more))
    (λ n. behind_then (more_2 more) (more_1 more) (two_parts n.0 n.1 text) (two_parts n.0 n.1 (text ++ more)) _ _ (two_parts_more n.0 n.1 text more)
    (λ p. behind_where (more_1 more) (is_revision_property p.0) (item.Prop (record { name = p.0; value = p.1 }), p.2)))

mkdir_more : (numbers text more : List ℕ) → Behind (more_1 more) (mkdir_from numbers text) (mkdir_from numbers (text ++ more))
mkdir_more numbers text more =
    behind_then (λ a. a) (more_1 more) (number_from (length text) numbers) (number_from (length (text ++ more)) numbers) _ _ (number_more (length text) (length (text ++ more)) numbers (longer text more))
    (λ n. behind_then (more_1 more) (more_1 more) (one_part n text) (one_part n (text ++ more)) _ _ (one_part_more n text more)
    (λ p. behind_where (more_1 more) (is_path p.0) (item.Change (Mkdir p.0), p.1)))

delete_more : (numbers text more : List ℕ) → Behind (more_1 more) (delete_from numbers text) (delete_from numbers (text ++ more))
delete_more numbers text more =
    behind_then (λ a. a) (more_1 more) (number_from (length text) numbers) (number_from (length (text ++ more)) numbers) _ _ (number_more (length text) (length (text ++ more)) numbers (longer text more))
    (λ n. behind_then (more_1 more) (more_1 more) (one_part n text) (one_part n (text ++ more)) _ _ (one_part_more n text more)
    (λ p. behind_where (more_1 more) (is_path p.0) (item.Change (Delete p.0), p.1)))

put_more : (numbers text more : List ℕ) → Behind (more_1 more) (put_from numbers text) (put_from numbers (text ++ more))
put_more numbers text more =
    behind_then (λ a. a) (more_1 more) (two_lengths (length text) numbers) (two_lengths (length (text ++ more)) numbers) _ _ (two_lengths_more (length text) (length (text ++ more)) numbers (longer text more))
    (λ n. behind_then (more_2 more) (more_1 more) (two_parts n.0 n.1 text) (two_parts n.0 n.1 (text ++ more)) _ _ (two_parts_more n.0 n.1 text more)
    (λ p. behind_where (more_1 more) (is_path p.0) (item.Change (Put p.0 p.1), p.2)))

setprop_more : (numbers text more : List ℕ) → Behind (more_1 more) (setprop_from numbers text) (setprop_from numbers (text ++ more))
setprop_more numbers text more =
    behind_then (λ a. a) (more_1 more) (three_lengths (length text) numbers) (three_lengths (length (text ++ more)) numbers) _ _ (three_lengths_more (length text) (length (text ++ more)) numbers (longer text more))
    (λ n. behind_then (more_3 more) (more_1 more) (three_parts n.0 n.1 n.2 text) (three_parts n.0 n.1 n.2 (text ++ more)) _ _ (three_parts_more n.0 n.1 n.2 text more)
    (λ p. behind_then (λ a. a) (more_1 more) (ok_where (is_path p.0) p.0) (ok_where (is_path p.0) p.0) _ _ (behind_same (ok_where (is_path p.0) p.0))
    (λ path. behind_then (λ a. a) (more_1 more) (ok_where (is_property_name p.1) p.1) (ok_where (is_property_name p.1) p.1) _ _ (behind_same (ok_where (is_property_name p.1) p.1)) (λ name. refl))))

delprop_more : (numbers text more : List ℕ) → Behind (more_1 more) (delprop_from numbers text) (delprop_from numbers (text ++ more))
delprop_more numbers text more =
    behind_then (λ a. a) (more_1 more) (two_lengths (length text) numbers) (two_lengths (length (text ++ more)) numbers) _ _ (two_lengths_more (length text) (length (text ++ more)) numbers (longer text more))
    (λ n. behind_then (more_2 more) (more_1 more) (two_parts n.0 n.1 text) (two_parts n.0 n.1 (text ++ more)) _ _ (two_parts_more n.0 n.1 text more)
    (λ p. behind_then (λ a. a) (more_1 more) (ok_where (is_path p.0) p.0) (ok_where (is_path p.0) p.0) _ _ (behind_same (ok_where (is_path p.0) p.0))
    (λ path. behind_then (λ a. a) (more_1 more) (ok_where (is_property_name p.1) p.1) (ok_where (is_property_name p.1) p.1) _ _ (behind_same (ok_where (is_property_name p.1) p.1)) (λ name. refl))))

copy_more : (number : ℕ) (numbers text more : List ℕ) → Behind (more_1 more) (copy_from number numbers text) (copy_from number numbers (text ++ more))
copy_more number numbers text more =
    behind_then (λ a. a) (more_1 more) (copy_numbers (length text) number numbers) (copy_numbers (length (text ++ more)) number numbers) _ _ (copy_numbers_more (length text) (length (text ++ more)) number numbers (longer text more))
    (λ n. behind_then (more_2 more) (more_1 more) (two_parts n.0 n.2 text) (two_parts n.0 n.2 (text ++ more)) _ _ (two_parts_more n.0 n.2 text more)
    (λ p. behind_then (λ a. a) (more_1 more) (ok_where (is_path p.0) p.0) (ok_where (is_path p.0) p.0) _ _ (behind_same (ok_where (is_path p.0) p.0))
    (λ source. behind_then (λ a. a) (more_1 more) (ok_where (is_path p.1) p.1) (ok_where (is_path p.1) p.1) _ _ (behind_same (ok_where (is_path p.1) p.1)) (λ path. refl))))

either : {A F : Type 0} (more : A → A) (b : Bool) (r s r_2 s_2 : Result A F) → Behind more r s → Behind more r_2 s_2 → Behind more (if b then r else r_2) (if b then s else s_2)
either more true r s r_2 s_2 h i = h
either more false r s r_2 s_2 h i = i

word_more : (number : ℕ) (word numbers text more : List ℕ) → Behind (more_1 more) (item_of number word numbers text) (item_of number word numbers (text ++ more))
unfolding item_of
word_more number word numbers text more =
    either (more_1 more) (bytes_eq word (codes "prop")) _ _ _ _ (prop_more numbers text more)
    (either (more_1 more) (bytes_eq word (codes "mkdir")) _ _ _ _ (mkdir_more numbers text more)
    (either (more_1 more) (bytes_eq word (codes "delete")) _ _ _ _ (delete_more numbers text more)
    (either (more_1 more) (bytes_eq word (codes "put")) _ _ _ _ (put_more numbers text more)
    (either (more_1 more) (bytes_eq word (codes "setprop")) _ _ _ _ (setprop_more numbers text more)
    (either (more_1 more) (bytes_eq word (codes "delprop")) _ _ _ _ (delprop_more numbers text more)
    (either (more_1 more) (bytes_eq word (codes "copy")) _ _ _ _ (copy_more number numbers text more) tt))))))

after_more : (number : ℕ) (line text more : List ℕ) → Behind (more_1 more) (item_after number line text) (item_after number line (text ++ more))
unfolding item_after
after_more number line text more =
    either (more_1 more) (bytes_eq line (codes "end")) _ _ _ _ refl
    (behind_then (λ a. a) (more_1 more) (word_from line) (word_from line) _ _ (behind_same (word_from line)) (λ word. word_more number word.0 word.1 text more))

pub item_more : (number : ℕ) (text more : List ℕ) → Behind (more_1 more) (item_from number text) (item_from number (text ++ more))
unfolding item_from
item_more number text more =
    behind_then (more_1 more) (more_1 more) (line_from text) (line_from (text ++ more)) _ _ (line_more text more) (λ line. after_more number line.0 line.1 more)

pub behind_line : {A : Type 0} (more : A → A) (line : ℕ) (r s : Result A ItemFault) → Behind more r s → Behind more (at_line line r) (at_line line s)
behind_line more line (Ok a) s h = ap (at_line line) h
behind_line more line (Err e) s h = tt

pub next_more : (number : ℕ) (told : Told) (line : ℕ) (text more : List ℕ) → Behind (more_1 more) (next_item number told line text) (next_item number told line (text ++ more))
unfolding next_item
next_more number told line text more =
    behind_line (more_1 more) line _ _
    (behind_then (more_1 more) (more_1 more) (item_from number text) (item_from number (text ++ more)) _ _ (item_more number text more) (λ read. behind_where (more_1 more) (may_follow number told read.0) read))

-- ---- a revision

revision_line_more : (m n number : ℕ) (line : List ℕ) → m ≤ n → Behind (λ a. a) (revision_line m number line) (revision_line n number line)
unfolding revision_line
revision_line_more m n number line h =
    behind_then (λ a. a) (λ a. a) (after_front (codes "revision ") line) (after_front (codes "revision ") line) _ _ (behind_same (after_front (codes "revision ") line))
    (λ numbers. behind_then (λ a. a) (λ a. a) (word_from numbers) (word_from numbers) _ _ (behind_same (word_from numbers))
    (λ first. behind_then (λ a. a) (λ a. a) (number_from most_revision first.0) (number_from most_revision first.0) _ _ (behind_same (number_from most_revision first.0))
    (λ told. behind_then (λ a. a) (λ a. a) (word_from first.1) (word_from first.1) _ _ (behind_same (word_from first.1))
    (λ second. behind_then (λ a. a) (λ a. a) (number_from 253402300799999999 second.0) (number_from 253402300799999999 second.0) _ _ (behind_same (number_from 253402300799999999 second.0))
    (λ moment. behind_then (λ a. a) (λ a. a) (number_from m second.1) (number_from n second.1) _ _ (number_more m n second.1 h)
    (λ author. behind_same (ok_where (told == number) (moment, author))))))))

pub head_more : (number : ℕ) (text more : List ℕ) → Behind (more_2 more) (revision_head number text) (revision_head number (text ++ more))
unfolding revision_head
head_more number text more =
    behind_then (more_1 more) (more_2 more) (line_from text) (line_from (text ++ more)) _ _ (line_more text more)
    (λ line. behind_then (λ a. a) (more_2 more) (revision_line (length line.1) number line.0) (revision_line (length (line.1 ++ more)) number line.0) _ _ (revision_line_more (length line.1) (length (line.1 ++ more)) number line.0 (longer line.1 more))
    (λ told. behind_then (more_1 more) (more_2 more) (one_part told.1 line.1) (one_part told.1 (line.1 ++ more)) _ _ (one_part_more told.1 line.1 more)
    (λ author. behind_where (more_2 more) (is_author author.0) (told.0, author.0, author.1))))

-- ---- the head of a script

told_line_more : (is_one : List ℕ → Bool) (front text more : List ℕ) → Behind (more_1 more) (told_line is_one front text) (told_line is_one front (text ++ more))
told_line_more is_one front text more =
    behind_then (λ rest. rest ++ more) (more_1 more) (after_front front text) (after_front front (text ++ more)) _ _ (front_more front text more)
    (λ told. behind_then (more_1 more) (more_1 more) (line_from told) (line_from (told ++ more)) _ _ (line_more told more)
    (λ line. behind_where (more_1 more) (is_one line.0) line))

pub heading_more : (text more : List ℕ) → Behind (more_2 more) (heading_from text) (heading_from (text ++ more))
unfolding heading_from
heading_more text more =
    behind_then (λ rest. rest ++ more) (more_2 more) (at_line 1 (after_front (codes "davsvn-script 1\n") text)) (at_line 1 (after_front (codes "davsvn-script 1\n") (text ++ more))) _ _ (behind_line (λ rest. rest ++ more) 1 _ _ (front_more (codes "davsvn-script 1\n") text more))
    (λ first. behind_then (more_1 more) (more_2 more) (at_line 2 (told_line is_repository_name (codes "repos ") first)) (at_line 2 (told_line is_repository_name (codes "repos ") (first ++ more))) _ _ (behind_line (more_1 more) 2 _ _ (told_line_more is_repository_name (codes "repos ") first more))
    (λ name. behind_then (more_1 more) (more_2 more) (at_line 3 (told_line is_uuid (codes "uuid ") name.1)) (at_line 3 (told_line is_uuid (codes "uuid ") (name.1 ++ more))) _ _ (behind_line (more_1 more) 3 _ _ (told_line_more is_uuid (codes "uuid ") name.1 more)) (λ uuid. refl)))
