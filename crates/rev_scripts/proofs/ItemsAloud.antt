-- An item that is read is the text that is written of it.
use Rattle.std.proofs.Common.{◌≡◌, ℕ, zero, suc, ◌+◌, ◌-◌, ◌^◌, ◌<◌, ◌≤◌, Bool, true, false, ◌&&◌, List, [], ◌∷◌, ◌++◌, Option, None, Some, Result, Ok, Err, length, take, drop, nat_eq, nat_le, refl, sym, ap, subst, ◌∙◌, arith, append_assoc, length-append}
use Rattle.std.specs.Prelude.{codes, ◌==◌, if◌then◌else◌}
use Rattle.std.specs.List.{starts_with}
use Rattle.std.specs.Option.{option_map}
use Rattle.std.specs.Str.{bytes_eq}
use Rattle.std.specs.Fmt.{decimal}
use Rattle.std.proofs.lemmas.Bool.{and_parts, eqb-true}
use Rattle.std.proofs.lemmas.Bool.Decides.{nat_tests}
use Rattle.std.proofs.lemmas.List.{take-append-drop, length-take-le}
use Rattle.dsv_base.specs.Gives.{◌>>=◌}
use Rattle.dsv_base.specs.Lines.{cut_at}
use Rattle.dsv_base.specs.Paths.{is_path}
use Rattle.rev_nodes.specs.declared.change.Change.TheVariants.{Put, SetProp, DelProp, Mkdir, Delete, Copy}
use Rattle.rev_nodes.specs.PropertyNames.{is_property_name, is_revision_property}
use Rattle.rev_nodes.proofs.Below.{same_from}
use Rattle.rev_scripts.specs.declared.item.Item.{Item}
use Rattle.rev_scripts.specs.declared.item.Item.TheVariants as item
use Rattle.rev_scripts.specs.declared.item_fault.ItemFault.{ItemFault}
use Rattle.rev_scripts.specs.Steps.{or_bad, ok_where, line_from, word_from, after_front, bytes_from, number_from, most_revision}
use Rattle.rev_scripts.specs.Items.{two_lengths, three_lengths, copy_numbers, one_part, two_parts, three_parts, prop_from, mkdir_from, delete_from, put_from, setprop_from, delprop_from, copy_from, item_of, item_after, item_from}
use Rattle.rev_scripts.specs.Written.{prop_text, change_text}
use Rattle.rev_scripts.proofs.NumbersAloud.{number_aloud}
use Rattle.rev_scripts.proofs.SoundTold.{went_on, where_true, ok_is}
use Rattle.rev_scripts.proofs.TextsBack.{one_line, two_line, three_line, one_text, two_text, copy_text, three_text}

-- ---- steps

pub cut_aloud : (byte : ℕ) (text : List ℕ) (cut : List ℕ × List ℕ) → or_bad (cut_at byte text) ≡ Ok cut → text ≡ cut.0 ++ byte ∷ cut.1
cut_aloud byte [] cut e = absurd (cc)
cut_aloud byte (b ∷ bs) cut e = by (b == byte) refl (cut_at byte bs) (λ later h. cut_aloud byte bs later (ap or_bad h)) e
  where
    stops : b ≡ byte → (c : List ℕ × List ℕ) → (let r : List ℕ × List ℕ = ([], bs) in r) ≡ c → b ∷ bs ≡ c.0 ++ byte ∷ c.1
    stops same c is = ap (λ x. x ∷ bs) same ∙ ap (λ (p : List ℕ × List ℕ). p.0 ++ byte ∷ p.1) is

    by : (here : Bool) → (b == byte) ≡ here → (rest : Option (List ℕ × List ℕ)) → ((later : List ℕ × List ℕ) → rest ≡ Some later → bs ≡ later.0 ++ byte ∷ later.1)
        → or_bad (if here then Some ([], bs) else option_map (λ (cut : List ℕ × List ℕ). (b ∷ cut.0, cut.1)) rest) ≡ Ok cut → b ∷ bs ≡ cut.0 ++ byte ∷ cut.1
    by true h rest go e = stops (eqb-true b byte h) cut (ok_is ([], bs) cut e)
    by false h None go e = absurd (cc)
    by false h (Some later) go e =
        ap (λ t. b ∷ t) (go later refl) ∙ ap (λ (p : List ℕ × List ℕ). p.0 ++ byte ∷ p.1) (ok_is (b ∷ later.0, later.1) cut e)

pub front_aloud : (front text rest : List ℕ) → after_front front text ≡ Ok rest → text ≡ front ++ rest
front_aloud [] text rest e = ok_is text rest e
front_aloud (f ∷ fs) [] rest e = absurd (cc)
front_aloud (f ∷ fs) (b ∷ bs) rest e = by (nat_eq f b) refl (starts_with nat_eq bs fs) (λ h. front_aloud fs bs rest h) e
  where
    same : (m n : ℕ) → nat_eq m n ≡ true → n ≡ m
    same m n h = grind (arith, nat_tests)

    by : (first : Bool) → nat_eq f b ≡ first → (starts : Bool) → (ok_where starts (drop (length fs) bs) ≡ Ok rest → bs ≡ fs ++ rest) → ok_where (first && starts) (drop (length fs) bs) ≡ Ok rest → b ∷ bs ≡ f ∷ (fs ++ rest)
    by true h starts go e = λ i. same f b h i ∷ go e i
    by false h starts go e = absurd (cc)

bytes_aloud : (n : ℕ) (text : List ℕ) (p : List ℕ × List ℕ) → bytes_from n text ≡ Ok p → (text ≡ p.0 ++ p.1) × (length p.0 ≡ n)
bytes_aloud n text p e =
    let a = where_true (nat_le n (length text)) (take n text, drop n text) p e in
    let few : n ≤ length text = few_of n (length text) a.0 in
    (sym (take-append-drop n text) ∙ ap (λ (q : List ℕ × List ℕ). q.0 ++ q.1) a.1, ap (λ (q : List ℕ × List ℕ). length q.0) (sym a.1) ∙ length-take-le n text few)
  where
    few_of : (m n : ℕ) → nat_le m n ≡ true → m ≤ n
    few_of m n h = grind (arith, nat_tests)

pub one_part_aloud : (n : ℕ) (text : List ℕ) (p : List ℕ × List ℕ) → one_part n text ≡ Ok p → (text ≡ p.0 ++ 10 ∷ p.1) × (length p.0 ≡ n)
one_part_aloud n text p e =
    let a = went_on (bytes_from n text) _ p e in
    let b = went_on (after_front (codes "\n") a.x.1) _ p a.then_ in
    let one = bytes_aloud n text a.x a.first in
    let last = front_aloud (codes "\n") a.x.1 b.x b.first in
    let is : (let q : List ℕ × List ℕ = (a.x.0, b.x) in q) ≡ p = ok_is (a.x.0, b.x) p b.then_ in
    (one.0 ∙ ap (λ t. a.x.0 ++ t) last ∙ ap (λ (q : List ℕ × List ℕ). q.0 ++ 10 ∷ q.1) is, ap (λ (q : List ℕ × List ℕ). length q.0) (sym is) ∙ one.1)

two_parts_aloud : (m n : ℕ) (text : List ℕ) (p : List ℕ × List ℕ × List ℕ) → two_parts m n text ≡ Ok p → (text ≡ p.0 ++ (p.1 ++ 10 ∷ p.2)) × (length p.0 ≡ m) × (length p.1 ≡ n)
two_parts_aloud m n text p e =
    let a = went_on (bytes_from m text) _ p e in
    let b = went_on (one_part n a.x.1) _ p a.then_ in
    let one = bytes_aloud m text a.x a.first in
    let two = one_part_aloud n a.x.1 b.x b.first in
    let is : (let q : List ℕ × List ℕ × List ℕ = (a.x.0, b.x.0, b.x.1) in q) ≡ p = ok_is (a.x.0, b.x.0, b.x.1) p b.then_ in
    (one.0 ∙ ap (λ t. a.x.0 ++ t) two.0 ∙ ap (λ (q : List ℕ × List ℕ × List ℕ). q.0 ++ (q.1 ++ 10 ∷ q.2)) is, ap (λ (q : List ℕ × List ℕ × List ℕ). length q.0) (sym is) ∙ one.1, ap (λ (q : List ℕ × List ℕ × List ℕ). length q.1) (sym is) ∙ two.1)

three_parts_aloud : (k m n : ℕ) (text : List ℕ) (p : List ℕ × List ℕ × List ℕ × List ℕ) → three_parts k m n text ≡ Ok p → (text ≡ p.0 ++ (p.1 ++ (p.2 ++ 10 ∷ p.3))) × (length p.0 ≡ k) × (length p.1 ≡ m) × (length p.2 ≡ n)
three_parts_aloud k m n text p e =
    let a = went_on (bytes_from k text) _ p e in
    let b = went_on (two_parts m n a.x.1) _ p a.then_ in
    let one = bytes_aloud k text a.x a.first in
    let two = two_parts_aloud m n a.x.1 b.x b.first in
    let is : (let q : List ℕ × List ℕ × List ℕ × List ℕ = (a.x.0, b.x.0, b.x.1, b.x.2) in q) ≡ p = ok_is (a.x.0, b.x.0, b.x.1, b.x.2) p b.then_ in
    (one.0 ∙ ap (λ t. a.x.0 ++ t) two.0 ∙ ap (λ (q : List ℕ × List ℕ × List ℕ × List ℕ). q.0 ++ (q.1 ++ (q.2 ++ 10 ∷ q.3))) is, ap (λ (q : List ℕ × List ℕ × List ℕ × List ℕ). length q.0) (sym is) ∙ one.1, ap (λ (q : List ℕ × List ℕ × List ℕ × List ℕ). length q.1) (sym is) ∙ two.1, ap (λ (q : List ℕ × List ℕ × List ℕ × List ℕ). length q.2) (sym is) ∙ two.2)

-- ---- numbers

two_lengths_aloud : (most : ℕ) (numbers : List ℕ) (p : ℕ × ℕ) → most < 2 ^ 64 → two_lengths most numbers ≡ Ok p → numbers ≡ decimal p.0 ++ 32 ∷ decimal p.1
two_lengths_aloud most numbers p small e =
    let a = went_on (word_from numbers) _ p e in
    let b = went_on (number_from most a.x.0) _ p a.then_ in
    let c = went_on (number_from most a.x.1) _ p b.then_ in
    cut_aloud 32 numbers a.x a.first
    ∙ (λ i. number_aloud most b.x a.x.0 small b.first i ++ 32 ∷ number_aloud most c.x a.x.1 small c.first i)
    ∙ ap (λ (q : ℕ × ℕ). decimal q.0 ++ 32 ∷ decimal q.1) (ok_is (b.x, c.x) p c.then_)

three_lengths_aloud : (most : ℕ) (numbers : List ℕ) (p : ℕ × ℕ × ℕ) → most < 2 ^ 64 → three_lengths most numbers ≡ Ok p → numbers ≡ decimal p.0 ++ 32 ∷ (decimal p.1 ++ 32 ∷ decimal p.2)
three_lengths_aloud most numbers p small e =
    let a = went_on (word_from numbers) _ p e in
    let b = went_on (number_from most a.x.0) _ p a.then_ in
    let c = went_on (two_lengths most a.x.1) _ p b.then_ in
    cut_aloud 32 numbers a.x a.first
    ∙ (λ i. number_aloud most b.x a.x.0 small b.first i ++ 32 ∷ two_lengths_aloud most a.x.1 c.x small c.first i)
    ∙ ap (λ (q : ℕ × ℕ × ℕ). decimal q.0 ++ 32 ∷ (decimal q.1 ++ 32 ∷ decimal q.2)) (ok_is (b.x, c.x.0, c.x.1) p c.then_)

copy_numbers_aloud : (most number : ℕ) (numbers : List ℕ) (p : ℕ × ℕ × ℕ) → most < 2 ^ 64 → copy_numbers most number numbers ≡ Ok p → numbers ≡ decimal p.0 ++ 32 ∷ (decimal p.1 ++ 32 ∷ decimal p.2)
copy_numbers_aloud most number numbers p small e =
    let a = went_on (word_from numbers) _ p e in
    let b = went_on (number_from most a.x.0) _ p a.then_ in
    let c = went_on (word_from a.x.1) _ p b.then_ in
    let d = went_on (number_from most_revision c.x.0) _ p c.then_ in
    let f = went_on (number_from most c.x.1) _ p d.then_ in
    let g = where_true _ (b.x, d.x, f.x) p f.then_ in
    cut_aloud 32 numbers a.x a.first
    ∙ (λ i. number_aloud most b.x a.x.0 small b.first i ++ 32 ∷ cut_aloud 32 a.x.1 c.x c.first i)
    ∙ (λ i. decimal b.x ++ 32 ∷ (number_aloud most_revision d.x c.x.0 (omega arith) d.first i ++ 32 ∷ number_aloud most f.x c.x.1 small f.first i))
    ∙ ap (λ (q : ℕ × ℕ × ℕ). decimal q.0 ++ 32 ∷ (decimal q.1 ++ 32 ∷ decimal q.2)) g.1

-- ---- items

-- an item as a script has it
abbrev pub item_text : Item → List ℕ
item_text item.End = codes "end\n"
item_text (item.Prop prop) = prop_text prop
item_text (item.Change change) = change_text change

-- whatever is read of the line and the text after it is the text of an item, and what is left
abbrev IsAloud : List ℕ → List ℕ → Result (Item × List ℕ) ItemFault → Type 0
IsAloud line text r = (read : Item × List ℕ) → r ≡ Ok read → line ++ 10 ∷ text ≡ item_text read.0 ++ read.1

aloud_as : (all : List ℕ) (one : Item) (rest : List ℕ) (read : Item × List ℕ) → (one, rest) ≡ read → all ≡ item_text one ++ rest → all ≡ item_text read.0 ++ read.1
aloud_as all one rest read is e = e ∙ ap (λ (r : Item × List ℕ). item_text r.0 ++ r.1) is

prop_aloud : (numbers text : List ℕ) → length text < 2 ^ 64 → IsAloud (codes "prop" ++ 32 ∷ numbers) text (prop_from numbers text)
prop_aloud numbers text small read e =
    let a = went_on (two_lengths (length text) numbers) _ read e in
    let b = went_on (two_parts a.x.0 a.x.1 text) _ read a.then_ in
    let c = where_true (is_revision_property b.x.0) (item.Prop (record { name = b.x.0; value = b.x.1 }), b.x.2) read b.then_ in
    let parts = two_parts_aloud a.x.0 a.x.1 text b.x b.first in
    aloud_as _ (item.Prop (record { name = b.x.0; value = b.x.1 })) b.x.2 read c.1
    ((λ i. (codes "prop" ++ 32 ∷ two_lengths_aloud (length text) numbers a.x small a.first i) ++ 10 ∷ parts.0 i)
    ∙ (λ i. two_line (codes "prop") (sym parts.1 i) (sym parts.2 i) ++ 10 ∷ (b.x.0 ++ (b.x.1 ++ 10 ∷ b.x.2)))
    ∙ sym (two_text (codes "prop") (length b.x.0) (length b.x.1) b.x.0 b.x.1 b.x.2))

put_aloud : (numbers text : List ℕ) → length text < 2 ^ 64 → IsAloud (codes "put" ++ 32 ∷ numbers) text (put_from numbers text)
put_aloud numbers text small read e =
    let a = went_on (two_lengths (length text) numbers) _ read e in
    let b = went_on (two_parts a.x.0 a.x.1 text) _ read a.then_ in
    let c = where_true (is_path b.x.0) (item.Change (Put b.x.0 b.x.1), b.x.2) read b.then_ in
    let parts = two_parts_aloud a.x.0 a.x.1 text b.x b.first in
    aloud_as _ (item.Change (Put b.x.0 b.x.1)) b.x.2 read c.1
    ((λ i. (codes "put" ++ 32 ∷ two_lengths_aloud (length text) numbers a.x small a.first i) ++ 10 ∷ parts.0 i)
    ∙ (λ i. two_line (codes "put") (sym parts.1 i) (sym parts.2 i) ++ 10 ∷ (b.x.0 ++ (b.x.1 ++ 10 ∷ b.x.2)))
    ∙ sym (two_text (codes "put") (length b.x.0) (length b.x.1) b.x.0 b.x.1 b.x.2))

-- what was tested is what was given
given : (b : Bool) (x y : List ℕ) → (let r : Result (List ℕ) ItemFault = ok_where b x in r) ≡ Ok y → x ≡ y
given b x y e = (where_true b x y e).1

delprop_aloud : (numbers text : List ℕ) → length text < 2 ^ 64 → IsAloud (codes "delprop" ++ 32 ∷ numbers) text (delprop_from numbers text)
delprop_aloud numbers text small read e =
    let a = went_on (two_lengths (length text) numbers) _ read e in
    let b = went_on (two_parts a.x.0 a.x.1 text) _ read a.then_ in
    let c = went_on (ok_where (is_path b.x.0) b.x.0) _ read b.then_ in
    let d = went_on (ok_where (is_property_name b.x.1) b.x.1) _ read c.then_ in
    let parts = two_parts_aloud a.x.0 a.x.1 text b.x b.first in
    let path = given (is_path b.x.0) b.x.0 c.x c.first in
    let name = given (is_property_name b.x.1) b.x.1 d.x d.first in
    aloud_as _ (item.Change (DelProp c.x d.x)) b.x.2 read (ok_is (item.Change (DelProp c.x d.x), b.x.2) read d.then_)
    ((λ i. (codes "delprop" ++ 32 ∷ two_lengths_aloud (length text) numbers a.x small a.first i) ++ 10 ∷ parts.0 i)
    ∙ (λ i. two_line (codes "delprop") (sym parts.1 i) (sym parts.2 i) ++ 10 ∷ (b.x.0 ++ (b.x.1 ++ 10 ∷ b.x.2)))
    ∙ sym (two_text (codes "delprop") (length b.x.0) (length b.x.1) b.x.0 b.x.1 b.x.2)
    ∙ (λ i. change_text (DelProp (path i) (name i)) ++ b.x.2))

setprop_aloud : (numbers text : List ℕ) → length text < 2 ^ 64 → IsAloud (codes "setprop" ++ 32 ∷ numbers) text (setprop_from numbers text)
setprop_aloud numbers text small read e =
    let a = went_on (three_lengths (length text) numbers) _ read e in
    let b = went_on (three_parts a.x.0 a.x.1 a.x.2 text) _ read a.then_ in
    let c = went_on (ok_where (is_path b.x.0) b.x.0) _ read b.then_ in
    let d = went_on (ok_where (is_property_name b.x.1) b.x.1) _ read c.then_ in
    let parts = three_parts_aloud a.x.0 a.x.1 a.x.2 text b.x b.first in
    let path = given (is_path b.x.0) b.x.0 c.x c.first in
    let name = given (is_property_name b.x.1) b.x.1 d.x d.first in
    aloud_as _ (item.Change (SetProp c.x d.x b.x.2)) b.x.3 read (ok_is (item.Change (SetProp c.x d.x b.x.2), b.x.3) read d.then_)
    ((λ i. (codes "setprop" ++ 32 ∷ three_lengths_aloud (length text) numbers a.x small a.first i) ++ 10 ∷ parts.0 i)
    ∙ (λ i. three_line (codes "setprop") (sym parts.1 i) (sym parts.2 i) (sym parts.3 i) ++ 10 ∷ (b.x.0 ++ (b.x.1 ++ (b.x.2 ++ 10 ∷ b.x.3))))
    ∙ sym (three_text (codes "setprop") (length b.x.0) (length b.x.1) (length b.x.2) b.x.0 b.x.1 b.x.2 b.x.3)
    ∙ (λ i. change_text (SetProp (path i) (name i) b.x.2) ++ b.x.3))

copy_aloud : (number : ℕ) (numbers text : List ℕ) → length text < 2 ^ 64 → IsAloud (codes "copy" ++ 32 ∷ numbers) text (copy_from number numbers text)
copy_aloud number numbers text small read e =
    let a = went_on (copy_numbers (length text) number numbers) _ read e in
    let b = went_on (two_parts a.x.0 a.x.2 text) _ read a.then_ in
    let c = went_on (ok_where (is_path b.x.0) b.x.0) _ read b.then_ in
    let d = went_on (ok_where (is_path b.x.1) b.x.1) _ read c.then_ in
    let parts = two_parts_aloud a.x.0 a.x.2 text b.x b.first in
    let source = given (is_path b.x.0) b.x.0 c.x c.first in
    let path = given (is_path b.x.1) b.x.1 d.x d.first in
    aloud_as _ (item.Change (Copy c.x a.x.1 d.x)) b.x.2 read (ok_is (item.Change (Copy c.x a.x.1 d.x), b.x.2) read d.then_)
    ((λ i. (codes "copy" ++ 32 ∷ copy_numbers_aloud (length text) number numbers a.x small a.first i) ++ 10 ∷ parts.0 i)
    ∙ (λ i. three_line (codes "copy") (sym parts.1 i) a.x.1 (sym parts.2 i) ++ 10 ∷ (b.x.0 ++ (b.x.1 ++ 10 ∷ b.x.2)))
    ∙ sym (copy_text (codes "copy") (length b.x.0) a.x.1 (length b.x.1) b.x.0 b.x.1 b.x.2)
    ∙ (λ i. change_text (Copy (source i) a.x.1 (path i)) ++ b.x.2))

mkdir_aloud : (numbers text : List ℕ) → length text < 2 ^ 64 → IsAloud (codes "mkdir" ++ 32 ∷ numbers) text (mkdir_from numbers text)
mkdir_aloud numbers text small read e =
    let a = went_on (number_from (length text) numbers) _ read e in
    let b = went_on (one_part a.x text) _ read a.then_ in
    let c = where_true (is_path b.x.0) (item.Change (Mkdir b.x.0), b.x.1) read b.then_ in
    let parts = one_part_aloud a.x text b.x b.first in
    aloud_as _ (item.Change (Mkdir b.x.0)) b.x.1 read c.1
    ((λ i. (codes "mkdir" ++ 32 ∷ number_aloud (length text) a.x numbers small a.first i) ++ 10 ∷ parts.0 i)
    ∙ (λ i. one_line (codes "mkdir") (sym parts.1 i) ++ 10 ∷ (b.x.0 ++ 10 ∷ b.x.1))
    ∙ sym (one_text (codes "mkdir") (length b.x.0) b.x.0 b.x.1))

delete_aloud : (numbers text : List ℕ) → length text < 2 ^ 64 → IsAloud (codes "delete" ++ 32 ∷ numbers) text (delete_from numbers text)
delete_aloud numbers text small read e =
    let a = went_on (number_from (length text) numbers) _ read e in
    let b = went_on (one_part a.x text) _ read a.then_ in
    let c = where_true (is_path b.x.0) (item.Change (Delete b.x.0), b.x.1) read b.then_ in
    let parts = one_part_aloud a.x text b.x b.first in
    aloud_as _ (item.Change (Delete b.x.0)) b.x.1 read c.1
    ((λ i. (codes "delete" ++ 32 ∷ number_aloud (length text) a.x numbers small a.first i) ++ 10 ∷ parts.0 i)
    ∙ (λ i. one_line (codes "delete") (sym parts.1 i) ++ 10 ∷ (b.x.0 ++ 10 ∷ b.x.1))
    ∙ sym (one_text (codes "delete") (length b.x.0) b.x.0 b.x.1))

-- by the word of the line
either : (word numbers text known : List ℕ) (b : Bool) → bytes_eq word known ≡ b → (r s : Result (Item × List ℕ) ItemFault) → IsAloud (known ++ 32 ∷ numbers) text r → IsAloud (word ++ 32 ∷ numbers) text s → IsAloud (word ++ 32 ∷ numbers) text (if b then r else s)
either word numbers text known true is r s h i = λ read e. ap (λ w. (w ++ 32 ∷ numbers) ++ 10 ∷ text) (same_from word known is) ∙ h read e
either word numbers text known false is r s h i = i

word_aloud : (number : ℕ) (word numbers text : List ℕ) → length text < 2 ^ 64 → IsAloud (word ++ 32 ∷ numbers) text (item_of number word numbers text)
unfolding item_of
word_aloud number word numbers text small =
    either word numbers text (codes "prop") _ refl _ _ (prop_aloud numbers text small)
    (either word numbers text (codes "mkdir") _ refl _ _ (mkdir_aloud numbers text small)
    (either word numbers text (codes "delete") _ refl _ _ (delete_aloud numbers text small)
    (either word numbers text (codes "put") _ refl _ _ (put_aloud numbers text small)
    (either word numbers text (codes "setprop") _ refl _ _ (setprop_aloud numbers text small)
    (either word numbers text (codes "delprop") _ refl _ _ (delprop_aloud numbers text small)
    (either word numbers text (codes "copy") _ refl _ _ (copy_aloud number numbers text small) (λ read e. absurd (cc))))))))

after_aloud : (number : ℕ) (line text : List ℕ) → length text < 2 ^ 64 → IsAloud line text (item_after number line text)
unfolding item_after
after_aloud number line text small = by (bytes_eq line (codes "end")) refl
  where
    by : (b : Bool) → bytes_eq line (codes "end") ≡ b → IsAloud line text (if b then Ok (item.End, text) else (word_from line >>= (λ word. item_of number word.0 word.1 text)))
    by true is read e = aloud_as (line ++ 10 ∷ text) item.End text read (ok_is (item.End, text) read e) (ap (λ t. t ++ 10 ∷ text) (same_from line (codes "end") is))
    by false is read e = let a = went_on (word_from line) _ read e in ap (λ t. t ++ 10 ∷ text) (cut_aloud 32 line a.x a.first) ∙ word_aloud number a.x.0 a.x.1 text small read a.then_

pub item_aloud : (number : ℕ) (text : List ℕ) (read : Item × List ℕ) → length text < 2 ^ 64 → item_from number text ≡ Ok read → text ≡ item_text read.0 ++ read.1
unfolding item_from
item_aloud number text read small e =
    let a = went_on (line_from text) _ read e in
    let is = cut_aloud 10 text a.x a.first in
    let size = ap length is ∙ length-append a.x.0 (10 ∷ a.x.1) in
    is ∙ after_aloud number a.x.0 a.x.1 (omega (arith, size, small)) read a.then_
