-- The items of a revision that are written and read back.
use Rattle.std.proofs.Common.{◌≡◌, ℕ, ◌<◌, ◌≤◌, ◌-◌, ◌^◌, Bool, true, false, ◌&&◌, ◌||◌, List, [], ◌∷◌, ◌++◌, Result, Ok, length, nat_eq, nat_le, nat_lt, refl, ap, ◌∙◌, arith, append_assoc, length-append, length-drop}
use Rattle.std.specs.Prelude.{codes, drop, if◌then◌else◌}
use Rattle.std.specs.List.{starts_with}
use Rattle.std.specs.Fmt.{decimal}
use Rattle.std.proofs.lemmas.Bool.Decides.{nat_tests}
use Rattle.std.proofs.lemmas.List.Folds.{list_all-append}
use Rattle.dsv_base.specs.Gives.{◌>>=◌}
use Rattle.dsv_base.specs.Paths.{is_path}
use Rattle.dsv_base.specs.declared.prop.Prop.{Prop}
use Rattle.rev_nodes.specs.declared.change.Change.{Change}
use Rattle.rev_nodes.specs.declared.change.Change.TheVariants.{Put, SetProp, DelProp, Mkdir, Delete, Copy}
use Rattle.rev_scripts.specs.declared.item.Item.TheVariants as item
use Rattle.rev_scripts.specs.declared.item_fault.ItemFault.{ItemFault}
use Rattle.rev_nodes.specs.PropertyNames.{is_property_name, is_revision_property, is_local_name}
use Rattle.rev_scripts.specs.Steps.{ok_where, most_revision}
use Rattle.rev_scripts.specs.Items.{item_from, item_after, item_of, prop_from, mkdir_from, delete_from, put_from, setprop_from, delprop_from, copy_from}
use Rattle.rev_scripts.specs.Written.{one_number, two_numbers, three_numbers, prop_text, change_text, is_short, is_tellable_prop, is_tellable_change}
use Rattle.rev_scripts.proofs.Spelled.{and_parts, lacks, line_back, number_lacks, number_back, one_part_back, two_parts_back, three_parts_back, two_lengths_back, three_lengths_back, copy_numbers_back}

-- ---- how long names and paths are

pub fits : (n most : ℕ) → nat_le n most ≡ true → n ≤ most
fits n most h = grind (arith, nat_tests)

or_parts : (a b c : Bool) → (a && (b || c)) ≡ true → (b || c) ≡ true
or_parts a b c h = (and_parts a (b || c) h).1

few_bytes : (n most : ℕ) (b : Bool) → (nat_eq n 0 || (nat_le n most && b)) ≡ true → n ≤ most
few_bytes n most b h = grind (arith, nat_tests)

pub path_fits : (path : List ℕ) → is_path path ≡ true → length path ≤ 1024
unfolding is_path
path_fits [] h = omega arith
path_fits (first ∷ rest) h =
    let few : length rest ≤ 1023 = few_bytes (length rest) 1023 _ (and_parts _ _ h).1 in
    omega arith

local_fits : (name : List ℕ) → is_local_name name ≡ true → length name ≤ 200
local_fits [] h = omega arith
local_fits (b ∷ bs) h =
    let few : nat_le (length bs) 199 ≡ true = (and_parts _ _ (and_parts _ _ h).0).1 in
    let is : length bs ≤ 199 = grind (arith, nat_tests) in
    omega arith

pub name_fits : (name : List ℕ) → is_property_name name ≡ true → length name ≤ 204
unfolding is_property_name
name_fits name h = by_front (starts_with nat_eq name (codes "svn:")) h
  where
    by_front : (b : Bool) → is_local_name (if b then drop 4 name else name) ≡ true → length name ≤ 204
    by_front true i = let few : length (drop 4 name) ≤ 200 = local_fits (drop 4 name) i in let e : length (drop 4 name) ≡ length name - 4 = length-drop 4 name in omega arith
    by_front false i = let few : length name ≤ 200 = local_fits name i in omega arith

-- ---- lines

abbrev pub one_line : List ℕ → ℕ → List ℕ
one_line word one = word ++ 32 ∷ decimal one

abbrev pub two_line : List ℕ → ℕ → ℕ → List ℕ
two_line word one two = word ++ 32 ∷ (decimal one ++ 32 ∷ decimal two)

abbrev pub three_line : List ℕ → ℕ → ℕ → ℕ → List ℕ
three_line word one two three = word ++ 32 ∷ (decimal one ++ 32 ∷ (decimal two ++ 32 ∷ decimal three))

pub one_text : (word : List ℕ) (n : ℕ) (one more : List ℕ) → (one_number word n ++ one ++ codes "\n") ++ more ≡ one_line word n ++ 10 ∷ (one ++ 10 ∷ more)
one_text word n one more = simp append_assoc refl

pub two_text : (word : List ℕ) (m n : ℕ) (one two more : List ℕ) → (two_numbers word m n ++ one ++ two ++ codes "\n") ++ more ≡ two_line word m n ++ 10 ∷ (one ++ (two ++ 10 ∷ more))
two_text word m n one two more = simp append_assoc refl

pub copy_text : (word : List ℕ) (k m n : ℕ) (one two more : List ℕ) → (three_numbers word k m n ++ one ++ two ++ codes "\n") ++ more ≡ three_line word k m n ++ 10 ∷ (one ++ (two ++ 10 ∷ more))
copy_text word k m n one two more = simp append_assoc refl

pub three_text : (word : List ℕ) (k m n : ℕ) (one two three more : List ℕ) → (three_numbers word k m n ++ one ++ two ++ three ++ codes "\n") ++ more ≡ three_line word k m n ++ 10 ∷ (one ++ (two ++ (three ++ 10 ∷ more)))
three_text word k m n one two three more = simp append_assoc refl

both_lack : (byte : ℕ) (xs ys : List ℕ) → lacks byte xs ≡ true → lacks byte ys ≡ true → lacks byte (xs ++ ys) ≡ true
both_lack byte xs ys h i = rw (list_all-append _ xs ys, h) i

one_lacks : (word : List ℕ) (one : ℕ) → one < 2 ^ 64 → lacks 10 word ≡ true → lacks 10 (one_line word one) ≡ true
one_lacks word one few h = both_lack 10 word (32 ∷ decimal one) h (number_lacks 10 one (omega arith) few)

two_lacks : (word : List ℕ) (one two : ℕ) → one < 2 ^ 64 → two < 2 ^ 64 → lacks 10 word ≡ true → lacks 10 (two_line word one two) ≡ true
two_lacks word one two few more h = both_lack 10 word (32 ∷ (decimal one ++ 32 ∷ decimal two)) h (both_lack 10 (decimal one) (32 ∷ decimal two) (number_lacks 10 one (omega arith) few) (number_lacks 10 two (omega arith) more))

pub three_lacks : (word : List ℕ) (one two three : ℕ) → one < 2 ^ 64 → two < 2 ^ 64 → three < 2 ^ 64 → lacks 10 word ≡ true → lacks 10 (three_line word one two three) ≡ true
three_lacks word one two three few more most h = both_lack 10 word (32 ∷ two_line (decimal one) two three) h (two_lacks (decimal one) two three more most (number_lacks 10 one (omega arith) few))

-- ---- items

line_item : (number : ℕ) (line body : List ℕ) → lacks 10 line ≡ true → item_from number (line ++ 10 ∷ body) ≡ item_after number line body
unfolding item_from
line_item number line body h = ap (λ (r : Result (List ℕ × List ℕ) ItemFault). r >>= (λ line. item_after number line.0 line.1)) (line_back line body h)

prop_word : (number m n : ℕ) (body : List ℕ) → item_after number (two_line (codes "prop") m n) body ≡ prop_from (decimal m ++ 32 ∷ decimal n) body
unfolding item_after item_of
prop_word number m n body = refl

put_word : (number m n : ℕ) (body : List ℕ) → item_after number (two_line (codes "put") m n) body ≡ put_from (decimal m ++ 32 ∷ decimal n) body
unfolding item_after item_of
put_word number m n body = refl

delprop_word : (number m n : ℕ) (body : List ℕ) → item_after number (two_line (codes "delprop") m n) body ≡ delprop_from (decimal m ++ 32 ∷ decimal n) body
unfolding item_after item_of
delprop_word number m n body = refl

setprop_word : (number k m n : ℕ) (body : List ℕ) → item_after number (three_line (codes "setprop") k m n) body ≡ setprop_from (decimal k ++ 32 ∷ (decimal m ++ 32 ∷ decimal n)) body
unfolding item_after item_of
setprop_word number k m n body = refl

copy_word : (number k m n : ℕ) (body : List ℕ) → item_after number (three_line (codes "copy") k m n) body ≡ copy_from number (decimal k ++ 32 ∷ (decimal m ++ 32 ∷ decimal n)) body
unfolding item_after item_of
copy_word number k m n body = refl

mkdir_word : (number n : ℕ) (body : List ℕ) → item_after number (one_line (codes "mkdir") n) body ≡ mkdir_from (decimal n) body
unfolding item_after item_of
mkdir_word number n body = refl

delete_word : (number n : ℕ) (body : List ℕ) → item_after number (one_line (codes "delete") n) body ≡ delete_from (decimal n) body
unfolding item_after item_of
delete_word number n body = refl

-- ---- no part is longer than what it stands in

pub short : (text : List ℕ) → is_short text ≡ true → length text < 2 ^ 64
short text h = grind (arith, nat_tests)

pub first_fits : (one more : List ℕ) → length one ≤ length (one ++ more)
first_fits one more = let e = length-append one more in omega (arith, e)

pub second_fits : (one two more : List ℕ) → length two ≤ length (one ++ (two ++ more))
second_fits one two more = let e = length-append one (two ++ more) in let f = length-append two more in omega (arith, e, f)

pub third_fits : (one two three more : List ℕ) → length three ≤ length (one ++ (two ++ (three ++ more)))
third_fits one two three more = let e = length-append one (two ++ (three ++ more)) in let f = second_fits two three more in omega (arith, e, f)

pub prop_item : (prop : Prop) (number : ℕ) (more : List ℕ) → is_tellable_prop prop ≡ true → item_from number (prop_text prop ++ more) ≡ Ok (item.Prop prop, more)
unfolding is_revision_property
prop_item prop number more h =
    let p = and_parts _ _ h in
    let name : length prop.name ≤ 204 = name_fits prop.name (and_parts _ _ (and_parts _ _ p.0).0).0 in
    let value : length prop.value < 2 ^ 64 = short prop.value p.1 in
    let body = prop.name ++ (prop.value ++ 10 ∷ more) in
    ap (item_from number) (two_text (codes "prop") (length prop.name) (length prop.value) prop.name prop.value more)
    ∙ line_item number _ _ (two_lacks (codes "prop") (length prop.name) (length prop.value) (omega arith) (omega arith) refl)
    ∙ prop_word number (length prop.name) (length prop.value) _
    ∙ rw (two_lengths_back (length body) (length prop.name) (length prop.value) (first_fits prop.name (prop.value ++ 10 ∷ more)) (second_fits prop.name prop.value (10 ∷ more)) (omega arith) value, two_parts_back prop.name prop.value more) (ap (λ (b : Bool). ok_where b (item.Prop prop, more)) p.0)

below : (m n : ℕ) → nat_lt m n ≡ true → m < n
below m n h = grind (arith, nat_tests)

change_item_of : (number : ℕ) (change : Change) (more : List ℕ) → number ≤ most_revision → is_tellable_change number change ≡ true → item_from number (change_text change ++ more) ≡ Ok (item.Change change, more)
change_item_of number (Put path text) more small h =
    let p = and_parts _ _ h in
    let q = and_parts _ _ p.0 in
    let path_few : length path ≤ 1024 = path_fits path q.1 in
    let text_few : length text < 2 ^ 64 = short text p.1 in
    let body = path ++ (text ++ 10 ∷ more) in
    ap (item_from number) (two_text (codes "put") (length path) (length text) path text more)
    ∙ line_item number _ _ (two_lacks (codes "put") (length path) (length text) (omega arith) (omega arith) refl)
    ∙ put_word number (length path) (length text) _
    ∙ rw (two_lengths_back (length body) (length path) (length text) (first_fits path (text ++ 10 ∷ more)) (second_fits path text (10 ∷ more)) (omega arith) text_few, two_parts_back path text more) (ap (λ (b : Bool). ok_where b (item.Change (Put path text), more)) q.1)
change_item_of number (SetProp path name value) more small h =
    let p = and_parts _ _ h in
    let q = and_parts _ _ p.0 in
    let r = and_parts _ _ q.0 in
    let path_few : length path ≤ 1024 = path_fits path r.1 in
    let name_few : length name ≤ 204 = name_fits name q.1 in
    let value_few : length value < 2 ^ 64 = short value p.1 in
    let body = path ++ (name ++ (value ++ 10 ∷ more)) in
    ap (item_from number) (three_text (codes "setprop") (length path) (length name) (length value) path name value more)
    ∙ line_item number _ _ (three_lacks (codes "setprop") (length path) (length name) (length value) (omega arith) (omega arith) (omega arith) refl)
    ∙ setprop_word number (length path) (length name) (length value) _
    ∙ rw (three_lengths_back (length body) (length path) (length name) (length value) (first_fits path (name ++ (value ++ 10 ∷ more))) (second_fits path name (value ++ 10 ∷ more)) (third_fits path name value (10 ∷ more)) (omega arith) (omega arith) value_few, three_parts_back path name value more)
    (ap (λ (b : Bool). ok_where b path >>= (λ path. ok_where (is_property_name name) name >>= (λ name. Ok (item.Change (SetProp path name value), more)))) r.1
    ∙ ap (λ (b : Bool). ok_where b name >>= (λ name. Ok (item.Change (SetProp path name value), more))) q.1)
change_item_of number (DelProp path name) more small h =
    let p = and_parts _ _ h in
    let q = and_parts _ _ p.0 in
    let path_few : length path ≤ 1024 = path_fits path q.1 in
    let name_few : length name ≤ 204 = name_fits name p.1 in
    let body = path ++ (name ++ 10 ∷ more) in
    ap (item_from number) (two_text (codes "delprop") (length path) (length name) path name more)
    ∙ line_item number _ _ (two_lacks (codes "delprop") (length path) (length name) (omega arith) (omega arith) refl)
    ∙ delprop_word number (length path) (length name) _
    ∙ rw (two_lengths_back (length body) (length path) (length name) (first_fits path (name ++ 10 ∷ more)) (second_fits path name (10 ∷ more)) (omega arith) (omega arith), two_parts_back path name more)
    (ap (λ (b : Bool). ok_where b path >>= (λ path. ok_where (is_property_name name) name >>= (λ name. Ok (item.Change (DelProp path name), more)))) q.1
    ∙ ap (λ (b : Bool). ok_where b name >>= (λ name. Ok (item.Change (DelProp path name), more))) p.1)
change_item_of number (Mkdir path) more small h =
    let p = and_parts _ _ h in
    let path_few : length path ≤ 1024 = path_fits path p.1 in
    ap (item_from number) (one_text (codes "mkdir") (length path) path more)
    ∙ line_item number _ _ (one_lacks (codes "mkdir") (length path) (omega arith) refl)
    ∙ mkdir_word number (length path) _
    ∙ rw (number_back (length (path ++ 10 ∷ more)) (length path) (first_fits path (10 ∷ more)) (omega arith), one_part_back path more) (ap (λ (b : Bool). ok_where b (item.Change (Mkdir path), more)) p.1)
change_item_of number (Delete path) more small h =
    let p = and_parts _ _ h in
    let path_few : length path ≤ 1024 = path_fits path p.1 in
    ap (item_from number) (one_text (codes "delete") (length path) path more)
    ∙ line_item number _ _ (one_lacks (codes "delete") (length path) (omega arith) refl)
    ∙ delete_word number (length path) _
    ∙ rw (number_back (length (path ++ 10 ∷ more)) (length path) (first_fits path (10 ∷ more)) (omega arith), one_part_back path more) (ap (λ (b : Bool). ok_where b (item.Change (Delete path), more)) p.1)
change_item_of number (Copy source rev path) more small h =
    let p = and_parts _ _ h in
    let q = and_parts _ _ p.0 in
    let r = and_parts _ _ q.0 in
    let source_few : length source ≤ 1024 = path_fits source r.1 in
    let path_few : length path ≤ 1024 = path_fits path q.1 in
    let young : rev < number = below rev number p.1 in
    let body = source ++ (path ++ 10 ∷ more) in
    ap (item_from number) (copy_text (codes "copy") (length source) rev (length path) source path more)
    ∙ line_item number _ _ (three_lacks (codes "copy") (length source) rev (length path) (omega arith) (omega arith) (omega arith) refl)
    ∙ copy_word number (length source) rev (length path) _
    ∙ rw (copy_numbers_back (length body) number (length source) rev (length path) (first_fits source (path ++ 10 ∷ more)) (omega arith) p.1 (second_fits source path (10 ∷ more)) (omega arith) (omega arith), two_parts_back source path more)
    (ap (λ (b : Bool). ok_where b source >>= (λ source. ok_where (is_path path) path >>= (λ path. Ok (item.Change (Copy source rev path), more)))) r.1
    ∙ ap (λ (b : Bool). ok_where b path >>= (λ path. Ok (item.Change (Copy source rev path), more))) q.1)

pub change_item : (change : Change) (number : ℕ) (more : List ℕ) → number ≤ most_revision → is_tellable_change number change ≡ true → item_from number (change_text change ++ more) ≡ Ok (item.Change change, more)
change_item change number more small h = change_item_of number change more small h
