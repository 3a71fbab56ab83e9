-- A revision that is written and read back.
use Rattle.std.proofs.Common.{◌≡◌, ℕ, suc, ◌<◌, ◌≤◌, ◌^◌, ◌+◌, T, Bool, true, false, ◌||◌, List, [], ◌∷◌, ◌++◌, Result, Ok, length, nat_eq, refl, ap, ◌∙◌, subst, arith, append_assoc, length-append}
use Rattle.std.specs.Prelude.{codes, ◌==◌}
use Rattle.std.specs.List.{flat_map}
use Rattle.std.specs.Fmt.{decimal}
use Rattle.std.proofs.lemmas.Bool.Decides.{nat_tests}
use Rattle.std.proofs.lemmas.List.Concat.{flat_map-cons}
use Rattle.dsv_base.specs.Gives.{◌>>=◌}
use Rattle.dsv_base.specs.Names.{is_user_name}
use Rattle.dsv_base.specs.declared.prop.Prop.{Prop}
use Rattle.rev_nodes.specs.declared.change.Change.{Change}
use Rattle.rev_nodes.specs.declared.change.Change.TheVariants.{Put, SetProp, DelProp, Mkdir, Delete, Copy}
use Rattle.rev_nodes.specs.declared.commit.Commit.{Commit}
use Rattle.rev_scripts.specs.declared.script_fault.ScriptFault.{ScriptFault}
use Rattle.rev_scripts.specs.Steps.{ok_where, at_line, line_after, most_revision}
use Rattle.rev_scripts.specs.Items.{nothing_told}
use Rattle.rev_scripts.specs.Scripts.{Items, Read, items_from, revision_line, revision_head, revision_from, read_of}
use Rattle.rev_nodes.specs.Commits.{is_author}
use Rattle.rev_scripts.specs.Written.{three_numbers, head_text, revision_text, prop_text, change_text, IsTellable, ReadsBack}
use Rattle.rev_scripts.proofs.Spelled.{and_parts, line_back, number_word, number_back, one_part_back}
use Rattle.rev_scripts.proofs.TextsBack.{three_line, three_lacks, fits, first_fits}
use Rattle.rev_scripts.proofs.ItemsBack.{TellsAll, props_back, may_start}

-- ---- the head

same_number : (n : ℕ) → (n == n) ≡ true
same_number n = grind (arith, nat_tests)

line_read : (top number moment author : ℕ) → number ≤ most_revision → moment ≤ 253402300799999999 → author ≤ top → author < 2 ^ 64 → revision_line top number (three_line (codes "revision") number moment author) ≡ Ok (moment, author)
unfolding revision_line
line_read top number moment author small early short fits =
    rw (number_word number (decimal moment ++ 32 ∷ decimal author) (omega arith), number_back most_revision number small (omega arith), number_word moment (decimal author) (omega arith), number_back 253402300799999999 moment early (omega arith), number_back top author short fits) (ap (λ (b : Bool). ok_where b (moment, author)) (same_number number))

or_else : (a b : Bool) → (a || b) ≡ true → a ≡ false → b ≡ true
or_else true b h e = absurd (subst T e tt)
or_else false b h e = h

user_fits : (name : List ℕ) → is_user_name name ≡ true → length name ≤ 255
unfolding is_user_name
user_fits name h = fits (length name) 255 (and_parts _ _ (and_parts _ _ (and_parts _ _ (and_parts _ _ h).0).0).0).1

not_zero : (n : ℕ) → nat_eq (suc n) 0 ≡ false
not_zero n = grind (arith, nat_tests)

author_fits : (name : List ℕ) → is_author name ≡ true → length name ≤ 255
author_fits [] h = omega arith
author_fits (b ∷ bs) h = user_fits (b ∷ bs) (or_else (nat_eq (suc (length bs)) 0) (is_user_name (b ∷ bs)) h (not_zero (length bs)))

head_read : (number : ℕ) (commit : Commit) (more : List ℕ) → number ≤ most_revision → commit.moment ≤ 253402300799999999 → is_author commit.author ≡ true → revision_head number (three_line (codes "revision") number commit.moment (length commit.author) ++ 10 ∷ (commit.author ++ 10 ∷ more)) ≡ Ok (commit.moment, commit.author, more)
unfolding revision_head
head_read number commit more small early author =
    let short : length commit.author ≤ 255 = author_fits commit.author author in
    rw (
      line_back (three_line (codes "revision") number commit.moment (length commit.author)) (commit.author ++ 10 ∷ more) (three_lacks (codes "revision") number commit.moment (length commit.author) (omega arith) (omega arith) (omega arith) refl),
      line_read (length (commit.author ++ 10 ∷ more)) number commit.moment (length commit.author) small early (first_fits commit.author (10 ∷ more)) (omega arith),
      one_part_back commit.author more,
    )
    (ap (λ (b : Bool). ok_where b (commit.moment, commit.author, more)) author)

-- ---- the whole

head_shape : (word : List ℕ) (k m n : ℕ) (one more : List ℕ) → (three_numbers word k m n ++ one ++ codes "\n") ++ more ≡ three_line word k m n ++ 10 ∷ (one ++ 10 ∷ more)
head_shape word k m n one more = simp append_assoc refl

pieces : (a b c d more : List ℕ) → (a ++ b ++ c ++ d) ++ more ≡ a ++ (b ++ (c ++ (d ++ more)))
pieces a b c d more = simp append_assoc refl

starts : (b : ℕ) (bs text : List ℕ) → text ≡ b ∷ bs → 1 ≤ length text
starts b bs text e = let count : length text ≡ suc (length bs) = ap length e in omega arith

prop_long : (prop : Prop) → 1 ≤ length (prop_text prop)
prop_long prop = starts _ _ (prop_text prop) refl

change_long : (change : Change) → 1 ≤ length (change_text change)
change_long (Put path text) = starts _ _ (change_text (Put path text)) refl
change_long (SetProp path name value) = starts _ _ (change_text (SetProp path name value)) refl
change_long (DelProp path name) = starts _ _ (change_text (DelProp path name)) refl
change_long (Mkdir path) = starts _ _ (change_text (Mkdir path)) refl
change_long (Delete path) = starts _ _ (change_text (Delete path)) refl
change_long (Copy source rev path) = starts _ _ (change_text (Copy source rev path)) refl

all_long : {X : Type 0} (f : X → List ℕ) → ((x : X) → 1 ≤ length (f x)) → (xs : List X) → length xs ≤ length (flat_map f xs)
all_long f long [] = omega arith
all_long f long (x ∷ xs) =
    let others = all_long f long xs in
    let one = long x in
    let count : length (flat_map f (x ∷ xs)) ≡ length (f x) + length (flat_map f xs) = ap length (flat_map-cons f x xs) ∙ length-append (f x) (flat_map f xs) in
    omega arith

enough : (props : List Prop) (changes : List Change) (rest : List ℕ) → length props + length changes < length (flat_map prop_text props ++ (flat_map change_text changes ++ (codes "end\n" ++ rest)))
enough props changes rest =
    let a = all_long prop_text prop_long props in
    let b = all_long change_text change_long changes in
    let c : length (flat_map prop_text props ++ (flat_map change_text changes ++ (codes "end\n" ++ rest))) ≡ length (flat_map prop_text props) + length (flat_map change_text changes ++ (codes "end\n" ++ rest)) = length-append (flat_map prop_text props) _ in
    let d : length (flat_map change_text changes ++ (codes "end\n" ++ rest)) ≡ length (flat_map change_text changes) + length (codes "end\n" ++ rest) = length-append (flat_map change_text changes) _ in
    omega arith

start_may : (props : List Prop) → may_start [] props ≡ true
start_may [] = refl
start_may (prop ∷ props) = refl

read_with : (number line : ℕ) (text more : List ℕ) (commit : Commit) → at_line line (revision_head number text) ≡ Ok (commit.moment, commit.author, more) → revision_from number line text ≡ Ok (read_of (commit.moment, commit.author, more) (items_from (length more) number nothing_told (line_after line text more) more))
unfolding revision_from
read_with number line text more commit e = ap (λ (r : Result (ℕ × List ℕ × List ℕ) ScriptFault). r >>= (λ head. Ok (read_of head (items_from (length head.2) number nothing_told (line_after line text head.2) head.2)))) e

pub revision_back : (number : ℕ) (commit : Commit) → IsTellable number commit → ReadsBack number commit (revision_text number commit)
unfolding revision_text
revision_back number commit t line rest = (told.lines, told.next, read_with number line (revision_text number commit ++ rest) more commit (ap (at_line line) head) ∙ ap (λ (items : Items). let r : Result Read ScriptFault = Ok (read_of (commit.moment, commit.author, more) items) in r) told.is)
  where
    more : List ℕ
    more = flat_map prop_text commit.props ++ (flat_map change_text commit.changes ++ (codes "end\n" ++ rest))

    text_is : revision_text number commit ++ rest ≡ three_line (codes "revision") number commit.moment (length commit.author) ++ 10 ∷ (commit.author ++ 10 ∷ more)
    text_is = pieces (head_text number commit) (flat_map prop_text commit.props) (flat_map change_text commit.changes) (codes "end\n") rest ∙ head_shape (codes "revision") number commit.moment (length commit.author) commit.author more

    head : revision_head number (revision_text number commit ++ rest) ≡ Ok (commit.moment, commit.author, more)
    head = ap (revision_head number) text_is ∙ head_read number commit more t.number_fits t.moment_fits t.author

    told : TellsAll (items_from (length more) number nothing_told (line_after line (revision_text number commit ++ rest) more) more) commit.props commit.changes rest
    told = props_back commit.props commit.changes number nothing_told (line_after line (revision_text number commit ++ rest) more) (length more) rest t.number_fits refl t.props (start_may commit.props) t.rising t.changes (enough commit.props commit.changes rest)

pub revision_long : (number : ℕ) (commit : Commit) → 1 ≤ length (revision_text number commit)
unfolding revision_text
revision_long number commit = starts _ _ (revision_text number commit) refl
