-- A script with one revision more behind it.
use Rattle.std.proofs.Common.{◌≡◌, ℕ, zero, suc, ◌≤◌, ◌+◌, List, [], ◌∷◌, ◌++◌, Result, Ok, Err, length, refl, sym, ap, ◌∙◌, arith, append-nil, length-append}
use Rattle.dsv_base.specs.Gives.{◌>>=◌}
use Rattle.rev_nodes.specs.declared.commit.Commit.{Commit}
use Rattle.rev_scripts.specs.declared.item.Item.{Item}
use Rattle.rev_scripts.specs.declared.item.Item.TheVariants as item
use Rattle.rev_scripts.specs.declared.script_fault.ScriptFault.{ScriptFault}
use Rattle.rev_nodes.specs.declared.unfit.Unfit.{Unfit}
use Rattle.rev_scripts.specs.Steps.{at_line, line_after}
use Rattle.rev_scripts.specs.Items.{Told, nothing_told, told_with_prop, told_with_change}
use Rattle.rev_nodes.specs.Trees.{Repository, Revision}
use Rattle.rev_nodes.specs.Pushes.{first_revision, pushed}
use Rattle.rev_scripts.specs.Scripts.{Items, Read, items_from, next_item, and_others, heading_from, revision_head, revision_from, read_of, at_change, with_read, revisions_from, repository_from}
use Rattle.rev_scripts.specs.Written.{revision_text, IsTellable, Extends}
use Rattle.rev_scripts.proofs.MoreBehind.{Behind, more_1, more_2, line_after_more, next_more, head_more, heading_more, behind_line}
use Rattle.rev_scripts.proofs.RevisionBack.{revision_back, revision_long}

-- ---- items

not_ok : {A F B : Type 0} (e : F) (a : A) → (let r : Result A F = Err e in r) ≡ Ok a → B
not_ok e a h = absurd (cc)

ok_is : {A F : Type 0} (a b : A) → (let r : Result A F = Ok a in r) ≡ Ok b → a ≡ b
ok_is a b h = cc

-- more behind the text that is left
abbrev left_more : List ℕ → Items → Items
left_more more (told, Ok after) = (told, Ok (after.0, after.1 ++ more))
left_more more (told, Err fault) = (told, Err fault)

read_more : (steps others number : ℕ) (told : Told) (line : ℕ) (text more : List ℕ) (all : Told) (next : ℕ) (rest : List ℕ) → ((told : Told) (line : ℕ) (text : List ℕ) → items_from steps number told line text ≡ (all, Ok (next, rest)) → items_from others number told line (text ++ more) ≡ (all, Ok (next, rest ++ more))) → (read then_ : Result (Item × List ℕ) ScriptFault) → Behind (more_1 more) read then_ → and_others (items_from steps number) told line text read ≡ (all, Ok (next, rest)) → and_others (items_from others number) told line (text ++ more) then_ ≡ (all, Ok (next, rest ++ more))
read_more steps others number told line text more all next rest go (Err fault) then_ h i = not_ok fault (next, rest) (ap (λ (i : Items). i.1) i)
read_more steps others number told line text more all next rest go (Ok (item.End, left)) then_ h i =
    ap (and_others (items_from others number) told line (text ++ more)) h
    ∙ ap (λ (n : ℕ). let i : Items = (told, Ok (n, left ++ more)) in i) (line_after_more line text left more)
    ∙ ap (left_more more) i
read_more steps others number told line text more all next rest go (Ok (item.Prop prop, left)) then_ h i =
    ap (and_others (items_from others number) told line (text ++ more)) h
    ∙ ap (λ (n : ℕ). items_from others number (told_with_prop told prop) n (left ++ more)) (line_after_more line text left more)
    ∙ go (told_with_prop told prop) (line_after line text left) left i
read_more steps others number told line text more all next rest go (Ok (item.Change change, left)) then_ h i =
    ap (and_others (items_from others number) told line (text ++ more)) h
    ∙ ap (λ (n : ℕ). items_from others number (told_with_change told change line) n (left ++ more)) (line_after_more line text left more)
    ∙ go (told_with_change told change line) (line_after line text left) left i

pub items_more : (steps others number : ℕ) (told : Told) (line : ℕ) (text more : List ℕ) (all : Told) (next : ℕ) (rest : List ℕ) → steps ≤ others → items_from steps number told line text ≡ (all, Ok (next, rest)) → items_from others number told line (text ++ more) ≡ (all, Ok (next, rest ++ more))
unfolding items_from
items_more zero others number told line text more all next rest enough e = not_ok _ (next, rest) (ap (λ (i : Items). i.1) e)
items_more (suc steps) zero number told line text more all next rest enough e = absurd (omega arith)
items_more (suc steps) (suc others) number told line text more all next rest enough e =
    read_more steps others number told line text more all next rest (λ t l x. items_more steps others number t l x more all next rest (omega arith)) (next_item number told line text) (next_item number told line (text ++ more)) (next_more number told line text more) e

-- ---- a revision

-- more behind the text that is left
abbrev read_left : List ℕ → Read → Read
read_left more read = record read { after = read.after >>= (λ after. Ok (after.0, after.1 ++ more)) }

items_are : (steps others number line : ℕ) (text more : List ℕ) (items : Items) (next : ℕ) (rest : List ℕ) → items_from steps number nothing_told line text ≡ items → items.1 ≡ Ok (next, rest) → steps ≤ others → items_from others number nothing_told line (text ++ more) ≡ (items.0, Ok (next, rest ++ more))
items_are steps others number line text more items next rest e after enough =
    items_more steps others number nothing_told line text more items.0 next rest enough (e ∙ ap (λ (a : Result (ℕ × List ℕ) ScriptFault). let i : Items = (items.0, a) in i) after)

from_head : (number line : ℕ) (text more : List ℕ) (read : Read) (next : ℕ) (rest : List ℕ) → read.after ≡ Ok (next, rest) → (head then_ : Result (ℕ × List ℕ × List ℕ) ScriptFault) → Behind (more_2 more) head then_ → (head >>= (λ head. Ok (read_of head (items_from (length head.2) number nothing_told (line_after line text head.2) head.2)))) ≡ Ok read → (then_ >>= (λ head. Ok (read_of head (items_from (length head.2) number nothing_told (line_after line (text ++ more) head.2) head.2)))) ≡ Ok (read_left more read)
from_head number line text more read next rest after (Err fault) then_ h e = not_ok fault read e
from_head number line text more read next rest after (Ok head) then_ h e =
    let items = items_from (length head.2) number nothing_told (line_after line text head.2) head.2 in
    let same : read_of head items ≡ read = ok_is (read_of head items) read e in
    let left : items.1 ≡ Ok (next, rest) = ap (λ (r : Read). r.after) same ∙ after in
    let long : length (head.2 ++ more) ≡ length head.2 + length more = length-append head.2 more in
    ap (λ (r : Result (ℕ × List ℕ × List ℕ) ScriptFault). r >>= (λ head. let r : Result Read ScriptFault = Ok (read_of head (items_from (length head.2) number nothing_told (line_after line (text ++ more) head.2) head.2)) in r)) h
    ∙ ap (λ (n : ℕ). let r : Result Read ScriptFault = Ok (read_of head (items_from (length (head.2 ++ more)) number nothing_told n (head.2 ++ more))) in r) (line_after_more line text head.2 more)
    ∙ ap (λ (i : Items). let r : Result Read ScriptFault = Ok (read_of head i) in r) (items_are (length head.2) (length (head.2 ++ more)) number (line_after line text head.2) head.2 more items next rest refl left (omega arith))
    ∙ sym (ap (λ (a : Result (ℕ × List ℕ) ScriptFault). let r : Result Read ScriptFault = Ok (record (read_of head items) { after = a >>= (λ after. Ok (after.0, after.1 ++ more)) }) in r) left)
    ∙ ap (λ (r : Read). let r : Result Read ScriptFault = Ok (read_left more r) in r) same

pub revision_more : (number line : ℕ) (text more : List ℕ) (read : Read) (next : ℕ) (rest : List ℕ) → revision_from number line text ≡ Ok read → read.after ≡ Ok (next, rest) → revision_from number line (text ++ more) ≡ Ok (read_left more read)
unfolding revision_from
revision_more number line text more read next rest e after =
    from_head number line text more read next rest after (at_line line (revision_head number text)) (at_line line (revision_head number (text ++ more))) (behind_line (more_2 more) line _ _ (head_more number text more)) e

-- ---- all revisions

-- the revisions, and what of the text is to be read next
pub record Comes (now : Result (List Revision) ScriptFault) (all : List Revision) (more : List ℕ) : Type 0 where
  pub steps : ℕ
  pub line : ℕ
  pub enough : length more ≤ steps
  pub is : now ≡ revisions_from steps all line more

comes_from : {now later : Result (List Revision) ScriptFault} (all : List Revision) (more : List ℕ) → now ≡ later → Comes later all more → Comes now all more
comes_from all more e c = record { steps = c.steps; line = c.line; enough = c.enough; is = e ∙ c.is }

abbrev then_left : Result (List Revision) ScriptFault → Result (ℕ × List ℕ) ScriptFault → Result (List Revision × ℕ × List ℕ) ScriptFault
then_left next after = next >>= (λ all. after >>= (λ after. Ok (all, after.0, after.1)))

abbrev left_after : List ℕ → Result (ℕ × List ℕ) ScriptFault → Result (ℕ × List ℕ) ScriptFault
left_after more after = after >>= (λ after. Ok (after.0, after.1 ++ more))

abbrev and_read : ℕ → List Revision × ℕ × List ℕ → Result (List Revision) ScriptFault
and_read steps next = revisions_from steps next.0 next.1 next.2

-- one revision was read; the others are
step_more : (left others : ℕ) (revisions all : List Revision) (line : ℕ) (text more : List ℕ) → ((revisions : List Revision) (line : ℕ) (text : List ℕ) → revisions_from left revisions line text ≡ Ok all → Comes (revisions_from others revisions line (text ++ more)) all more) → (read : Read) → revision_from (length revisions) line text ≡ Ok read → (next : Result (List Revision) ScriptFault) → at_change read.lines (pushed revisions read.commit) ≡ next → (after : Result (ℕ × List ℕ) ScriptFault) → read.after ≡ after → (then_left next after >>= and_read left) ≡ Ok all → Comes (revision_from (length revisions) line (text ++ more) >>= (λ read. with_read revisions read >>= and_read others)) all more
step_more left others revisions all line text more go read is (Err fault) pushes after left_is e = not_ok fault all e
step_more left others revisions all line text more go read is (Ok next) pushes (Err fault) left_is e = not_ok fault all e
step_more left others revisions all line text more go read is (Ok next) pushes (Ok after) left_is e =
    comes_from all more
    (ap (λ (r : Result Read ScriptFault). r >>= (λ read. with_read revisions read >>= and_read others)) (revision_more (length revisions) line text more read after.0 after.1 is left_is)
    ∙ ap (λ (n : Result (List Revision) ScriptFault). then_left n (left_after more read.after) >>= and_read others) pushes
    ∙ ap (λ (a : Result (ℕ × List ℕ) ScriptFault). then_left (Ok next) (left_after more a) >>= and_read others) left_is)
    (go next after.0 after.1 e)

one_more : (left others : ℕ) (revisions all : List Revision) (line : ℕ) (text more : List ℕ) → ((revisions : List Revision) (line : ℕ) (text : List ℕ) → revisions_from left revisions line text ≡ Ok all → Comes (revisions_from others revisions line (text ++ more)) all more) → (read : Result Read ScriptFault) → revision_from (length revisions) line text ≡ read → (read >>= (λ read. with_read revisions read >>= and_read left)) ≡ Ok all → Comes (revision_from (length revisions) line (text ++ more) >>= (λ read. with_read revisions read >>= and_read others)) all more
one_more left others revisions all line text more go (Err fault) is e = not_ok fault all e
one_more left others revisions all line text more go (Ok read) is e = step_more left others revisions all line text more go read is (at_change read.lines (pushed revisions read.commit)) refl read.after refl e

pub revisions_more : (steps others : ℕ) (revisions all : List Revision) (line : ℕ) (text more : List ℕ) → steps + length more ≤ others → revisions_from steps revisions line text ≡ Ok all → Comes (revisions_from others revisions line (text ++ more)) all more
unfolding revisions_from
revisions_more steps others revisions all line [] more enough e = record { steps = others; line = line; enough = omega arith; is = ap (λ (r : List Revision). revisions_from others r line more) (ok_is revisions all e) }
revisions_more zero others revisions all line (b ∷ bs) more enough e = not_ok _ all e
revisions_more (suc left) zero revisions all line (b ∷ bs) more enough e = absurd (omega arith)
revisions_more (suc left) (suc others) revisions all line (b ∷ bs) more enough e =
    one_more left others revisions all line (b ∷ bs) more (λ r l t h. revisions_more left others r all l t more (omega arith) h) (revision_from (length revisions) line (b ∷ bs)) refl e

-- ---- the next revision

last_read : (number line steps : ℕ) (revisions all : List Revision) (commit : Commit) → IsTellable number commit → length revisions ≡ number → pushed revisions commit ≡ Ok all → (text : List ℕ) → text ≡ revision_text number commit → length text ≤ steps → revisions_from steps revisions line text ≡ Ok all
unfolding revisions_from
last_read number line steps revisions all commit t count pushes [] is enough =
    let long = revision_long number commit in
    let none : 0 ≡ length (revision_text number commit) = ap length is in
    absurd (omega arith)
last_read number line zero revisions all commit t count pushes (b ∷ bs) is enough = absurd (omega arith)
last_read number line (suc left) revisions all commit t count pushes (b ∷ bs) is enough =
    let back = revision_back number commit t line [] in
    ap (λ (n : ℕ). revision_from n line (b ∷ bs) >>= (λ read. with_read revisions read >>= and_read left)) count
    ∙ ap (λ (text : List ℕ). revision_from number line text >>= (λ read. with_read revisions read >>= and_read left)) (is ∙ sym (append-nil (revision_text number commit)))
    ∙ ap (λ (r : Result Read ScriptFault). r >>= (λ read. with_read revisions read >>= and_read left)) back.2
    ∙ ap (λ (r : Result (List Revision) (ℕ × Unfit)). then_left (at_change back.0 r) (Ok (back.1, [])) >>= and_read left) pushes

-- ---- the whole

abbrev repository_with : List ℕ × List ℕ × List ℕ → Result (List Revision) ScriptFault → Result Repository ScriptFault
repository_with heading revisions = revisions >>= (λ revisions. Ok (record { name = heading.0; uuid = heading.1; revisions = revisions }))

abbrev after_zeroth : List ℕ × List ℕ × List ℕ → Commit → Result (ℕ × List ℕ) ScriptFault → Result Repository ScriptFault
after_zeroth heading commit after = after >>= (λ after. repository_with heading (revisions_from (length after.1) (first_revision commit ∷ []) after.0 after.1))

parts_of : (heading : List ℕ × List ℕ × List ℕ) (all : Result (List Revision) ScriptFault) (repository : Repository) → repository_with heading all ≡ Ok repository → (all ≡ Ok repository.revisions) × (heading.0 ≡ repository.name) × (heading.1 ≡ repository.uuid)
parts_of heading (Err fault) repository e = not_ok fault repository e
parts_of heading (Ok all) repository e =
    let same : (let r : Repository = record { name = heading.0; uuid = heading.1; revisions = all } in r) ≡ repository = ok_is _ repository e in
    (ap (λ (r : Repository). let o : Result (List Revision) ScriptFault = Ok r.revisions in o) same, ap (λ (r : Repository). r.name) same, ap (λ (r : Repository). r.uuid) same)

after_more : (number : ℕ) (commit zeroth : Commit) → IsTellable number commit → (heading : List ℕ × List ℕ × List ℕ) (after : ℕ × List ℕ) (repository : Repository) (revisions : List Revision) → length repository.revisions ≡ number → pushed repository.revisions commit ≡ Ok revisions → after_zeroth heading zeroth (Ok after) ≡ Ok repository → after_zeroth heading zeroth (Ok (after.0, after.1 ++ revision_text number commit)) ≡ Ok (record repository { revisions = revisions })
after_more number commit zeroth t heading after repository revisions count pushes e =
    let text = revision_text number commit in
    let first : List Revision = first_revision zeroth ∷ [] in
    let r = parts_of heading (revisions_from (length after.1) first after.0 after.1) repository e in
    let long : length (after.1 ++ text) ≡ length after.1 + length text = length-append after.1 text in
    let comes = revisions_more (length after.1) (length (after.1 ++ text)) first repository.revisions after.0 after.1 text (omega arith) r.0 in
    let done = comes.is ∙ last_read number comes.line comes.steps repository.revisions revisions commit t count pushes text refl comes.enough in
    ap (repository_with heading) done
    ∙ (λ i. Ok (record { name = r.1 i; uuid = r.2 i; revisions = revisions }))

zeroth_more : (number : ℕ) (commit : Commit) → IsTellable number commit → (heading : List ℕ × List ℕ × List ℕ) (repository : Repository) (revisions : List Revision) → length repository.revisions ≡ number → pushed repository.revisions commit ≡ Ok revisions → (zeroth : Result Read ScriptFault) → revision_from 0 4 heading.2 ≡ zeroth → (zeroth >>= (λ zeroth. after_zeroth heading zeroth.commit zeroth.after)) ≡ Ok repository → (revision_from 0 4 (heading.2 ++ revision_text number commit) >>= (λ zeroth. after_zeroth heading zeroth.commit zeroth.after)) ≡ Ok (record repository { revisions = revisions })
zeroth_more number commit t heading repository revisions count pushes (Err fault) is e = not_ok fault repository e
zeroth_more number commit t heading repository revisions count pushes (Ok zeroth) is e = by_after zeroth.after refl e
  where
    text : List ℕ
    text = revision_text number commit

    by_after : (after : Result (ℕ × List ℕ) ScriptFault) → zeroth.after ≡ after → after_zeroth heading zeroth.commit after ≡ Ok repository → (revision_from 0 4 (heading.2 ++ text) >>= (λ zeroth. after_zeroth heading zeroth.commit zeroth.after)) ≡ Ok (record repository { revisions = revisions })
    by_after (Err fault) left_is i = not_ok fault repository i
    by_after (Ok after) left_is i =
        ap (λ (r : Result Read ScriptFault). r >>= (λ zeroth. after_zeroth heading zeroth.commit zeroth.after)) (revision_more 0 4 heading.2 text zeroth after.0 after.1 is left_is)
        ∙ ap (λ (a : Result (ℕ × List ℕ) ScriptFault). after_zeroth heading zeroth.commit (left_after text a)) left_is
        ∙ after_more number commit zeroth.commit t heading after repository revisions count pushes i

pub extends : (number : ℕ) (commit : Commit) → IsTellable number commit → Extends number commit (revision_text number commit)
unfolding repository_from
extends number commit t script repository revisions is count pushes = by_heading (heading_from script) (heading_from (script ++ text)) (heading_more script text) is
  where
    text : List ℕ
    text = revision_text number commit

    by_heading : (heading then_ : Result (List ℕ × List ℕ × List ℕ) ScriptFault) → Behind (more_2 text) heading then_ → (heading >>= (λ heading. revision_from 0 4 heading.2 >>= (λ zeroth. after_zeroth heading zeroth.commit zeroth.after))) ≡ Ok repository → (then_ >>= (λ heading. revision_from 0 4 heading.2 >>= (λ zeroth. after_zeroth heading zeroth.commit zeroth.after))) ≡ Ok (record repository { revisions = revisions })
    by_heading (Err fault) then_ h e = not_ok fault repository e
    by_heading (Ok heading) then_ h e =
        ap (λ (r : Result (List ℕ × List ℕ × List ℕ) ScriptFault). r >>= (λ heading. revision_from 0 4 heading.2 >>= (λ zeroth. after_zeroth heading zeroth.commit zeroth.after))) h
        ∙ zeroth_more number commit t heading repository revisions count pushes (revision_from 0 4 heading.2) refl e
