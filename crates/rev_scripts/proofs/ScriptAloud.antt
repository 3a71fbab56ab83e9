-- Whatever is read as a script is the head and the texts of its revisions.
use Rattle.std.proofs.Common.{◌≡◌, ℕ, zero, suc, ◌+◌, ◌^◌, ◌<◌, ◌≤◌, Bool, true, false, ◌&&◌, List, [], ◌∷◌, ◌++◌, Option, None, Some, Result, Ok, Err, length, map, nat_eq, refl, sym, ap, subst, ◌∙◌, arith, append_assoc, append-nil, length-append}
use Rattle.std.specs.Prelude.{codes, ◌==◌}
use Rattle.std.specs.List.{flat_map}
use Rattle.std.specs.Fmt.{decimal}
use Rattle.std.proofs.lemmas.Bool.{and_parts, eqb-true}
use Rattle.std.proofs.lemmas.Bool.Decides.{nat_tests}
use Rattle.std.proofs.lemmas.List.Concat.{flat_map-cons}
use Rattle.dsv_base.specs.Gives.{◌>>=◌}
use Rattle.dsv_base.specs.Names.{is_repository_name}
use Rattle.rev_nodes.specs.declared.change.Change.{Change}
use Rattle.dsv_base.specs.declared.prop.Prop.{Prop}
use Rattle.rev_nodes.specs.declared.commit.Commit.{Commit}
use Rattle.rev_nodes.specs.declared.unfit.Unfit.{Unfit}
use Rattle.rev_nodes.specs.Trees.{Tree, Revision, Repository}
use Rattle.rev_nodes.specs.Pushes.{youngest_tree, tree_after, first_revision, revision_of, pushed}
use Rattle.rev_scripts.specs.declared.item.Item.{Item}
use Rattle.rev_scripts.specs.declared.item.Item.TheVariants as item
use Rattle.rev_scripts.specs.declared.item_fault.ItemFault.{ItemFault}
use Rattle.rev_scripts.specs.declared.script_fault.ScriptFault.{ScriptFault}
use Rattle.rev_scripts.specs.Steps.{ok_where, line_from, word_from, after_front, number_from, most_revision, at_line, line_after}
use Rattle.rev_scripts.specs.Uuids.{is_uuid}
use Rattle.rev_scripts.specs.Items.{Told, nothing_told, may_follow, told_with_prop, told_with_change, one_part, item_from}
use Rattle.rev_scripts.specs.Scripts.{Items, Read, told_line, heading_from, revision_line, revision_head, items_from, next_item, and_others, read_of, revision_from, at_change, with_read, revisions_from, repository_from}
use Rattle.rev_scripts.specs.Written.{three_numbers, prop_text, change_text, head_text, revision_text}
use Rattle.rev_scripts.specs.Aloud.{heading_text, revisions_text, script_text, ScriptsReadAloud}
use Rattle.rev_scripts.proofs.SoundTold.{went_on, where_true, ok_is, at_line_ok, taken_sounds}
use Rattle.rev_scripts.proofs.NumbersAloud.{number_aloud}
use Rattle.rev_scripts.proofs.ItemsAloud.{item_text, item_aloud, cut_aloud, front_aloud, one_part_aloud}
use Rattle.rev_scripts.proofs.TextsBack.{three_line}

not_ok : {A F B : Type 0} (e : F) (a : A) → (let r : Result A F = Err e in r) ≡ Ok a → B
not_ok e a h = absurd (cc)

-- ---- items

abbrev told_text : Told → List ℕ
told_text told = flat_map prop_text told.props ++ flat_map change_text told.changes

one_more : {X : Type 0} (f : X → List ℕ) (xs : List X) (x : X) → flat_map f (xs ++ x ∷ []) ≡ flat_map f xs ++ f x
one_more f [] x = flat_map-cons f x [] ∙ append-nil (f x)
one_more f (y ∷ ys) x = flat_map-cons f y (ys ++ x ∷ []) ∙ ap (λ t. f y ++ t) (one_more f ys x) ∙ sym (append_assoc (f y) (flat_map f ys) (f x)) ∙ ap (λ t. t ++ f x) (sym (flat_map-cons f y ys))

none_there : (changes : List Change) → nat_eq (length changes) 0 ≡ true → changes ≡ []
none_there [] h = refl
none_there (c ∷ cs) h = let none : suc (length cs) ≡ 0 = grind (arith, nat_tests) in absurd (omega (arith, none))

prop_more : (told : Told) (prop : Prop) (rest : List ℕ) → told.changes ≡ [] → told_text told ++ (prop_text prop ++ rest) ≡ told_text (told_with_prop told prop) ++ rest
prop_more told prop rest none =
    ap (λ (cs : List Change). (flat_map prop_text told.props ++ flat_map change_text cs) ++ (prop_text prop ++ rest)) none
    ∙ ap (λ t. t ++ (prop_text prop ++ rest)) (append-nil (flat_map prop_text told.props))
    ∙ sym (append_assoc (flat_map prop_text told.props) (prop_text prop) rest)
    ∙ ap (λ t. t ++ rest) (sym (one_more prop_text told.props prop))
    ∙ ap (λ t. t ++ rest) (sym (append-nil (flat_map prop_text (told.props ++ prop ∷ []))))
    ∙ ap (λ (cs : List Change). (flat_map prop_text (told.props ++ prop ∷ []) ++ flat_map change_text cs) ++ rest) (sym none)

change_more : (told : Told) (change : Change) (line : ℕ) (rest : List ℕ) → told_text told ++ (change_text change ++ rest) ≡ told_text (told_with_change told change line) ++ rest
change_more told change line rest =
    sym (append_assoc (told_text told) (change_text change) rest)
    ∙ ap (λ t. t ++ rest) (append_assoc (flat_map prop_text told.props) (flat_map change_text told.changes) (change_text change))
    ∙ ap (λ t. (flat_map prop_text told.props ++ t) ++ rest) (sym (one_more change_text told.changes change))

taken_is : (number : ℕ) (told : Told) (line : ℕ) (text : List ℕ) (read : Item × List ℕ) → next_item number told line text ≡ Ok read → item_from number text ≡ Ok read
unfolding next_item
taken_is number told line text read e =
    let a = went_on (item_from number text) (λ read. ok_where (may_follow number told read.0) read) read (at_line_ok line (item_from number text >>= (λ read. ok_where (may_follow number told read.0) read)) read e) in
    let b = where_true (may_follow number told a.x.0) a.x read a.then_ in
    a.first ∙ ap (λ (r : Item × List ℕ). let o : Result (Item × List ℕ) ItemFault = Ok r in o) b.1

left_short : (text front rest : List ℕ) → text ≡ front ++ rest → length text < 2 ^ 64 → length rest < 2 ^ 64
left_short text front rest is short = let n = ap length is ∙ length-append front rest in omega (arith, n, short)

pub items_aloud : (steps number : ℕ) (told : Told) (line : ℕ) (text : List ℕ) (all : Told) (next : ℕ) (rest : List ℕ) → length text < 2 ^ 64 → items_from steps number told line text ≡ (all, Ok (next, rest)) → told_text told ++ text ≡ told_text all ++ (codes "end\n" ++ rest)
unfolding items_from
items_aloud zero number told line text all next rest short e = not_ok _ (next, rest) (ap (λ (i : Items). i.1) e)
items_aloud (suc steps) number told line text all next rest short e = by (next_item number told line text) refl (λ t l x s h. items_aloud steps number t l x all next rest s h) e
  where
    by : (read : Result (Item × List ℕ) ScriptFault) → next_item number told line text ≡ read
        → ((t : Told) (l : ℕ) (x : List ℕ) → length x < 2 ^ 64 → items_from steps number t l x ≡ (all, Ok (next, rest)) → told_text t ++ x ≡ told_text all ++ (codes "end\n" ++ rest))
        → and_others (items_from steps number) told line text read ≡ (all, Ok (next, rest)) → told_text told ++ text ≡ told_text all ++ (codes "end\n" ++ rest)
    by (Err fault) is go h = not_ok fault (next, rest) (ap (λ (i : Items). i.1) h)
    by (Ok (item.End, left)) is go h =
        let text_is = item_aloud number text (item.End, left) short (taken_is number told line text (item.End, left) is) in
        let last = ok_is (line_after line text left, left) (next, rest) (ap (λ (i : Items). i.1) h) in
        (λ i. told_text told ++ text_is i) ∙ (λ i. told_text (h i).0 ++ (codes "end\n" ++ (last i).1))
    by (Ok (item.Prop prop, left)) is go h =
        let text_is = item_aloud number text (item.Prop prop, left) short (taken_is number told line text (item.Prop prop, left) is) in
        let may = (taken_sounds number told line text (item.Prop prop, left) is).1 in
        (λ i. told_text told ++ text_is i)
        ∙ prop_more told prop left (none_there told.changes (and_parts (nat_eq (length told.changes) 0) _ may).0)
        ∙ go (told_with_prop told prop) (line_after line text left) left (left_short text (prop_text prop) left text_is short) h
    by (Ok (item.Change change, left)) is go h =
        let text_is = item_aloud number text (item.Change change, left) short (taken_is number told line text (item.Change change, left) is) in
        (λ i. told_text told ++ text_is i)
        ∙ change_more told change line left
        ∙ go (told_with_change told change line) (line_after line text left) left (left_short text (change_text change) left text_is short) h

-- ---- a revision

line_aloud : (top number : ℕ) (line : List ℕ) (p : ℕ × ℕ) → top < 2 ^ 64 → revision_line top number line ≡ Ok p → line ≡ three_line (codes "revision") number p.0 p.1
unfolding revision_line
line_aloud top number line p short e =
    let a = went_on (after_front (codes "revision ") line) _ p e in
    let b = went_on (word_from a.x) _ p a.then_ in
    let c = went_on (number_from most_revision b.x.0) _ p b.then_ in
    let d = went_on (word_from b.x.1) _ p c.then_ in
    let f = went_on (number_from 253402300799999999 d.x.0) _ p d.then_ in
    let g = went_on (number_from top d.x.1) _ p f.then_ in
    let h = where_true (c.x == number) (f.x, g.x) p g.then_ in
    front_aloud (codes "revision ") line a.x a.first
    ∙ (λ i. codes "revision " ++ cut_aloud 32 a.x b.x b.first i)
    ∙ (λ i. codes "revision " ++ (number_aloud most_revision c.x b.x.0 (omega arith) c.first i ++ 32 ∷ cut_aloud 32 b.x.1 d.x d.first i))
    ∙ (λ i. codes "revision " ++ (decimal c.x ++ 32 ∷ (number_aloud 253402300799999999 f.x d.x.0 (omega arith) f.first i ++ 32 ∷ number_aloud top g.x d.x.1 short g.first i)))
    ∙ (λ i. three_line (codes "revision") (eqb-true c.x number h.0 i) (h.1 i).0 (h.1 i).1)

head_shape : (word : List ℕ) (k m n : ℕ) (one more : List ℕ) → (three_numbers word k m n ++ one ++ codes "\n") ++ more ≡ three_line word k m n ++ 10 ∷ (one ++ 10 ∷ more)
head_shape word k m n one more = simp append_assoc refl

head_aloud : (number : ℕ) (text : List ℕ) (head : ℕ × List ℕ × List ℕ) → length text < 2 ^ 64 → revision_head number text ≡ Ok head → text ≡ (three_numbers (codes "revision") number head.0 (length head.1) ++ head.1 ++ codes "\n") ++ head.2
unfolding revision_head
head_aloud number text head short e =
    let a = went_on (line_from text) _ head e in
    let b = went_on (revision_line (length a.x.1) number a.x.0) _ head a.then_ in
    let c = went_on (one_part b.x.1 a.x.1) _ head b.then_ in
    let d = where_true _ (b.x.0, c.x.0, c.x.1) head c.then_ in
    let text_is = cut_aloud 10 text a.x a.first in
    let size = ap length text_is ∙ length-append a.x.0 (10 ∷ a.x.1) in
    let part = one_part_aloud b.x.1 a.x.1 c.x c.first in
    text_is
    ∙ (λ i. line_aloud (length a.x.1) number a.x.0 b.x (omega (arith, size, short)) b.first i ++ 10 ∷ part.0 i)
    ∙ (λ i. three_line (codes "revision") number b.x.0 (sym part.1 i) ++ 10 ∷ (c.x.0 ++ 10 ∷ c.x.1))
    ∙ sym (head_shape (codes "revision") number b.x.0 (length c.x.0) c.x.0 c.x.1)
    ∙ (λ i. (three_numbers (codes "revision") number (d.1 i).0 (length (d.1 i).1) ++ (d.1 i).1 ++ codes "\n") ++ (d.1 i).2)

pieces : (a b c d more : List ℕ) → (a ++ b ++ c ++ d) ++ more ≡ a ++ ((b ++ c) ++ (d ++ more))
pieces a b c d more = simp append_assoc refl

pub revision_aloud : (number line : ℕ) (text : List ℕ) (read : Read) (next : ℕ) (rest : List ℕ) → length text < 2 ^ 64 → revision_from number line text ≡ Ok read → read.after ≡ Ok (next, rest) → text ≡ revision_text number read.commit ++ rest
unfolding revision_from revision_text
revision_aloud number line text read next rest short e after =
    let a = went_on (at_line line (revision_head number text)) _ read e in
    let head = head_aloud number text a.x short (at_line_ok line (revision_head number text) a.x a.first) in
    let items = items_from (length a.x.2) number nothing_told (line_after line text a.x.2) a.x.2 in
    let is : read_of a.x items ≡ read = ok_is (read_of a.x items) read a.then_ in
    let last : items.1 ≡ Ok (next, rest) = ap (λ (r : Read). r.after) is ∙ after in
    let all = items_aloud (length a.x.2) number nothing_told (line_after line text a.x.2) a.x.2 items.0 next rest (left_short text (head_text number (read_of a.x items).commit) a.x.2 head short) (ap (λ (o : Result (ℕ × List ℕ) ScriptFault). let i : Items = (items.0, o) in i) last) in
    head
    ∙ (λ i. head_text number (read_of a.x items).commit ++ all i)
    ∙ sym (pieces (head_text number (read_of a.x items).commit) (flat_map prop_text items.0.props) (flat_map change_text items.0.changes) (codes "end\n") rest)
    ∙ (λ i. revision_text number (is i).commit ++ rest)

-- ---- all revisions

abbrev commits_of : List Revision → List Commit
commits_of revisions = map (λ revision. revision.commit) revisions

pub record ReadsAloud (revisions : List Revision) (text : List ℕ) (all : List Revision) : Type 0 where
  pub more : List Revision
  pub all_is : all ≡ revisions ++ more
  pub text_is : text ≡ revisions_text (length revisions) (commits_of more)

pushed_is : (revisions : List Revision) (commit : Commit) (all : List Revision) → pushed revisions commit ≡ Ok all → (r : Revision) × (all ≡ revisions ++ r ∷ []) × (r.commit ≡ commit)
unfolding pushed
pushed_is revisions commit all e =
    let a = went_on (tree_after revisions commit) _ all e in
    (revision_of commit (youngest_tree revisions) a.x, sym (ok_is (revisions ++ revision_of commit (youngest_tree revisions) a.x ∷ []) all a.then_), refl)

change_ok : (lines : List ℕ) (r : Result (List Revision) (ℕ × Unfit)) (all : List Revision) → at_change lines r ≡ Ok all → r ≡ Ok all
change_ok lines (Ok x) all e = cc
change_ok lines (Err why) all e = absurd (cc)

pub revisions_aloud : (steps : ℕ) (revisions : List Revision) (line : ℕ) (text : List ℕ) (all : List Revision) → length text < 2 ^ 64 → revisions_from steps revisions line text ≡ Ok all → ReadsAloud revisions text all
unfolding revisions_from
revisions_aloud steps revisions line [] all short e = record { more = []; all_is = sym (ok_is revisions all e) ∙ sym (append-nil revisions); text_is = refl }
revisions_aloud zero revisions line (b ∷ bs) all short e = not_ok _ all e
revisions_aloud (suc steps) revisions line (b ∷ bs) all short e =
    let a = went_on (revision_from (length revisions) line (b ∷ bs)) _ all e in
    let c = went_on (with_read revisions a.x) _ all a.then_ in
    let d = went_on (at_change a.x.lines (pushed revisions a.x.commit)) _ c.x c.first in
    let f = went_on a.x.after _ c.x d.then_ in
    let same : (let n : List Revision × ℕ × List ℕ = (d.x, f.x.0, f.x.1) in n) ≡ c.x = ok_is (d.x, f.x.0, f.x.1) c.x f.then_ in
    let p = pushed_is revisions a.x.commit d.x (change_ok a.x.lines (pushed revisions a.x.commit) d.x d.first) in
    let one = revision_aloud (length revisions) line (b ∷ bs) a.x f.x.0 f.x.1 short a.first f.first in
    let others = revisions_aloud steps d.x f.x.0 f.x.1 all (left_short (b ∷ bs) (revision_text (length revisions) a.x.commit) f.x.1 one short) ((λ i. revisions_from steps (same i).0 (same i).1 (same i).2) ∙ c.then_) in
    let count : length d.x ≡ length revisions + 1 = ap length p.1 ∙ length-append revisions (p.0 ∷ []) in
    record {
      more = p.0 ∷ others.more;
      all_is = others.all_is ∙ ap (λ (rs : List Revision). rs ++ others.more) p.1 ∙ append_assoc revisions (p.0 ∷ []) others.more;
      text_is = one ∙ (λ i. revision_text (length revisions) (sym p.2 i) ++ others.text_is i) ∙ (λ i. revision_text (length revisions) p.0.commit ++ revisions_text (count i) (commits_of others.more));
    }

-- ---- the whole

told_aloud : (is_one : List ℕ → Bool) (front text : List ℕ) (p : List ℕ × List ℕ) → told_line is_one front text ≡ Ok p → text ≡ (front ++ p.0 ++ codes "\n") ++ p.1
told_aloud is_one front text p e =
    let a = went_on (after_front front text) _ p e in
    let b = went_on (line_from a.x) _ p a.then_ in
    let c = where_true (is_one b.x.0) b.x p b.then_ in
    front_aloud front text a.x a.first ∙ (λ i. front ++ cut_aloud 10 a.x b.x b.first i) ∙ (λ i. front ++ ((c.1 i).0 ++ 10 ∷ (c.1 i).1)) ∙ sym (shape front p.0 p.1)
  where
    shape : (front name more : List ℕ) → (front ++ name ++ codes "\n") ++ more ≡ front ++ (name ++ 10 ∷ more)
    shape front name more = simp append_assoc refl

heading_aloud : (bytes : List ℕ) (h : List ℕ × List ℕ × List ℕ) → heading_from bytes ≡ Ok h → bytes ≡ heading_text h.0 h.1 ++ h.2
unfolding heading_from
heading_aloud bytes h e =
    let a = went_on (at_line 1 (after_front (codes "davsvn-script 1\n") bytes)) _ h e in
    let b = went_on (at_line 2 (told_line is_repository_name (codes "repos ") a.x)) _ h a.then_ in
    let c = went_on (at_line 3 (told_line is_uuid (codes "uuid ") b.x.1)) _ h b.then_ in
    let same : (let n : List ℕ × List ℕ × List ℕ = (b.x.0, c.x.0, c.x.1) in n) ≡ h = ok_is (b.x.0, c.x.0, c.x.1) h c.then_ in
    front_aloud (codes "davsvn-script 1\n") bytes a.x (at_line_ok 1 (after_front (codes "davsvn-script 1\n") bytes) a.x a.first)
    ∙ (λ i. codes "davsvn-script 1\n" ++ told_aloud is_repository_name (codes "repos ") a.x b.x (at_line_ok 2 (told_line is_repository_name (codes "repos ") a.x) b.x b.first) i)
    ∙ (λ i. codes "davsvn-script 1\n" ++ ((codes "repos " ++ b.x.0 ++ codes "\n") ++ told_aloud is_uuid (codes "uuid ") b.x.1 c.x (at_line_ok 3 (told_line is_uuid (codes "uuid ") b.x.1) c.x c.first) i))
    ∙ sym (shape (codes "davsvn-script 1\n") (codes "repos " ++ b.x.0 ++ codes "\n") (codes "uuid " ++ c.x.0 ++ codes "\n") c.x.1)
    ∙ (λ i. heading_text (same i).0 (same i).1 ++ (same i).2)
  where
    shape : (a b c more : List ℕ) → (a ++ b ++ c) ++ more ≡ a ++ (b ++ (c ++ more))
    shape a b c more = simp append_assoc refl

pub script_aloud : ScriptsReadAloud
unfolding repository_from
script_aloud = λ bytes repository short e.
    let a = went_on (heading_from bytes) _ repository e in
    let b = went_on (revision_from 0 4 a.x.2) _ repository a.then_ in
    let c = went_on b.x.after _ repository b.then_ in
    let d = went_on (revisions_from (length c.x.1) (first_revision b.x.commit ∷ []) c.x.0 c.x.1) _ repository c.then_ in
    let head = heading_aloud bytes a.x a.first in
    let first = revision_aloud 0 4 a.x.2 b.x c.x.0 c.x.1 (left_short bytes (heading_text a.x.0 a.x.1) a.x.2 head short) b.first c.first in
    let rest_short = left_short a.x.2 (revision_text 0 b.x.commit) c.x.1 first (left_short bytes (heading_text a.x.0 a.x.1) a.x.2 head short) in
    let others = revisions_aloud (length c.x.1) (first_revision b.x.commit ∷ []) c.x.0 c.x.1 d.x rest_short d.first in
    let is : (let r : Repository = record { name = a.x.0; uuid = a.x.1; revisions = d.x } in r) ≡ repository = ok_is _ repository d.then_ in
    head
    ∙ (λ i. heading_text a.x.0 a.x.1 ++ first i)
    ∙ (λ i. heading_text a.x.0 a.x.1 ++ (revision_text 0 b.x.commit ++ others.text_is i))
    ∙ (λ i. heading_text a.x.0 a.x.1 ++ revisions_text 0 (commits_of (sym others.all_is i)))
    ∙ (λ i. script_text (is i))
