-- The revisions of a script, one after another, as they are read into trees.
use Rattle.std.proofs.Common.{◌≡◌, ℕ, zero, suc, ◌<◌, ◌≤◌, T, Bool, true, false, List, [], ◌∷◌, ◌++◌, Result, Ok, Err, length, map, refl, sym, ap, ◌∙◌, subst, arith}
use Rattle.std.specs.Prelude.{MatchBool, ⊤, slice_index_or}
use Rattle.dsv_base.specs.Gives.{Gives, ◌>>=◌}
use Rattle.rev_nodes.specs.declared.changed.Changed.{Changed}
use Rattle.rev_nodes.specs.declared.commit.Commit.{Commit}
use Rattle.rev_scripts.specs.declared.item.Item.{Item}
use Rattle.rev_scripts.specs.declared.item.Item.TheVariants as item
use Rattle.rev_scripts.specs.declared.item_fault.ItemFault.{ItemFault}
use Rattle.rev_scripts.specs.declared.item_fault.ItemFault.TheVariants as part
use Rattle.rev_scripts.specs.declared.script_fault.ScriptFault.{ScriptFault}
use Rattle.rev_scripts.specs.declared.script_fault.ScriptFault.TheVariants.{BadScript, NoMemory}
use Rattle.rev_trees.specs.declared.push_fault.PushFault.{PushFault}
use Rattle.rev_trees.specs.declared.push_fault.PushFault.TheVariants as push
use Rattle.rev_nodes.specs.declared.unfit.Unfit.{Unfit}
use Rattle.rev_scripts.specs.Steps.{is_no_memory, fault_at, at_line, line_after, ok_where}
use Rattle.rev_scripts.specs.Items.{Told, nothing_told, item_from, may_follow, told_with_prop}
use Rattle.rev_nodes.specs.Trees.{Tree, Revision}
use Rattle.rev_nodes.specs.Pushes.{pushed, revision_of, youngest_tree, tree_after}
use Rattle.rev_nodes.specs.Forests.{Forest, ForestRevision, without_numbers}
use Rattle.rev_trees.specs.Readies.{ReadyRevision, IsUnchanged, IsNext, Prepares, Pushes, revisions_of}
use Rattle.rev_scripts.specs.Scripts.{Items, Read, items_from, next_item, and_others, revision_head, revision_from, read_of, commit_of, at_change, with_read, revisions_from, wants_memory}
use Rattle.rev_scripts.specs.Reading.{zeroth_from, next_from, FirstFault, PreparesTold, and_fault}

-- ---- one revision

-- what the items of a revision with this head tell
abbrev pub items_of : ℕ → ℕ → List ℕ → ℕ × List ℕ × List ℕ → Items
items_of number line text head = items_from (length head.2) number nothing_told (line_after line text head.2) head.2

revision_is : (number line : ℕ) (text : List ℕ) (head : ℕ × List ℕ × List ℕ) → revision_head number text ≡ Ok head → revision_from number line text ≡ Ok (read_of head (items_of number line text head))
unfolding revision_from
revision_is number line text head e = ap (λ (r : Result (ℕ × List ℕ × List ℕ) ItemFault). at_line line r >>= (λ head. let r : Result Read ScriptFault = Ok (read_of head (items_from (length head.2) number nothing_told (line_after line text head.2) head.2)) in r)) e

head_bad : (number line : ℕ) (text : List ℕ) → revision_head number text ≡ Err part.Bad → revision_from number line text ≡ Err (BadScript line)
unfolding revision_from
head_bad number line text e = ap (λ (r : Result (ℕ × List ℕ × List ℕ) ItemFault). at_line line r >>= (λ head. let r : Result Read ScriptFault = Ok (read_of head (items_from (length head.2) number nothing_told (line_after line text head.2) head.2)) in r)) e

-- the fault of a head is that of the revision
pub head_fault : {B : Type 0} (f : Read → Result B ScriptFault) (number line : ℕ) (text : List ℕ) (fault : ItemFault) → Gives {X = ℕ × List ℕ × List ℕ} is_no_memory (Err fault) (revision_head number text) → Gives {X = B} wants_memory (Err (fault_at line fault)) (revision_from number line text >>= f)
head_fault f number line text part.Bad e = ap (λ (r : Result Read ScriptFault). r >>= f) (head_bad number line text e)
head_fault f number line text part.NoMemory e = tt

-- the parts of what was read
abbrev pub read_told : ℕ × List ℕ × List ℕ → Told → Result (ℕ × List ℕ) ScriptFault → Read
read_told head told after = record { commit = commit_of head.1 head.0 told; lines = told.lines; after = after }

told_is : (number line : ℕ) (text : List ℕ) (head : ℕ × List ℕ × List ℕ) (told : Told) (after : Result (ℕ × List ℕ) ScriptFault) → revision_head number text ≡ Ok head → told ≡ (items_of number line text head).0 → (items_of number line text head).1 ≡ after → revision_from number line text ≡ Ok (read_told head told after)
told_is number line text head told after e t a =
    revision_is number line text head e
    ∙ ap (λ (told : Told). let r : Result Read ScriptFault = Ok (read_told head told (items_of number line text head).1) in r) (sym t)
    ∙ ap (λ (after : Result (ℕ × List ℕ) ScriptFault). let r : Result Read ScriptFault = Ok (read_told head told after) in r) a

next_is : (revisions : List Revision) (number line : ℕ) (text : List ℕ) (read : Read) → number ≡ length revisions → revision_from number line text ≡ Ok read → next_from revisions line text ≡ with_read revisions read
next_is revisions number line text read count e = ap (λ (n : ℕ). revision_from n line text >>= with_read revisions) (sym count) ∙ ap (λ (r : Result Read ScriptFault). r >>= with_read revisions) e

abbrev and_after : Result (List Revision) ScriptFault → Result (ℕ × List ℕ) ScriptFault → Result (List Revision × ℕ × List ℕ) ScriptFault
and_after pushes after = pushes >>= (λ all. after >>= (λ after. Ok (all, after.0, after.1)))

-- a fault of the items, or of a change before it
pub fault_next : (revisions : List Revision) (number line : ℕ) (text : List ℕ) (head : ℕ × List ℕ × List ℕ) (told : Told) (fault first : ScriptFault) → number ≡ length revisions → revision_head number text ≡ Ok head → MatchBool (wants_memory fault) ⊤ (told ≡ (items_of number line text head).0) → Gives {X = ℕ × List ℕ} wants_memory (Err fault) (items_of number line text head).1 → FirstFault (at_change told.lines (pushed revisions (commit_of head.1 head.0 told))) fault first → Gives {X = List Revision × ℕ × List ℕ} wants_memory (Err first) (next_from revisions line text)
fault_next revisions number line text head told NoMemory first count e t a f = subst (λ (x : ScriptFault). Gives {X = List Revision × ℕ × List ℕ} wants_memory (Err x) (next_from revisions line text)) (sym f) tt
fault_next revisions number line text head told (BadScript at) NoMemory count e t a f = tt
fault_next revisions number line text head told (BadScript at) (BadScript first) count e t a f =
    next_is revisions number line text (read_told head told (Err (BadScript at))) count (told_is number line text head told (Err (BadScript at)) e t a) ∙ f

-- a change that doesn't fit, where the items have no fault
unfit_of : (revisions : List Revision) (number line : ℕ) (text : List ℕ) (head : ℕ × List ℕ × List ℕ) (told : Told) (after : ℕ × List ℕ) (old new : Forest) (fault : ScriptFault) → revisions ≡ revisions_of old → number ≡ length revisions → revision_head number text ≡ Ok head → told ≡ (items_of number line text head).0 → (items_of number line text head).1 ≡ Ok after → PreparesTold told.lines (commit_of head.1 head.0 told) old new (Err fault) → Gives {X = List Revision × ℕ × List ℕ} wants_memory (Err fault) (next_from revisions line text)
unfit_of revisions number line text head told after old new NoMemory is count e t a says = tt
unfit_of revisions number line text head told after old new (BadScript first) is count e t a says =
    next_is revisions number line text (read_told head told (Ok after)) count (told_is number line text head told (Ok after) e t a)
    ∙ ap (λ (rs : List Revision). and_after (at_change told.lines (pushed rs (commit_of head.1 head.0 told))) (Ok after)) is
    ∙ ap (λ (p : Result (List Revision) ScriptFault). and_after p (Ok after)) says

pub unfit_next : (author : List ℕ) (number line : ℕ) (text : List ℕ) (head : ℕ × List ℕ × List ℕ) (told : Told) (after : ℕ × List ℕ) (old new : Forest) (fault : ScriptFault) → author ≡ head.1 → number ≡ length (revisions_of old) → revision_head number text ≡ Ok head → told ≡ (items_of number line text head).0 → (items_of number line text head).1 ≡ Ok after → PreparesTold told.lines (commit_of author head.0 told) old new (Err fault) → Gives {X = List Revision × ℕ × List ℕ} wants_memory (Err fault) (next_from (revisions_of old) line text)
unfit_next author number line text head told after old new fault same count e t a says =
    unfit_of (revisions_of old) number line text head told after old new fault refl count e t a (subst (λ (author : List ℕ). PreparesTold told.lines (commit_of author head.0 told) old new (Err fault)) same says)

without_tail : (xs : List ForestRevision) (x : ForestRevision) → map without_numbers (xs ++ x ∷ []) ≡ map without_numbers xs ++ without_numbers x ∷ []
without_tail [] x = refl
without_tail (y ∷ ys) x = ap (λ (rs : List Revision). without_numbers y ∷ rs) (without_tail ys x)

revision_with : Commit → List Changed → Tree → Revision
revision_with commit changed tree = record { commit = commit; changed = changed; tree = tree }

-- the revisions after the push are those with the commit pushed
pub all_pushed : (old mid new : Forest) (commit : Commit) (ready : ReadyRevision) → IsUnchanged old mid → IsNext (revisions_of old) commit ready → Pushes ready mid new → pushed (revisions_of old) commit ≡ Ok (revisions_of new)
unfolding pushed
all_pushed old mid new commit ready same next does =
    ap (λ (r : Result Tree (ℕ × Unfit)). r >>= (λ tree. let a : Result (List Revision) (ℕ × Unfit) = Ok (revisions_of old ++ revision_of commit (youngest_tree (revisions_of old)) tree ∷ []) in a)) next.tree_is
    ∙ ap (λ (r : Revision). let a : Result (List Revision) (ℕ × Unfit) = Ok (revisions_of old ++ r ∷ []) in a) revision
    ∙ sym (ap (λ (rs : List Revision). let a : Result (List Revision) (ℕ × Unfit) = Ok rs in a) all)
  where
    revision : revision_of commit (youngest_tree (revisions_of old)) ready.tree ≡ without_numbers does.revision
    revision = (λ i. record { commit = (sym next.commit_is ∙ sym does.commit) i; changed = (sym next.changed_is ∙ sym does.changed) i; tree = (sym does.tree) i })

    all : revisions_of new ≡ revisions_of old ++ without_numbers does.revision ∷ []
    all = ap (λ (rs : List ForestRevision). map without_numbers rs) (does.revisions ∙ ap (λ (rs : List ForestRevision). rs ++ does.revision ∷ []) same.revisions) ∙ without_tail old.revisions does.revision

pub whole_next : (number line : ℕ) (text : List ℕ) (head : ℕ × List ℕ × List ℕ) (told : Told) (after : ℕ × List ℕ) (old mid new : Forest) (ready : ReadyRevision) → number ≡ length (revisions_of old) → revision_head number text ≡ Ok head → told ≡ (items_of number line text head).0 → (items_of number line text head).1 ≡ Ok after → IsUnchanged old mid → IsNext (revisions_of old) (commit_of head.1 head.0 told) ready → Pushes ready mid new → next_from (revisions_of old) line text ≡ Ok (revisions_of new, after.0, after.1)
whole_next number line text head told after old mid new ready count e t a same next does =
    next_is (revisions_of old) number line text (read_told head told (Ok after)) count (told_is number line text head told (Ok after) e t a)
    ∙ ap (λ (p : Result (List Revision) (ℕ × Unfit)). and_after (at_change told.lines p) (Ok after)) (all_pushed old mid new (commit_of head.1 head.0 told) ready same next does)

pub length-revisions_of : (forest : Forest) → length (revisions_of forest) ≡ length forest.revisions
length-revisions_of forest = count forest.revisions
  where
    count : (rs : List ForestRevision) → length (map without_numbers rs) ≡ length rs
    count [] = refl
    count (r ∷ rs) = ap suc (count rs)

-- ---- a change that doesn't fit

change_at : (lines : List ℕ) (revisions : List Revision) (commit : Commit) (index : ℕ) (why : Unfit) → tree_after revisions commit ≡ Err (index, why) → at_change lines (pushed revisions commit) ≡ Err (BadScript (slice_index_or lines index 0))
unfolding pushed
change_at lines revisions commit index why e = ap (λ (r : Result Tree (ℕ × Unfit)). at_change lines (r >>= (λ tree. let a : Result (List Revision) (ℕ × Unfit) = Ok (revisions ++ revision_of commit (youngest_tree revisions) tree ∷ []) in a))) e

pub change_unfit : (lines : List ℕ) (old new : Forest) (commit other : Commit) (fault : PushFault) (index : ℕ) → fault ≡ push.Unfit index → other ≡ commit → Prepares other old new (Err fault) → at_change lines (pushed (revisions_of old) commit) ≡ Err (BadScript (slice_index_or lines index 0))
change_unfit lines old new commit other fault index is same says = by_says (subst (λ (f : PushFault). Prepares commit old new (Err f)) is (subst (λ (c : Commit). Prepares c old new (Err fault)) same says))
  where
    by_says : Prepares commit old new (Err (push.Unfit index)) → at_change lines (pushed (revisions_of old) commit) ≡ Err (BadScript (slice_index_or lines index 0))
    by_says p = change_at lines (revisions_of old) commit index p.1 p.2

-- a change that fits leaves the fault of a later item
pub fits_first : (lines : List ℕ) (revisions : List Revision) (commit : Commit) (ready : ReadyRevision) (line : ℕ) (fault first : ScriptFault) → fault ≡ BadScript line → first ≡ BadScript line → IsNext revisions commit ready → FirstFault (at_change lines (pushed revisions commit)) fault first
unfolding pushed
fits_first lines revisions commit ready line fault first is told next =
    rw (is, told) (ap (λ (r : Result Tree (ℕ × Unfit)). and_fault (at_change lines (r >>= (λ tree. let a : Result (List Revision) (ℕ × Unfit) = Ok (revisions ++ revision_of commit (youngest_tree revisions) tree ∷ []) in a))) line) next.tree_is)

pub unfit_first : (lines : List ℕ) (commit : Commit) (old new : Forest) (line : ℕ) (fault unfit first : ScriptFault) → fault ≡ BadScript line → first ≡ unfit → PreparesTold lines commit old new (Err unfit) → FirstFault (at_change lines (pushed (revisions_of old) commit)) fault first
unfit_first lines commit old new line fault NoMemory first is told says = rw (is, told) tt
unfit_first lines commit old new line fault (BadScript at) first is told says = rw (is, told) (ap (λ (p : Result (List Revision) ScriptFault). and_fault p line) says)

-- ---- revision 0

never_ok : {A F B : Type 0} (e : F) (a : A) → (let r : Result A F = Err e in r) ≡ Ok a → B
never_ok e a h = absurd (cc)

ok_is : {A F : Type 0} (a b : A) → (let r : Result A F = Ok a in r) ≡ Ok b → a ≡ b
ok_is a b h = cc

abbrev is_change : Item → Bool
is_change item.End = false
is_change (item.Prop prop) = false
is_change (item.Change change) = true

-- an item that is taken may follow, and is the one that was read
taken_is : (line : ℕ) (b : Bool) (x y : Item × List ℕ) → at_line line (ok_where b x) ≡ Ok y → (b ≡ true) × (x ≡ y)
taken_is line true x y h = (refl, ok_is x y h)
taken_is line false x y h = never_ok (BadScript line) y h

-- revision 0 takes no change
no_item : (told : Told) (line : ℕ) (change : Item) (rest : List ℕ) → is_change change ≡ true → (read : Result (Item × List ℕ) ItemFault) → at_line line (read >>= (λ read. ok_where (may_follow 0 told read.0) read)) ≡ Ok (change, rest) → {B : Type 0} → B
no_item told line change rest is (Err fault) f = never_ok (fault_at line fault) (change, rest) f
no_item told line change rest is (Ok (item.End, left)) f = let p = taken_is line true (item.End, left) (change, rest) f in absurd (subst T (sym (ap (λ (i : Item × List ℕ). is_change i.0) p.1 ∙ is)) tt)
no_item told line change rest is (Ok (item.Prop prop, left)) f = let p = taken_is line (may_follow 0 told (item.Prop prop)) (item.Prop prop, left) (change, rest) f in absurd (subst T (sym (ap (λ (i : Item × List ℕ). is_change i.0) p.1 ∙ is)) tt)
no_item told line change rest is (Ok (item.Change other, left)) f = let p = taken_is line (may_follow 0 told (item.Change other)) (item.Change other, left) (change, rest) f in absurd (subst T (sym p.0) tt)

no_change : (told : Told) (line : ℕ) (text : List ℕ) → (read : Result (Item × List ℕ) ScriptFault) → next_item 0 told line text ≡ read → (others : Told → ℕ → List ℕ → Items) → ((told : Told) (line : ℕ) (text : List ℕ) → (others told line text).0.changes ≡ told.changes) → (and_others others told line text read).0.changes ≡ told.changes
unfolding next_item
no_change told line text (Err fault) e others go = refl
no_change told line text (Ok (item.End, rest)) e others go = refl
no_change told line text (Ok (item.Prop prop, rest)) e others go = go (told_with_prop told prop) (line_after line text rest) rest
no_change told line text (Ok (item.Change change, rest)) e others go = no_item told line (item.Change change) rest refl (item_from 0 text) e

pub none_told : (steps : ℕ) (told : Told) (line : ℕ) (text : List ℕ) → (items_from steps 0 told line text).0.changes ≡ told.changes
unfolding items_from
none_told zero told line text = refl
none_told (suc steps) told line text = no_change told line text (next_item 0 told line text) refl (items_from steps 0) (none_told steps)

abbrev pub zeroth_of : Read → Result (Commit × ℕ × List ℕ) ScriptFault
zeroth_of zeroth = zeroth.after >>= (λ after. Ok (zeroth.commit, after.0, after.1))

pub zeroth_fault : (text : List ℕ) (head : ℕ × List ℕ × List ℕ) (fault : ScriptFault) → revision_head 0 text ≡ Ok head → Gives {X = ℕ × List ℕ} wants_memory (Err fault) (items_of 0 4 text head).1 → Gives {X = Commit × ℕ × List ℕ} wants_memory (Err fault) (zeroth_from text)
zeroth_fault text head NoMemory e a = tt
zeroth_fault text head (BadScript line) e a = ap (λ (r : Result Read ScriptFault). r >>= zeroth_of) (told_is 0 4 text head (items_of 0 4 text head).0 (Err (BadScript line)) e refl a)

pub zeroth_whole : (text : List ℕ) (head : ℕ × List ℕ × List ℕ) (told : Told) (after : ℕ × List ℕ) → revision_head 0 text ≡ Ok head → told ≡ (items_of 0 4 text head).0 → (items_of 0 4 text head).1 ≡ Ok after → zeroth_from text ≡ Ok (commit_of head.1 head.0 told, after.0, after.1)
zeroth_whole text head told after e t a = ap (λ (r : Result Read ScriptFault). r >>= zeroth_of) (told_is 0 4 text head told (Ok after) e t a)

-- ---- all revisions

-- the revisions of what is left, after these, give the whole
pub record IsLeft (revisions : List Revision) (line : ℕ) (rest : List ℕ) (whole : Result (List Revision) ScriptFault) : Type 0 where
  pub steps : ℕ
  pub enough : length rest ≤ steps
  pub same : revisions_from steps revisions line rest ≡ whole

pub left_start : (revisions : List Revision) (line : ℕ) (text : List ℕ) → IsLeft revisions line text (revisions_from (length text) revisions line text)
left_start revisions line text = record { steps = length text; enough = omega arith; same = refl }

in_two_steps : {A B C F : Type 0} (r : Result A F) (f : A → Result B F) (g : B → Result C F) → (r >>= (λ a. f a >>= g)) ≡ ((r >>= f) >>= g)
in_two_steps (Ok a) f g = refl
in_two_steps (Err e) f g = refl

abbrev then_others : ℕ → List Revision × ℕ × List ℕ → Result (List Revision) ScriptFault
then_others steps next = revisions_from steps next.0 next.1 next.2

one_step : (left : ℕ) (revisions : List Revision) (line b : ℕ) (bs : List ℕ) → revisions_from (suc left) revisions line (b ∷ bs) ≡ (next_from revisions line (b ∷ bs) >>= then_others left)
unfolding revisions_from
one_step left revisions line b bs = in_two_steps (revision_from (length revisions) line (b ∷ bs)) (with_read revisions) (then_others left)

step_is : (steps : ℕ) (revisions : List Revision) (line : ℕ) (rest : List ℕ) (next : Result (List Revision × ℕ × List ℕ) ScriptFault) → 0 < length rest → length rest ≤ steps → next_from revisions line rest ≡ next → (left : ℕ) → steps ≡ suc left → revisions_from steps revisions line rest ≡ (next >>= then_others left)
step_is steps revisions line [] next some enough e left is = absurd (omega arith)
step_is steps revisions line (b ∷ bs) next some enough e left is = ap (λ (n : ℕ). revisions_from n revisions line (b ∷ bs)) is ∙ one_step left revisions line b bs ∙ ap (λ (n : Result (List Revision × ℕ × List ℕ) ScriptFault). n >>= then_others left) e

pub one_pushed : (revisions all : List Revision) (line next : ℕ) (rest after : List ℕ) (whole : Result (List Revision) ScriptFault) → IsLeft revisions line rest whole → length after < length rest → next_from revisions line rest ≡ Ok (all, next, after) → IsLeft all next after whole
one_pushed revisions all line next rest after whole l shorter e = by_steps l.steps l.enough l.same
  where
    by_steps : (steps : ℕ) → length rest ≤ steps → revisions_from steps revisions line rest ≡ whole → IsLeft all next after whole
    by_steps zero enough same = absurd (omega arith)
    by_steps (suc left) enough same = record { steps = left; enough = omega arith; same = sym (step_is (suc left) revisions line rest (Ok (all, next, after)) (omega arith) enough e left refl) ∙ same }

fault_left : (revisions : List Revision) (line : ℕ) (rest : List ℕ) (whole : Result (List Revision) ScriptFault) (fault : ScriptFault) → IsLeft revisions line rest whole → 0 < length rest → next_from revisions line rest ≡ Err fault → whole ≡ Err fault
fault_left revisions line rest whole fault l some e = by_steps l.steps l.enough l.same
  where
    by_steps : (steps : ℕ) → length rest ≤ steps → revisions_from steps revisions line rest ≡ whole → whole ≡ Err fault
    by_steps zero enough same = absurd (omega arith)
    by_steps (suc left) enough same = sym same ∙ step_is (suc left) revisions line rest (Err fault) some enough e left refl

pub fault_ends : {B : Type 0} (f : List Revision → Result B ScriptFault) (revisions : List Revision) (line : ℕ) (rest : List ℕ) (whole : Result (List Revision) ScriptFault) (fault : ScriptFault) → IsLeft revisions line rest whole → 0 < length rest → Gives {X = List Revision × ℕ × List ℕ} wants_memory (Err fault) (next_from revisions line rest) → Gives {X = B} wants_memory (Err fault) (whole >>= f)
fault_ends f revisions line rest whole NoMemory l some e = tt
fault_ends f revisions line rest whole (BadScript at) l some e = ap (λ (r : Result (List Revision) ScriptFault). r >>= f) (fault_left revisions line rest whole (BadScript at) l some e)

pub nothing_left : (revisions : List Revision) (line : ℕ) (rest : List ℕ) (whole : Result (List Revision) ScriptFault) → IsLeft revisions line rest whole → length rest ≡ 0 → whole ≡ Ok revisions
unfolding revisions_from
nothing_left revisions line [] whole l none = sym l.same
nothing_left revisions line (b ∷ bs) whole l none = absurd (omega arith)
