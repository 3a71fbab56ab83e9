-- What the items of a script tell makes sound commits.
use Rattle.std.proofs.Common.{◌≡◌, ℕ, zero, suc, ◌+◌, ◌-◌, ◌<◌, ◌≤◌, Bool, true, false, ◌&&◌, List, [], ◌∷◌, ◌++◌, Option, None, Some, Result, Ok, Err, length, get_or, refl, sym, ap, subst, ◌∙◌, arith, length-append}
use Rattle.std.specs.Prelude.{codes, slice_get, ⊤, MatchBool, if◌then◌else◌}
use Rattle.std.specs.List.{list_all}
use Rattle.std.specs.Option.{option_map_or}
use Rattle.std.specs.Str.{bytes_eq}
use Rattle.std.specs.Ordering.{nat_cmp, is_lt}
use Rattle.std.specs.Cmp.Lexicographic.{slice_cmp}
use Rattle.std.proofs.lemmas.List.Folds.{list_all-append}
use Rattle.std.proofs.lemmas.Bool.{and_parts}
use Rattle.std.proofs.lemmas.Option.{slice_get-get_or}
use Rattle.dsv_base.specs.Gives.{◌>>=◌}
use Rattle.dsv_base.specs.Paths.{is_path}
use Rattle.dsv_base.specs.declared.prop.Prop.{Prop}
use Rattle.rev_nodes.specs.declared.change.Change.{Change}
use Rattle.rev_nodes.specs.declared.change.Change.TheVariants.{Put, SetProp, DelProp, Mkdir, Delete, Copy}
use Rattle.rev_nodes.specs.PropertyNames.{is_property_name, is_revision_property, comes_before, names_rise}
use Rattle.rev_nodes.specs.Commits.{is_author, is_sound_prop, is_sound_change, IsSoundCommit}
use Rattle.rev_scripts.specs.declared.item.Item.{Item}
use Rattle.rev_scripts.specs.declared.item.Item.TheVariants as item
use Rattle.rev_scripts.specs.declared.item_fault.ItemFault.{ItemFault}
use Rattle.rev_scripts.specs.declared.script_fault.ScriptFault.{ScriptFault}
use Rattle.rev_scripts.specs.declared.script_fault.ScriptFault.TheVariants.{BadScript, NoMemory}
use Rattle.rev_scripts.specs.Steps.{ok_where, line_from, word_from, number_from, at_line, line_after}
use Rattle.rev_scripts.specs.Items.{Told, nothing_told, is_next_name, may_follow, told_with_prop, told_with_change, two_lengths, three_lengths, copy_numbers, one_part, two_parts, three_parts, prop_from, mkdir_from, delete_from, put_from, setprop_from, delprop_from, copy_from, item_of, item_after, item_from}
use Rattle.rev_scripts.specs.Scripts.{Items, items_from, next_item, and_others, revision_line, revision_head, commit_of, wants_memory}

-- ---- what went well

pub record WentOn {A B F : Type 0} (r : Result A F) (f : A → Result B F) (y : B) : Type 0 where
  pub x : A
  pub first : r ≡ Ok x
  pub then_ : f x ≡ Ok y

pub went_on : {A B F : Type 0} (r : Result A F) (f : A → Result B F) (y : B) → (r >>= f) ≡ Ok y → WentOn r f y
went_on (Ok x) f y e = record { x = x; first = refl; then_ = e }
went_on (Err fault) f y e = absurd (cc)

pub where_true : {A : Type 0} (b : Bool) (x y : A) → ok_where b x ≡ Ok y → (b ≡ true) × (x ≡ y)
where_true true x y e = (refl, cc)
where_true false x y e = absurd (cc)

pub ok_is : {A F : Type 0} (x y : A) → (let r : Result A F = Ok x in r) ≡ Ok y → x ≡ y
ok_is x y e = cc

-- ---- items

abbrev pub IsSoundItem : Item → Type 0
IsSoundItem item.End = ⊤
IsSoundItem (item.Prop prop) = is_sound_prop prop ≡ true
IsSoundItem (item.Change change) = is_sound_change change ≡ true

-- whatever is read so is sound
abbrev Sounds : Result (Item × List ℕ) ItemFault → Type 0
Sounds r = (read : Item × List ℕ) → r ≡ Ok read → IsSoundItem read.0

sound_as : (one : Item) (rest : List ℕ) (read : Item × List ℕ) → (one, rest) ≡ read → IsSoundItem one → IsSoundItem read.0
sound_as one rest read e sound = subst (λ (r : Item × List ℕ). IsSoundItem r.0) e sound

prop_sounds : (numbers text : List ℕ) → Sounds (prop_from numbers text)
prop_sounds numbers text read e =
    let a = went_on (two_lengths (length text) numbers) _ read e in
    let b = went_on (two_parts a.x.0 a.x.1 text) _ read a.then_ in
    let c = where_true (is_revision_property b.x.0) (item.Prop (record { name = b.x.0; value = b.x.1 }), b.x.2) read b.then_ in
    sound_as (item.Prop (record { name = b.x.0; value = b.x.1 })) b.x.2 read c.1 c.0

mkdir_sounds : (numbers text : List ℕ) → Sounds (mkdir_from numbers text)
mkdir_sounds numbers text read e =
    let a = went_on (number_from (length text) numbers) _ read e in
    let b = went_on (one_part a.x text) _ read a.then_ in
    let c = where_true (is_path b.x.0) (item.Change (Mkdir b.x.0), b.x.1) read b.then_ in
    sound_as (item.Change (Mkdir b.x.0)) b.x.1 read c.1 refl

delete_sounds : (numbers text : List ℕ) → Sounds (delete_from numbers text)
delete_sounds numbers text read e =
    let a = went_on (number_from (length text) numbers) _ read e in
    let b = went_on (one_part a.x text) _ read a.then_ in
    let c = where_true (is_path b.x.0) (item.Change (Delete b.x.0), b.x.1) read b.then_ in
    sound_as (item.Change (Delete b.x.0)) b.x.1 read c.1 refl

put_sounds : (numbers text : List ℕ) → Sounds (put_from numbers text)
put_sounds numbers text read e =
    let a = went_on (two_lengths (length text) numbers) _ read e in
    let b = went_on (two_parts a.x.0 a.x.1 text) _ read a.then_ in
    let c = where_true (is_path b.x.0) (item.Change (Put b.x.0 b.x.1), b.x.2) read b.then_ in
    sound_as (item.Change (Put b.x.0 b.x.1)) b.x.2 read c.1 refl

setprop_sounds : (numbers text : List ℕ) → Sounds (setprop_from numbers text)
setprop_sounds numbers text read e =
    let a = went_on (three_lengths (length text) numbers) _ read e in
    let b = went_on (three_parts a.x.0 a.x.1 a.x.2 text) _ read a.then_ in
    let c = went_on (ok_where (is_path b.x.0) b.x.0) _ read b.then_ in
    let d = went_on (ok_where (is_property_name b.x.1) b.x.1) _ read c.then_ in
    let named = where_true (is_property_name b.x.1) b.x.1 d.x d.first in
    sound_as (item.Change (SetProp c.x d.x b.x.2)) b.x.3 read (ok_is (item.Change (SetProp c.x d.x b.x.2), b.x.3) read d.then_) (ap is_property_name (sym named.1) ∙ named.0)

delprop_sounds : (numbers text : List ℕ) → Sounds (delprop_from numbers text)
delprop_sounds numbers text read e =
    let a = went_on (two_lengths (length text) numbers) _ read e in
    let b = went_on (two_parts a.x.0 a.x.1 text) _ read a.then_ in
    let c = went_on (ok_where (is_path b.x.0) b.x.0) _ read b.then_ in
    let d = went_on (ok_where (is_property_name b.x.1) b.x.1) _ read c.then_ in
    let named = where_true (is_property_name b.x.1) b.x.1 d.x d.first in
    sound_as (item.Change (DelProp c.x d.x)) b.x.2 read (ok_is (item.Change (DelProp c.x d.x), b.x.2) read d.then_) (ap is_property_name (sym named.1) ∙ named.0)

copy_sounds : (number : ℕ) (numbers text : List ℕ) → Sounds (copy_from number numbers text)
copy_sounds number numbers text read e =
    let a = went_on (copy_numbers (length text) number numbers) _ read e in
    let b = went_on (two_parts a.x.0 a.x.2 text) _ read a.then_ in
    let c = went_on (ok_where (is_path b.x.0) b.x.0) _ read b.then_ in
    let d = went_on (ok_where (is_path b.x.1) b.x.1) _ read c.then_ in
    sound_as (item.Change (Copy c.x a.x.1 d.x)) b.x.2 read (ok_is (item.Change (Copy c.x a.x.1 d.x), b.x.2) read d.then_) refl

either : (b : Bool) (r s : Result (Item × List ℕ) ItemFault) → Sounds r → Sounds s → Sounds (if b then r else s)
either true r s h i = h
either false r s h i = i

nothing_sounds : (fault : ItemFault) → Sounds (Err fault)
nothing_sounds fault read e = absurd (cc)

word_sounds : (number : ℕ) (word numbers text : List ℕ) → Sounds (item_of number word numbers text)
unfolding item_of
word_sounds number word numbers text =
    either (bytes_eq word (codes "prop")) _ _ (prop_sounds numbers text)
    (either (bytes_eq word (codes "mkdir")) _ _ (mkdir_sounds numbers text)
    (either (bytes_eq word (codes "delete")) _ _ (delete_sounds numbers text)
    (either (bytes_eq word (codes "put")) _ _ (put_sounds numbers text)
    (either (bytes_eq word (codes "setprop")) _ _ (setprop_sounds numbers text)
    (either (bytes_eq word (codes "delprop")) _ _ (delprop_sounds numbers text)
    (either (bytes_eq word (codes "copy")) _ _ (copy_sounds number numbers text) (nothing_sounds _)))))))

after_sounds : (number : ℕ) (line text : List ℕ) → Sounds (item_after number line text)
unfolding item_after
after_sounds number line text = either (bytes_eq line (codes "end")) _ _ (λ read e. sound_as item.End text read (ok_is (item.End, text) read e) tt) (λ read e. let a = went_on (word_from line) _ read e in word_sounds number a.x.0 a.x.1 text read a.then_)

pub item_sounds : (number : ℕ) (text : List ℕ) → Sounds (item_from number text)
unfolding item_from
item_sounds number text read e = let a = went_on (line_from text) _ read e in after_sounds number a.x.0 a.x.1 read a.then_

-- ---- properties that rise

last_later : (p : Prop) (props : List Prop) → 1 ≤ length props → slice_get (p ∷ props) (length (p ∷ props) - 1) ≡ slice_get props (length props - 1)
last_later p props some =
    let at : length (p ∷ props) - 1 ≡ suc (length props - 1) = omega (arith, some) in
    ap (slice_get (p ∷ props)) at
    ∙ slice_get-get_or (p ∷ props) (suc (length props - 1)) p (omega (arith, some))
    ∙ sym (slice_get-get_or props (length props - 1) p (omega (arith, some)))

last_alone : (p : Prop) → slice_get (p ∷ []) (length (p ∷ []) - 1) ≡ Some p
last_alone p = let at : length (p ∷ []) - 1 ≡ 0 = omega arith in ap (slice_get (p ∷ [])) at ∙ slice_get-get_or (p ∷ []) 0 p (omega arith)

abbrev comes_after : List ℕ → Option Prop → Bool
comes_after name last = option_map_or (λ before. is_lt (slice_cmp nat_cmp before.name name)) last true

rise_more : (props : List Prop) (prop : Prop) → names_rise props ≡ true → is_next_name props prop.name ≡ true → names_rise (props ++ prop ∷ []) ≡ true
rise_more [] prop rise next = refl
rise_more (p ∷ []) prop rise next = λ i. (sym (ap (comes_after prop.name) (last_alone p)) ∙ next) i && true
rise_more (p ∷ q ∷ props) prop rise next =
    let parts = and_parts (comes_before p (q ∷ props)) (names_rise (q ∷ props)) rise in
    λ i. parts.0 i && rise_more (q ∷ props) prop parts.1 (sym (ap (comes_after prop.name) (last_later p (q ∷ props) (omega arith))) ∙ next) i

-- ---- what was told

pub record IsSoundTold (told : Told) : Type 0 where
  pub props : list_all is_sound_prop told.props ≡ true
  pub rising : names_rise told.props ≡ true
  pub changes : list_all is_sound_change told.changes ≡ true

one_more : {X : Type 0} (p : X → Bool) (xs : List X) (x : X) → list_all p xs ≡ true → p x ≡ true → list_all p (xs ++ x ∷ []) ≡ true
one_more p xs x all one = list_all-append p xs (x ∷ []) ∙ (λ i. all i && (one i && true))

prop_told : (told : Told) (prop : Prop) → IsSoundTold told → is_sound_prop prop ≡ true → is_next_name told.props prop.name ≡ true → IsSoundTold (told_with_prop told prop)
prop_told told prop sound one next = record {
  props = one_more is_sound_prop told.props prop sound.props one;
  rising = rise_more told.props prop sound.rising next;
  changes = sound.changes;
}

change_told : (told : Told) (change : Change) (line : ℕ) → IsSoundTold told → is_sound_change change ≡ true → IsSoundTold (told_with_change told change line)
change_told told change line sound one = record {
  props = sound.props;
  rising = sound.rising;
  changes = one_more is_sound_change told.changes change sound.changes one;
}

pub at_line_ok : {X : Type 0} (line : ℕ) (r : Result X ItemFault) (x : X) → at_line line r ≡ Ok x → r ≡ Ok x
at_line_ok line (Ok y) x e = cc
at_line_ok line (Err fault) x e = absurd (cc)

-- an item that was taken is sound, and may stand there
pub taken_sounds : (number : ℕ) (told : Told) (line : ℕ) (text : List ℕ) (read : Item × List ℕ) → next_item number told line text ≡ Ok read → IsSoundItem read.0 × (may_follow number told read.0 ≡ true)
unfolding next_item
taken_sounds number told line text read e =
    let a = went_on (item_from number text) (λ read. ok_where (may_follow number told read.0) read) read (at_line_ok line (item_from number text >>= (λ read. ok_where (may_follow number told read.0) read)) read e) in
    let b = where_true (may_follow number told a.x.0) a.x read a.then_ in
    (subst (λ (r : Item × List ℕ). IsSoundItem r.0) b.1 (item_sounds number text a.x a.first), subst (λ (r : Item × List ℕ). may_follow number told r.0 ≡ true) b.1 b.0)

pub sound_items : (steps number : ℕ) (told : Told) (line : ℕ) (text : List ℕ) → IsSoundTold told → IsSoundTold (items_from steps number told line text).0
unfolding items_from
sound_items zero number told line text sound = sound
sound_items (suc steps) number told line text sound = by (next_item number told line text) refl (λ t l x s. sound_items steps number t l x s)
  where
    by : (read : Result (Item × List ℕ) ScriptFault) → next_item number told line text ≡ read → ((t : Told) (l : ℕ) (x : List ℕ) → IsSoundTold t → IsSoundTold (items_from steps number t l x).0) → IsSoundTold (and_others (items_from steps number) told line text read).0
    by (Err fault) e go = sound
    by (Ok (item.End, rest)) e go = sound
    by (Ok (item.Prop prop, rest)) e go = let s = taken_sounds number told line text (item.Prop prop, rest) e in go (told_with_prop told prop) (line_after line text rest) rest (prop_told told prop sound s.0 (and_parts _ _ s.1).1)
    by (Ok (item.Change change, rest)) e go = let s = taken_sounds number told line text (item.Change change, rest) e in go (told_with_change told change line) (line_after line text rest) rest (change_told told change line sound s.0)

pub nothing_sound : IsSoundTold nothing_told
nothing_sound = record { props = refl; rising = refl; changes = refl }

-- ---- the commit

pub head_author : (number : ℕ) (text : List ℕ) (head : ℕ × List ℕ × List ℕ) → revision_head number text ≡ Ok head → is_author head.1 ≡ true
unfolding revision_head
head_author number text head e =
    let a = went_on (line_from text) _ head e in
    let b = went_on (revision_line (length a.x.1) number a.x.0) _ head a.then_ in
    let c = went_on (one_part b.x.1 a.x.1) _ head b.then_ in
    let d = where_true (is_author c.x.0) (b.x.0, c.x.0, c.x.1) head c.then_ in
    ap (λ (h : ℕ × List ℕ × List ℕ). is_author h.1) (sym d.1) ∙ d.0

pub told_commit : (author : List ℕ) (moment : ℕ) (told : Told) → is_author author ≡ true → IsSoundTold told → IsSoundCommit (commit_of author moment told)
told_commit author moment told named sound = record { author = named; props = sound.props; rising = sound.rising; changes = sound.changes }

-- what the items of a revision tell, with its author
pub read_commit : (number line : ℕ) (text : List ℕ) (head : ℕ × List ℕ × List ℕ) (steps begins : ℕ) (told : Told) (author : List ℕ) (moment : ℕ) → revision_head number text ≡ Ok head → author ≡ head.1 → told ≡ (items_from steps number nothing_told begins head.2).0 → IsSoundCommit (commit_of author moment told)
read_commit number line text head steps begins told author moment e same is =
    told_commit author moment told (ap is_author same ∙ head_author number text head e) (subst IsSoundTold (sym is) (sound_items steps number nothing_told begins head.2 nothing_sound))

-- the same before a fault of a line
pub unless_sound : (number line : ℕ) (text : List ℕ) (head : ℕ × List ℕ × List ℕ) (steps begins : ℕ) (told : Told) (author : List ℕ) (moment : ℕ) (fault : ScriptFault) → revision_head number text ≡ Ok head → author ≡ head.1
    → MatchBool (wants_memory fault) ⊤ (told ≡ (items_from steps number nothing_told begins head.2).0) → MatchBool (wants_memory fault) ⊤ (IsSoundCommit (commit_of author moment told))
unless_sound number line text head steps begins told author moment (BadScript at) e same is = read_commit number line text head steps begins told author moment e same is
unless_sound number line text head steps begins told author moment NoMemory e same is = tt
