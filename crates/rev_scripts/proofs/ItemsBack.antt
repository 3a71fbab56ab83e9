-- All items of a revision that are written and read back.
use Rattle.std.proofs.Common.{◌≡◌, ℕ, zero, suc, ◌<◌, ◌≤◌, ◌+◌, ◌-◌, Bool, true, ◌&&◌, List, [], ◌∷◌, ◌++◌, Option, Some, Result, Ok, length, nat_eq, nat_le, refl, sym, ap, ◌∙◌, subst, arith, append_assoc, append-nil, length-append}
use Rattle.std.specs.Prelude.{codes, slice_get}
use Rattle.std.specs.List.{list_all, flat_map}
use Rattle.std.specs.Option.{option_map_or}
use Rattle.std.specs.Ordering.{nat_cmp, is_lt}
use Rattle.std.specs.Cmp.Lexicographic.{slice_cmp}
use Rattle.std.proofs.lemmas.List.Concat.{flat_map-cons}
use Rattle.std.proofs.lemmas.Option.{slice_get-get_or}
use Rattle.std.proofs.Math.Seq.{get_or-append_seam}
use Rattle.dsv_base.specs.Gives.{◌>>=◌}
use Rattle.dsv_base.specs.declared.prop.Prop.{Prop}
use Rattle.rev_nodes.specs.declared.change.Change.{Change}
use Rattle.rev_nodes.specs.declared.change.Change.TheVariants.{Put, SetProp, DelProp, Mkdir, Delete, Copy}
use Rattle.rev_scripts.specs.declared.item.Item.{Item}
use Rattle.rev_scripts.specs.declared.item.Item.TheVariants as item
use Rattle.rev_scripts.specs.declared.item_fault.ItemFault.{ItemFault}
use Rattle.rev_scripts.specs.declared.script_fault.ScriptFault.{ScriptFault}
use Rattle.rev_scripts.specs.Steps.{ok_where, at_line, line_after, most_revision}
use Rattle.rev_scripts.specs.Items.{Told, item_from, item_after, may_follow, is_next_name, told_with_prop, told_with_change}
use Rattle.rev_scripts.specs.Scripts.{Items, items_from, next_item, and_others}
use Rattle.rev_nodes.specs.PropertyNames.{comes_before, names_rise}
use Rattle.rev_scripts.specs.Written.{prop_text, change_text, is_tellable_prop, is_tellable_change}
use Rattle.rev_scripts.proofs.Spelled.{and_parts}
use Rattle.rev_scripts.proofs.TextsBack.{prop_item, change_item}

-- the items tell these properties and changes, and leave this text
pub record TellsAll (items : Items) (props : List Prop) (changes : List Change) (rest : List ℕ) : Type 0 where
  pub lines : List ℕ
  pub next : ℕ
  pub is : items ≡ (record { props = props; changes = changes; lines = lines }, Ok (next, rest))

taken : (number : ℕ) (told : Told) (line : ℕ) (text rest : List ℕ) (one : Item) → item_from number text ≡ Ok (one, rest) → may_follow number told one ≡ true → next_item number told line text ≡ Ok (one, rest)
unfolding next_item
taken number told line text rest one e may =
    ap (λ (r : Result (Item × List ℕ) ItemFault). at_line line (r >>= (λ read. ok_where (may_follow number told read.0) read))) e
    ∙ ap (λ (b : Bool). at_line line (ok_where b (one, rest))) may

step : (left number : ℕ) (told : Told) (line : ℕ) (text : List ℕ) (read : Result (Item × List ℕ) ScriptFault) → next_item number told line text ≡ read → items_from (suc left) number told line text ≡ and_others (items_from left number) told line text read
unfolding items_from
step left number told line text read e = ap (and_others (items_from left number) told line text) e

-- the items that are left after one that was taken
goes_on : (items : Items) (told : Told) (line next : ℕ) (rest : List ℕ) → items ≡ (told, Ok (next, rest)) → TellsAll items told.props told.changes rest
goes_on items told line next rest e = record { lines = told.lines; next = next; is = e }

end_item : (number : ℕ) (rest : List ℕ) → item_from number (codes "end\n" ++ rest) ≡ Ok (item.End, rest)
unfolding item_from item_after
end_item number rest = refl

split_text : {X : Type 0} (f : X → List ℕ) (x : X) (xs : List X) (more : List ℕ) → flat_map f (x ∷ xs) ++ more ≡ f x ++ (flat_map f xs ++ more)
split_text f x xs more = ap (λ (t : List ℕ). t ++ more) (flat_map-cons f x xs) ∙ append_assoc (f x) (flat_map f xs) more

one_more : {X : Type 0} (before : List X) (x : X) (after : List X) → (before ++ x ∷ []) ++ after ≡ before ++ x ∷ after
one_more before x after = append_assoc before (x ∷ []) after

leads_to : (now later : Items) (props : List Prop) (changes all : List Change) (rest : List ℕ) → now ≡ later → changes ≡ all → TellsAll later props changes rest → TellsAll now props all rest
leads_to now later props changes all rest e same t = subst (λ (cs : List Change). TellsAll now props cs rest) same (record { lines = t.lines; next = t.next; is = e ∙ t.is })

numbered : (number : ℕ) (change : Change) → is_tellable_change number change ≡ true → nat_le 1 number ≡ true
numbered number (Put path text) h = (and_parts _ _ (and_parts _ _ h).0).0
numbered number (SetProp path name value) h = (and_parts _ _ (and_parts _ _ (and_parts _ _ h).0).0).0
numbered number (DelProp path name) h = (and_parts _ _ (and_parts _ _ h).0).0
numbered number (Mkdir path) h = (and_parts _ _ h).0
numbered number (Delete path) h = (and_parts _ _ h).0
numbered number (Copy source rev path) h = (and_parts _ _ (and_parts _ _ (and_parts _ _ h).0).0).0

pub changes_back : (changes : List Change) (number : ℕ) (told : Told) (line steps : ℕ) (rest : List ℕ) → number ≤ most_revision → list_all (is_tellable_change number) changes ≡ true → length changes < steps → TellsAll (items_from steps number told line (flat_map change_text changes ++ (codes "end\n" ++ rest))) told.props (told.changes ++ changes) rest
changes_back changes number told line zero rest small h some = absurd (omega arith)
changes_back [] number told line (suc left) rest small h some =
    let e = step left number told line (codes "end\n" ++ rest) _ (taken number told line (codes "end\n" ++ rest) rest item.End (end_item number rest) refl) in
    leads_to _ _ told.props told.changes (told.changes ++ []) rest refl (sym (append-nil told.changes)) (goes_on _ told line _ rest e)
changes_back (change ∷ changes) number told line (suc left) rest small h some =
    let p = and_parts (is_tellable_change number change) (list_all (is_tellable_change number) changes) h in
    let more = flat_map change_text changes ++ (codes "end\n" ++ rest) in
    let e = step left number told line (change_text change ++ more) _ (taken number told line (change_text change ++ more) more (item.Change change) (change_item change number more small p.0) (numbered number change p.0)) in
    let text = ap (λ (t : List ℕ). items_from (suc left) number told line t) (split_text change_text change changes (codes "end\n" ++ rest)) in
    leads_to _ _ told.props _ _ rest (text ∙ e) (one_more told.changes change changes) (changes_back changes number (told_with_change told change line) (line_after line (change_text change ++ more) more) left rest small p.1 (omega arith))

-- ---- properties

last_added : (props : List Prop) (prop : Prop) → slice_get (props ++ prop ∷ []) (length (props ++ prop ∷ []) - 1) ≡ Some prop
last_added props prop =
    let count : length (props ++ prop ∷ []) ≡ length props + 1 = length-append props (prop ∷ []) in
    let at : length (props ++ prop ∷ []) - 1 ≡ length props = omega arith in
    ap (slice_get (props ++ prop ∷ [])) at ∙ slice_get-get_or (props ++ prop ∷ []) (length props) prop (omega arith) ∙ ap (λ (p : Prop). Some p) (get_or-append_seam props prop [] prop)

next_rises : (props : List Prop) (prop next : Prop) → is_lt (slice_cmp nat_cmp prop.name next.name) ≡ true → is_next_name (props ++ prop ∷ []) next.name ≡ true
next_rises props prop next h = ap (λ (o : Option Prop). option_map_or (λ before. is_lt (slice_cmp nat_cmp before.name next.name)) o true) (last_added props prop) ∙ h

-- the first of these may come after those
abbrev pub may_start : List Prop → List Prop → Bool
may_start before [] = true
may_start before (prop ∷ props) = is_next_name before prop.name

starts_next : (before : List Prop) (prop : Prop) (props : List Prop) → comes_before prop props ≡ true → may_start (before ++ prop ∷ []) props ≡ true
starts_next before prop [] h = refl
starts_next before prop (next ∷ props) h = next_rises before prop next h

props_lead : (now later : Items) (props all : List Prop) (changes : List Change) (rest : List ℕ) → now ≡ later → props ≡ all → TellsAll later props changes rest → TellsAll now all changes rest
props_lead now later props all changes rest e same t = subst (λ (ps : List Prop). TellsAll now ps changes rest) same (record { lines = t.lines; next = t.next; is = e ∙ t.is })

pub props_back : (props : List Prop) (changes : List Change) (number : ℕ) (told : Told) (line steps : ℕ) (rest : List ℕ) → number ≤ most_revision → told.changes ≡ [] → list_all is_tellable_prop props ≡ true → may_start told.props props ≡ true → names_rise props ≡ true → list_all (is_tellable_change number) changes ≡ true → length props + length changes < steps → TellsAll (items_from steps number told line (flat_map prop_text props ++ (flat_map change_text changes ++ (codes "end\n" ++ rest)))) (told.props ++ props) changes rest
props_back props changes number told line zero rest small first h starts rises i some = absurd (omega arith)
props_back [] changes number told line (suc left) rest small first h starts rises i some =
    props_lead _ _ told.props (told.props ++ []) changes rest refl (sym (append-nil told.props))
    (leads_to _ _ told.props (told.changes ++ changes) changes rest refl (ap (λ (cs : List Change). cs ++ changes) first) (changes_back changes number told line (suc left) rest small i (omega arith)))
props_back (prop ∷ props) changes number told line (suc left) rest small first h starts rises i some =
    let p = and_parts (is_tellable_prop prop) (list_all is_tellable_prop props) h in
    let q = and_parts (comes_before prop props) (names_rise props) rises in
    let end = flat_map change_text changes ++ (codes "end\n" ++ rest) in
    let more = flat_map prop_text props ++ end in
    let may : may_follow number told (item.Prop prop) ≡ true = ap (λ (cs : List Change). nat_eq (length cs) 0 && is_next_name told.props prop.name) first ∙ starts in
    let e = step left number told line (prop_text prop ++ more) _ (taken number told line (prop_text prop ++ more) more (item.Prop prop) (prop_item prop number more p.0) may) in
    let text = ap (λ (t : List ℕ). items_from (suc left) number told line t) (split_text prop_text prop props end) in
    props_lead _ _ _ _ changes rest (text ∙ e) (one_more told.props prop props) (props_back props changes number (told_with_prop told prop) (line_after line (prop_text prop ++ more) more) left rest small first p.1 (starts_next told.props prop props q.0) q.1 i (omega arith))
