-- The items of a revision, one after another.
use Rattle.std.proofs.Common.{◌≡◌, ℕ, zero, suc, ◌<◌, ◌≤◌, List, [], ◌∷◌, Result, Ok, Err, length, refl, sym, ap, ◌∙◌, arith}
use Rattle.dsv_base.specs.Gives.{Gives}
use Rattle.dsv_base.specs.declared.prop.Prop.{Prop}
use Rattle.rev_nodes.specs.declared.change.Change.{Change}
use Rattle.rev_scripts.specs.declared.item.Item.{Item}
use Rattle.rev_scripts.specs.declared.item.Item.TheVariants as item
use Rattle.rev_scripts.specs.declared.script_fault.ScriptFault.{ScriptFault}
use Rattle.rev_scripts.specs.declared.script_fault.ScriptFault.TheVariants.{BadScript, NoMemory}
use Rattle.rev_scripts.specs.Steps.{line_after}
use Rattle.rev_scripts.specs.Items.{Told, told_with_prop, told_with_change, item_from}
use Rattle.rev_scripts.specs.Scripts.{Items, items_from, next_item, and_others, wants_memory, UnlessNoMemory}

-- the items of what is left, after what was told, give the whole
pub record IsRead (number : ℕ) (told : Told) (line : ℕ) (rest : List ℕ) (whole : Items) : Type 0 where
  pub steps : ℕ
  pub enough : length rest ≤ steps
  pub same : items_from steps number told line rest ≡ whole

pub read_start : (number : ℕ) (told : Told) (line : ℕ) (text : List ℕ) → IsRead number told line text (items_from (length text) number told line text)
read_start number told line text = record { steps = length text; enough = omega arith; same = refl }

one_step : (left number : ℕ) (told : Told) (line : ℕ) (rest : List ℕ) (read : Result (Item × List ℕ) ScriptFault) → next_item number told line rest ≡ read → items_from (suc left) number told line rest ≡ and_others (items_from left number) told line rest read
unfolding items_from
one_step left number told line rest read e = ap (and_others (items_from left number) told line rest) e

pub prop_read : (number : ℕ) (told : Told) (line : ℕ) (rest after : List ℕ) (whole : Items) (prop : Prop) → IsRead number told line rest whole → next_item number told line rest ≡ Ok (item.Prop prop, after) → length after < length rest → IsRead number (told_with_prop told prop) (line_after line rest after) after whole
prop_read number told line rest after whole prop r e shorter = step r.steps r.enough r.same
  where
    step : (steps : ℕ) → length rest ≤ steps → items_from steps number told line rest ≡ whole → IsRead number (told_with_prop told prop) (line_after line rest after) after whole
    step zero enough same = absurd (omega arith)
    step (suc left) enough same = record { steps = left; enough = omega arith; same = sym (one_step left number told line rest (Ok (item.Prop prop, after)) e) ∙ same }

pub change_read : (number : ℕ) (told : Told) (line : ℕ) (rest after : List ℕ) (whole : Items) (change : Change) → IsRead number told line rest whole → next_item number told line rest ≡ Ok (item.Change change, after) → length after < length rest → IsRead number (told_with_change told change line) (line_after line rest after) after whole
change_read number told line rest after whole change r e shorter = step r.steps r.enough r.same
  where
    step : (steps : ℕ) → length rest ≤ steps → items_from steps number told line rest ≡ whole → IsRead number (told_with_change told change line) (line_after line rest after) after whole
    step zero enough same = absurd (omega arith)
    step (suc left) enough same = record { steps = left; enough = omega arith; same = sym (one_step left number told line rest (Ok (item.Change change, after)) e) ∙ same }

pub end_read : (number : ℕ) (told : Told) (line : ℕ) (rest after : List ℕ) (whole : Items) → IsRead number told line rest whole → next_item number told line rest ≡ Ok (item.End, after) → length after < length rest → whole ≡ (told, Ok (line_after line rest after, after))
end_read number told line rest after whole r e shorter = step r.steps r.enough r.same
  where
    step : (steps : ℕ) → length rest ≤ steps → items_from steps number told line rest ≡ whole → whole ≡ (told, Ok (line_after line rest after, after))
    step zero enough same = absurd (omega arith)
    step (suc left) enough same = sym same ∙ one_step left number told line rest (Ok (item.End, after)) e

nothing_read : (number : ℕ) (told : Told) (line : ℕ) (rest : List ℕ) (fault : ScriptFault) → length rest ≤ 0 → next_item number told line rest ≡ Err fault → BadScript line ≡ fault
unfolding next_item item_from
nothing_read number told line [] fault none e = cc
nothing_read number told line (b ∷ bs) fault none e = absurd (omega arith)

pub fault_read : (number : ℕ) (told : Told) (line : ℕ) (rest : List ℕ) (whole : Items) (fault : ScriptFault) → IsRead number told line rest whole → next_item number told line rest ≡ Err fault → whole ≡ (told, Err fault)
unfolding items_from
fault_read number told line rest whole fault r e = step r.steps r.enough r.same
  where
    step : (steps : ℕ) → length rest ≤ steps → items_from steps number told line rest ≡ whole → whole ≡ (told, Err fault)
    step zero enough same = sym same ∙ ap (λ (f : ScriptFault). let i : Items = (told, Err f) in i) (nothing_read number told line rest fault enough e)
    step (suc left) enough same = sym same ∙ one_step left number told line rest (Err fault) e

pub fault_gives : (number : ℕ) (told : Told) (line : ℕ) (rest : List ℕ) (whole : Items) (fault : ScriptFault) → IsRead number told line rest whole → Gives {X = Item × List ℕ} wants_memory (Err fault) (next_item number told line rest) → Gives {X = ℕ × List ℕ} wants_memory (Err fault) whole.1
fault_gives number told line rest whole (BadScript at) r e = ap (λ (i : Items). i.1) (fault_read number told line rest whole (BadScript at) r e)
fault_gives number told line rest whole NoMemory r e = tt

pub fault_told : (number : ℕ) (told : Told) (line : ℕ) (rest : List ℕ) (whole : Items) (fault : ScriptFault) → IsRead number told line rest whole → Gives {X = Item × List ℕ} wants_memory (Err fault) (next_item number told line rest) → UnlessNoMemory {X = ℕ} (Err fault) (told ≡ whole.0)
fault_told number told line rest whole (BadScript at) r e = sym (ap (λ (i : Items). i.0) (fault_read number told line rest whole (BadScript at) r e))
fault_told number told line rest whole NoMemory r e = tt
