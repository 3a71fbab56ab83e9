-- The right that a section gives, whatever the order of its rules.
use Rattle.std.proofs.Common.{◌≡◌, ℕ, zero, suc, ◌<◌, ◌≤◌, Bool, true, false, cond, List, [], ◌∷◌, map, length, get_or, Option, None, Some, refl, ap, ◌∙◌, arith}
use Rattle.std.specs.Prelude.{◌&&◌, max, fold, if◌then◌else◌}
use Rattle.std.specs.List.{filter, Contains, reduce, slice_get}
use Rattle.std.specs.Option.{option_map_or}
use Rattle.authz_file.specs.declared.right.Right.{Right}
use Rattle.authz_file.specs.declared.right.Right.TheVariants.{No, Read, Write}
use Rattle.authz_file.specs.declared.rule.Rule.{Rule}
use Rattle.authz_check.specs.Access.{greater, right_in, section_rules, is_in_section, matches}
use Rattle.authz_check.specs.Order.{HasEach}
use Rattle.authz_check.specs.Weights.{level, weight, weight_at, top}

level-greater : (r s : Right) → level (Some (greater r s)) ≡ max (level (Some r)) (level (Some s))
level-greater No No = refl
level-greater No Read = refl
level-greater No Write = refl
level-greater Read No = refl
level-greater Read Read = refl
level-greater Read Write = refl
level-greater Write No = refl
level-greater Write Read = refl
level-greater Write Write = refl

pub level-raised : (best : Option Right) (right : Right) → level (Some (option_map_or (λ found. greater found right) best right)) ≡ max (level best) (level (Some right))
level-raised None right = omega arith
level-raised (Some found) right = level-greater found right

level-fold : (r : Right) (rs : List Right) → level (Some (fold greater r rs)) ≡ max (level (Some r)) (level (reduce greater rs))
level-fold r [] = omega arith
level-fold r (s ∷ ss) =
    let whole : level (Some (fold greater (greater r s) ss)) ≡ max (level (Some (greater r s))) (level (reduce greater ss)) = level-fold (greater r s) ss in
    let rest : level (Some (fold greater s ss)) ≡ max (level (Some s)) (level (reduce greater ss)) = level-fold s ss in
    let two : level (Some (greater r s)) ≡ max (level (Some r)) (level (Some s)) = level-greater r s in
    omega arith

same_level : (a b : Option Right) → level a ≡ level b → a ≡ b
same_level None None h = refl
same_level None (Some No) h = absurd (omega arith)
same_level None (Some Read) h = absurd (omega arith)
same_level None (Some Write) h = absurd (omega arith)
same_level (Some No) None h = absurd (omega arith)
same_level (Some No) (Some No) h = refl
same_level (Some No) (Some Read) h = absurd (omega arith)
same_level (Some No) (Some Write) h = absurd (omega arith)
same_level (Some Read) None h = absurd (omega arith)
same_level (Some Read) (Some No) h = absurd (omega arith)
same_level (Some Read) (Some Read) h = refl
same_level (Some Read) (Some Write) h = absurd (omega arith)
same_level (Some Write) None h = absurd (omega arith)
same_level (Some Write) (Some No) h = absurd (omega arith)
same_level (Some Write) (Some Read) h = absurd (omega arith)
same_level (Some Write) (Some Write) h = refl

module _ (user repos : Option (List ℕ)) (path : List ℕ) where
  abbrev w : Rule → ℕ
  w = weight user repos path

  level-section : (rules : List Rule) → level (right_in user (section_rules rules repos path)) ≡ top w rules
  level-section [] = refl
  level-section (r ∷ rs) = outer (is_in_section repos path r) (level-section rs)
    where
      others : List Rule
      others = section_rules rs repos path

      inner : (m : Bool) → level (right_in user others) ≡ top w rs → level (reduce greater (map (λ (rule : Rule). rule.right) (cond m (r ∷ filter (λ rule. matches rule user) others) (filter (λ rule. matches rule user) others)))) ≡ max (if m then level (Some r.right) else 0) (top w rs)
      inner true rest = level-fold r.right (map (λ (rule : Rule). rule.right) (filter (λ rule. matches rule user) others)) ∙ ap (max (level (Some r.right))) rest
      inner false rest = omega arith

      outer : (g : Bool) → level (right_in user others) ≡ top w rs → level (right_in user (cond g (r ∷ others) others)) ≡ max (if g && matches r user then level (Some r.right) else 0) (top w rs)
      outer true rest = inner (matches r user) rest
      outer false rest = omega arith

  pub weight_at-top : (rules : List Rule) (place : ℕ) → weight_at user repos path rules place ≤ top w rules
  weight_at-top [] place = omega arith
  weight_at-top (r ∷ rs) zero = omega arith
  weight_at-top (r ∷ rs) (suc place) = let rest : weight_at user repos path rs place ≤ top w rs = weight_at-top rs place in omega arith

  top-least : (rules : List Rule) (n : ℕ) → ((i : ℕ) (rule : Rule) → slice_get rules i ≡ Some rule → w rule ≤ n) → top w rules ≤ n
  top-least [] n h = omega arith
  top-least (r ∷ rs) n h =
      let first : w r ≤ n = h 0 r refl in
      let rest : top w rs ≤ n = top-least rs n (λ i rule is. h (suc i) rule is) in
      omega arith

  -- all rules of the section were met, and what was found is some rule's
  pub found_all : (rules : List Rule) (places : List ℕ) (best : Option Right) → HasEach (λ rule. is_in_section repos path rule ≡ true) rules places
      → ((k d : ℕ) → k < length places → weight_at user repos path rules (get_or places k d) ≤ level best) → level best ≤ top w rules → best ≡ right_in user (section_rules rules repos path)
  found_all rules places best each reached attained =
      let most : top w rules ≤ level best = top-least rules (level best) (λ i rule is. one i rule is (is_in_section repos path rule) refl) in
      let section_is : level (right_in user (section_rules rules repos path)) ≡ top w rules = level-section rules in
      same_level best (right_in user (section_rules rules repos path)) (omega arith)
    where
      met : (i : ℕ) (rule : Rule) → slice_get rules i ≡ Some rule → Contains places i → w rule ≤ level best
      met i rule is (k, within, at) =
          let here : weight_at user repos path rules (get_or places k i) ≤ level best = reached k i within in
          let same : weight_at user repos path rules (get_or places k i) ≡ w rule = ap (weight_at user repos path rules) at ∙ ap (λ o. option_map_or w o 0) is in
          omega arith

      one : (i : ℕ) (rule : Rule) → slice_get rules i ≡ Some rule → (g : Bool) → is_in_section repos path rule ≡ g → w rule ≤ level best
      one i rule is true member = met i rule is (each i rule is member)
      one i rule is false member =
          let none : w rule ≡ 0 = ap (λ b. if b && matches rule user then level (Some rule.right) else 0) member in
          omega arith
