-- The way from a path up to `/`, and the first right that is given on it.
use Rattle.std.proofs.Common.{◌≡◌, ℕ, zero, suc, ◌<◌, Bool, true, false, List, [], ◌∷◌, length, Option, None, Some, refl, sym, ap, ◌∙◌, arith}
use Rattle.std.specs.Prelude.{if◌then◌else◌, slice_index_or, IsTrue, ◌&&◌}
use Rattle.std.specs.List.{list_any, filter_map, cons_option}
use Rattle.std.specs.Option.{option_map_or}
use Rattle.std.proofs.lemmas.Bool.{eqb-true}
use Rattle.dsv_base.specs.Paths.{is_path, is_slash, before_last_slash, or_root, parent_text, upwards, ancestors}
use Rattle.authz_file.specs.declared.right.Right.{Right}
use Rattle.authz_file.specs.declared.right.Right.TheVariants.{No}

-- a text that begins with `/`
pub record IsRooted (p : List ℕ) : Type 0 where
  pub rest : List ℕ
  pub is : p ≡ 47 ∷ rest

-- what stands before the last `/` is shorter
shorter : (b : ℕ) (bs : List ℕ) → length (before_last_slash (b ∷ bs)) < suc (length bs)
shorter b [] = omega arith
shorter b (c ∷ cs) = either (list_any is_slash (c ∷ cs)) (shorter c cs)
  where
    either : (any : Bool) → length (before_last_slash (c ∷ cs)) < suc (length cs) → length (if any then b ∷ before_last_slash (c ∷ cs) else []) < suc (suc (length cs))
    either true h = omega arith
    either false h = omega arith

-- the parent begins with `/` and is shorter
record Above (parent : Option (List ℕ)) (size : ℕ) : Type 0 where
  rest : List ℕ
  is : parent ≡ Some (47 ∷ rest)
  below : length rest < size

above : (c : ℕ) (cs : List ℕ) → Above (parent_text (47 ∷ c ∷ cs)) (suc (length cs))
unfolding parent_text
above c cs = either (list_any is_slash (c ∷ cs)) (shorter c cs)
  where
    either : (any : Bool) → length (before_last_slash (c ∷ cs)) < suc (length cs) → Above (Some (or_root (if any then 47 ∷ before_last_slash (c ∷ cs) else []))) (suc (length cs))
    either true h = record { rest = before_last_slash (c ∷ cs); is = refl; below = h }
    either false h = record { rest = []; is = refl; below = omega arith }

root_has_none : parent_text (47 ∷ []) ≡ None
unfolding parent_text
root_has_none = refl

-- only `/` has no parent
pub root_from : (p : List ℕ) → IsRooted p → parent_text p ≡ None → p ≡ 47 ∷ []
root_from p rooted none = rooted.is ∙ only rooted.rest (ap parent_text (sym rooted.is) ∙ none)
  where
    only : (rest : List ℕ) → parent_text (47 ∷ rest) ≡ None → 47 ∷ rest ≡ 47 ∷ []
    only [] h = refl
    only (c ∷ cs) h = let some = (above c cs).is in absurd (cc (sym some ∙ h))

some_same : {X : Type 0} (x y : X) → Some x ≡ Some y → x ≡ y
some_same x y h = cc

pub record IsBelow (q p : List ℕ) : Type 0 where
  pub rooted : IsRooted q
  pub shorter : length q < length p

below_rest : (rest q : List ℕ) → parent_text (47 ∷ rest) ≡ Some q → IsBelow q (47 ∷ rest)
below_rest [] q h = absurd (cc root_has_none)
below_rest (c ∷ cs) q h =
    let up = above c cs in
    let same : q ≡ 47 ∷ up.rest = some_same q (47 ∷ up.rest) (sym h ∙ up.is) in
    let size : length q ≡ suc (length up.rest) = ap length same in
    let less : length up.rest < suc (length cs) = up.below in
    record { rooted = record { rest = up.rest; is = same }; shorter = omega arith }

pub parent_below : (p q : List ℕ) → IsRooted p → parent_text p ≡ Some q → IsBelow q p
parent_below p q rooted h = rw rooted.is (below_rest rooted.rest q (ap parent_text (sym rooted.is) ∙ h))

-- the number of steps doesn't matter, where they suffice
steps_suffice : (n m : ℕ) (rest : List ℕ) → length rest < n → length rest < m → upwards n (47 ∷ rest) ≡ upwards m (47 ∷ rest)
steps_suffice zero m rest h k = absurd (omega arith)
steps_suffice (suc n) zero rest h k = absurd (omega arith)
steps_suffice (suc n) (suc m) [] h k = ap (λ up. (47 ∷ []) ∷ option_map_or (upwards n) up []) root_has_none ∙ ap (λ up. (47 ∷ []) ∷ option_map_or (upwards m) up []) (sym root_has_none)
steps_suffice (suc n) (suc m) (c ∷ cs) h k =
    let p : List ℕ = 47 ∷ c ∷ cs in
    let up = above c cs in
    let less : length up.rest < suc (length cs) = up.below in
    ap (λ o. p ∷ option_map_or (upwards n) o []) up.is
    ∙ ap (λ ps. p ∷ ps) (steps_suffice n m up.rest (omega arith) (omega arith))
    ∙ ap (λ o. p ∷ option_map_or (upwards m) o []) (sym up.is)

from_rest : (rest q : List ℕ) → parent_text (47 ∷ rest) ≡ Some q → ancestors (47 ∷ rest) ≡ (47 ∷ rest) ∷ ancestors q
unfolding ancestors
from_rest rest q h =
    let low = below_rest rest q h in
    let root = low.rooted in
    let less : length q < suc (length rest) = low.shorter in
    let size : length q ≡ suc (length root.rest) = ap length root.is in
    let enough : upwards (length rest) q ≡ upwards (length q) q =
    rw root.is (steps_suffice (length rest) (suc (length root.rest)) root.rest (omega arith) (omega arith)) in
    ap (λ up. (47 ∷ rest) ∷ option_map_or (upwards (length rest)) up []) h ∙ ap (λ ps. (47 ∷ rest) ∷ ps) enough

-- the way from a path is the path and then the way from its parent
pub ancestors-parent : (p q : List ℕ) → IsRooted p → parent_text p ≡ Some q → ancestors p ≡ p ∷ ancestors q
ancestors-parent p q rooted h = rw rooted.is (from_rest rooted.rest q (ap parent_text (sym rooted.is) ∙ h))

last_rest : (rest : List ℕ) → parent_text (47 ∷ rest) ≡ None → ancestors (47 ∷ rest) ≡ (47 ∷ rest) ∷ []
unfolding ancestors
last_rest rest h = ap (λ up. (47 ∷ rest) ∷ option_map_or (upwards (length rest)) up []) h

pub ancestors-last : (p : List ℕ) → IsRooted p → parent_text p ≡ None → ancestors p ≡ p ∷ []
ancestors-last p rooted h = rw rooted.is (last_rest rooted.rest (ap parent_text (sym rooted.is) ∙ h))

-- the first right that is given along some paths
abbrev pub along : (List ℕ → Option Right) → List (List ℕ) → Right
along given paths = slice_index_or (filter_map given paths) 0 No

module _ (given : List ℕ → Option Right) where
  first_decides : (p : List ℕ) (paths : List (List ℕ)) (right : Right) → given p ≡ Some right → along given (p ∷ paths) ≡ right
  first_decides p paths right h = ap (λ o. slice_index_or (cons_option o (filter_map given paths)) 0 No) h

  none_goes_on : (p : List ℕ) (paths : List (List ℕ)) → given p ≡ None → along given (p ∷ paths) ≡ along given paths
  none_goes_on p paths h = ap (λ o. slice_index_or (cons_option o (filter_map given paths)) 0 No) h

  starts : (steps : ℕ) (p : List ℕ) (right : Right) → given p ≡ Some right → along given (upwards steps p) ≡ right
  starts zero p right h = first_decides p [] right h
  starts (suc steps) p right h = first_decides p (option_map_or (upwards steps) (parent_text p) []) right h

  pub along-here : (p : List ℕ) (right : Right) → given p ≡ Some right → along given (ancestors p) ≡ right
  unfolding ancestors
  along-here p right h = starts (length p) p right h

  pub along-parent : (p q : List ℕ) → IsRooted p → given p ≡ None → parent_text p ≡ Some q → along given (ancestors p) ≡ along given (ancestors q)
  along-parent p q rooted h up = ap (along given) (ancestors-parent p q rooted up) ∙ none_goes_on p (ancestors q) h

  pub along-end : (p : List ℕ) → IsRooted p → given p ≡ None → parent_text p ≡ None → along given (ancestors p) ≡ No
  along-end p rooted h up = ap (along given) (ancestors-last p rooted up) ∙ none_goes_on p [] h

-- a path begins with `/`
pub rooted_path : (p : List ℕ) → IsTrue (is_path p) → IsRooted p
unfolding is_path
rooted_path [] h = absurd (cc h)
rooted_path (first ∷ rest) h = record { rest = rest; is = ap (λ b. b ∷ rest) (slash (is_slash first) _ refl h) }
  where
    slash : (begins below : Bool) → is_slash first ≡ begins → IsTrue (begins && below) → first ≡ 47
    slash true below k h = eqb-true first 47 k
    slash false below k h = absurd (cc h)

pub none_from : {X : Type 0} (o : Option X) → ((x : X) → o ≡ Some x → ⊥) → o ≡ None
none_from None h = refl
none_from (Some x) h = absurd (h x refl)
