-- What a walk along the rules tells of all sections under a path.
use Rattle.std.proofs.Common.{◌≡◌, ℕ, zero, suc, ◌<◌, Bool, true, false, cond, List, [], ◌∷◌, map, length, get_or, Option, None, Some, refl, sym, ap, ◌∙◌, arith}
use Rattle.std.specs.Prelude.{◌&&◌, if◌then◌else◌}
use Rattle.std.specs.List.{list_all, filter, Contains, slice_get}
use Rattle.std.specs.Option.{option_map_or}
use Rattle.std.specs.Str.{bytes_eq}
use Rattle.std.proofs.lemmas.Slice.Eq.{bytes_eq-Decides}
use Rattle.dsv_base.specs.Paths.{is_under}
use Rattle.authz_file.specs.declared.rule.Rule.{Rule}
use Rattle.authz_check.specs.Everywhere.{speaks_of, section_paths}
use Rattle.authz_check.specs.Order.{HasEach, as_section, section_rule_at, where_true}
use Rattle.authz_check.proofs.Ordered.{get_or-slice_get, within-slice_get}

-- the path of this rule's section passes a test, if it is one of those
abbrev pub passes : (List ℕ → Bool) → List ℕ → List ℕ → Rule → Bool
passes test name top rule = if speaks_of name rule && is_under rule.path top then test rule.path else true

chosen : (s u p a : Bool) → cond s (cond u (p && a) a) a ≡ ((if s && u then p else true) && a)
chosen true true p a = refl
chosen true false p a = refl
chosen false u p a = refl

module _ (P : List ℕ → Bool) (name top : List ℕ) where
  abbrev pub all_pass : List Rule → Bool
  all_pass rules = list_all P (section_paths rules name top)

  all_pass-cons : (r : Rule) (rs : List Rule) → all_pass (r ∷ rs) ≡ cond (speaks_of name r) (cond (is_under r.path top) (P r.path && all_pass rs) (all_pass rs)) (all_pass rs)
  all_pass-cons r rs = outer (speaks_of name r)
    where
      below : List Rule → List (List ℕ)
      below some = filter (λ path. is_under path top) (map (λ (rule : Rule). rule.path) some)

      inner : (u : Bool) (paths : List (List ℕ)) → list_all P (cond u (r.path ∷ paths) paths) ≡ cond u (P r.path && list_all P paths) (list_all P paths)
      inner true paths = refl
      inner false paths = refl

      outer : (s : Bool) → list_all P (filter (λ path. is_under path top) (map (λ (rule : Rule). rule.path) (cond s (r ∷ filter (speaks_of name) rs) (filter (speaks_of name) rs)))) ≡ cond s (cond (is_under r.path top) (P r.path && all_pass rs) (all_pass rs)) (all_pass rs)
      outer true = inner (is_under r.path top) (section_paths rs name top)
      outer false = refl

  -- the sections' paths pass where each rule does
  pub all_pass-rules : (rules : List Rule) → all_pass rules ≡ list_all (passes P name top) rules
  all_pass-rules [] = refl
  all_pass-rules (r ∷ rs) =
      all_pass-cons r rs
      ∙ chosen (speaks_of name r) (is_under r.path top) (P r.path) (all_pass rs)
      ∙ ap (λ b. passes P name top r && b) (all_pass-rules rs)

  pub first_passes : (r : Rule) (rs : List Rule) → all_pass (r ∷ rs) ≡ true → speaks_of name r ≡ true → is_under r.path top ≡ true → P r.path ≡ true
  first_passes r rs h speaks under = first_of (speaks_of name r) (is_under r.path top) (P r.path) (list_all (passes P name top) rs) (sym (all_pass-rules (r ∷ rs)) ∙ h) speaks under
    where
      first_of : (s u p a : Bool) → ((if s && u then p else true) && a) ≡ true → s ≡ true → u ≡ true → p ≡ true
      first_of true true true a h k l = refl
      first_of true true false a h k l = h
      first_of true false p a h k l = absurd (cc l)
      first_of false u p a h k l = absurd (cc k)

  pub others_pass : (r : Rule) (rs : List Rule) → all_pass (r ∷ rs) ≡ true → all_pass rs ≡ true
  others_pass r rs h = others_of (passes P name top r) (all_pass rs) (ap (λ b. passes P name top r && b) (all_pass-rules rs) ∙ sym (all_pass-rules (r ∷ rs)) ∙ h)
    where
      others_of : (p a : Bool) → (p && a) ≡ true → a ≡ true
      others_of true a h = h
      others_of false a h = absurd (cc h)

-- a test of all of a list, element by element
pub all_from : {X : Type 0} (test : X → Bool) (xs : List X) → ((i : ℕ) (d : X) → i < length xs → test (get_or xs i d) ≡ true) → list_all test xs ≡ true
all_from test [] h = refl
all_from test (x ∷ xs) h = ap (λ b. b && list_all test xs) (h 0 x (omega arith)) ∙ all_from test xs (λ i d within. h (suc i) d (omega arith))

pub one_fails : {X : Type 0} (test : X → Bool) (xs : List X) (i : ℕ) (x : X) → i < length xs → x ≡ get_or xs i x → test x ≡ false → list_all test xs ≡ false
one_fails test [] i x within is fails = absurd (omega arith)
one_fails test (y ∷ ys) zero x within is fails = ap (λ z. test z && list_all test ys) (sym is) ∙ ap (λ b. b && list_all test ys) fails
one_fails test (y ∷ ys) (suc i) x within is fails = ap (λ b. test y && b) (one_fails test ys i x (omega arith) is fails) ∙ none (test y)
  where
    none : (b : Bool) → (b && false) ≡ false
    none true = refl
    none false = refl

-- an element within does not depend on what stands past the end
pub get_or-any : {A : Type 0} (xs : List A) (i : ℕ) (d e : A) → i < length xs → get_or xs i d ≡ get_or xs i e
get_or-any [] i d e h = absurd (omega arith)
get_or-any (x ∷ xs) zero d e h = refl
get_or-any (x ∷ xs) (suc i) d e h = get_or-any xs i d e (omega arith)

pub slice_get-within : {X : Type 0} (xs : List X) (i : ℕ) (d : X) → i < length xs → slice_get xs i ≡ Some (get_or xs i d)
slice_get-within [] i d h = absurd (omega arith)
slice_get-within (x ∷ xs) zero d h = refl
slice_get-within (x ∷ xs) (suc i) d h = slice_get-within xs i d (omega arith)

-- where the rule at a place stands in a section under the path
module _ (P : List ℕ → Bool) (name top : List ℕ) where
  abbrev pub passes_at : List Rule → ℕ → Bool
  passes_at rules place = option_map_or (passes P name top) (slice_get rules place) true

  none_as : (o : Option Rule) → as_section name top o ≡ None → option_map_or (passes P name top) o true ≡ true
  none_as None h = refl
  none_as (Some rule) h = either (speaks_of name rule && is_under rule.path top) h
    where
      either : (b : Bool) → where_true b rule ≡ None → (if b then P rule.path else true) ≡ true
      either true k = absurd (cc k)
      either false k = refl

  pub passes-none : (rules : List Rule) (place : ℕ) → section_rule_at rules name top place ≡ None → passes_at rules place ≡ true
  passes-none rules place h = none_as (slice_get rules place) h

  pub record IsSection (o : Option Rule) (rule : Rule) : Type 0 where
    pub is : o ≡ Some rule
    pub under : (speaks_of name rule && is_under rule.path top) ≡ true

  some_as : (o : Option Rule) (rule : Rule) → as_section name top o ≡ Some rule → IsSection o rule
  some_as None rule h = absurd (cc h)
  some_as (Some other) rule h = either (speaks_of name other && is_under other.path top) refl h
    where
      either : (b : Bool) → (speaks_of name other && is_under other.path top) ≡ b → where_true b other ≡ Some rule → IsSection (Some other) rule
      either true e k = let same : other ≡ rule = cc in record { is = k; under = ap (λ r. speaks_of name r && is_under r.path top) (sym same) ∙ e }
      either false e k = absurd (cc k)

  pub section : (rules : List Rule) (place : ℕ) (rule : Rule) → section_rule_at rules name top place ≡ Some rule → IsSection (slice_get rules place) rule
  section rules place rule h = some_as (slice_get rules place) rule h

  passes_is : (rule : Rule) (b : Bool) → (speaks_of name rule && is_under rule.path top) ≡ true → P rule.path ≡ b → passes P name top rule ≡ b
  passes_is rule b under test = ap (λ c. if c then P rule.path else true) under ∙ test

  pub passes-some : (rules : List Rule) (place : ℕ) (rule : Rule) → section_rule_at rules name top place ≡ Some rule → P rule.path ≡ true → passes_at rules place ≡ true
  passes-some rules place rule h test =
      let found = section rules place rule h in
      ap (λ o. option_map_or (passes P name top) o true) found.is ∙ passes_is rule true found.under test

  pub section_fails : (rules : List Rule) (place : ℕ) (rule : Rule) → section_rule_at rules name top place ≡ Some rule → P rule.path ≡ false → list_all P (section_paths rules name top) ≡ false
  section_fails rules place rule h test =
      let found = section rules place rule h in
      all_pass-rules P name top rules
      ∙ one_fails (passes P name top) rules place rule (within-slice_get rules place rule found.is) (sym (get_or-slice_get rules place rule rule found.is)) (passes_is rule false found.under test)

  -- all sections below the path were met, and the path itself passes
  pub met_all : (rules : List Rule) (places : List ℕ) → P top ≡ true
      → HasEach (λ rule. (speaks_of name rule ≡ true) × (is_under rule.path top ≡ true) × (bytes_eq rule.path top ≡ false)) rules places
      → ((k d : ℕ) → k < length places → passes_at rules (get_or places k d) ≡ true) → list_all P (section_paths rules name top) ≡ true
  met_all rules places here each passed =
      all_pass-rules P name top rules
      ∙ all_from (passes P name top) rules (λ i d within. one i (get_or rules i d) (slice_get-within rules i d within) (speaks_of name (get_or rules i d)) (is_under (get_or rules i d).path top) (bytes_eq (get_or rules i d).path top) refl refl refl)
    where
      met : (i : ℕ) (rule : Rule) → slice_get rules i ≡ Some rule → Contains places i → passes P name top rule ≡ true
      met i rule is (k, within, at) = sym (ap (passes_at rules) at ∙ ap (λ o. option_map_or (passes P name top) o true) is) ∙ passed k i within

      one : (i : ℕ) (rule : Rule) → slice_get rules i ≡ Some rule → (s u same : Bool) → speaks_of name rule ≡ s → is_under rule.path top ≡ u → bytes_eq rule.path top ≡ same → passes P name top rule ≡ true
      one i rule is false u same a b c = ap (λ s. if s && is_under rule.path top then P rule.path else true) a
      one i rule is true false same a b c = ap (λ s. if s && is_under rule.path top then P rule.path else true) a ∙ ap (λ v. if v then P rule.path else true) b
      one i rule is true true true a b c = passes_is rule true (ap (λ s. s && is_under rule.path top) a ∙ b) (ap P ((bytes_eq-Decides rule.path top).0 c) ∙ here)
      one i rule is true true false a b c = met i rule is (each i rule is (a, b, c))
