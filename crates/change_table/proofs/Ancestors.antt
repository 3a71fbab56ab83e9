-- A path is under another exactly where that is one of its ancestors.
use Rattle.std.proofs.Common.{◌≡◌, ℕ, zero, suc, ◌<◌, ◌≤◌, Bool, true, false, ◌||◌, List, [], ◌∷◌, Option, None, Some, length, nat_eq, refl, sym, ap, subst, ◌∙◌, arith}
use Rattle.std.specs.Prelude.{if◌then◌else◌}
use Rattle.std.specs.List.{list_any, starts_with}
use Rattle.std.specs.Option.{option_map_or}
use Rattle.std.specs.Str.{bytes_eq}
use Rattle.dsv_base.specs.Paths.{is_path, is_under, root_text, parent_text, name_of, or_root, before_last_slash, upwards, ancestors}
use Rattle.dsv_base.proofs.Joins.{parent_is_path, join_parent, name_is_component}
use Rattle.rev_nodes.proofs.Below.{same_from, long, under_itself, root_not_under, under_parent}
use Rattle.change_table.proofs.Uppers.{parent_of, shorter}

no_text : is_path [] ≡ true → ⊥
unfolding is_path
no_text h = cc

any_root : (p : List ℕ) → is_under p root_text ≡ true
unfolding is_under
any_root p = truth (bytes_eq p root_text)
  where
    truth : (a : Bool) → ((a || true) || starts_with nat_eq p (47 ∷ 47 ∷ [])) ≡ true
    truth true = refl
    truth false = refl

none_root : (p : List ℕ) → parent_text p ≡ None → bytes_eq p root_text ≡ true
unfolding parent_text
none_root p h = elim (bytes_eq p root_text) as (λ b. (if b then None else Some (or_root (before_last_slash p))) ≡ None → b ≡ true) [ true ↦ λ e. refl | false ↦ λ e. absurd (cc e) ] h

some_other : (p q : List ℕ) → parent_text p ≡ Some q → bytes_eq p root_text ≡ false
unfolding parent_text
some_other p q h = elim (bytes_eq p root_text) as (λ b. (if b then None else Some (or_root (before_last_slash p))) ≡ Some q → b ≡ false) [ true ↦ λ e. absurd (cc e) | false ↦ λ e. refl ] h

module _ (above : List ℕ) (above_is : is_path above ≡ true) where
  abbrev is_above : List ℕ → Bool
  is_above p = bytes_eq p above

  root_by : (p : List ℕ) → bytes_eq p root_text ≡ true → is_under p above ≡ is_above p
  root_by p root = either (bytes_eq p above) refl (bytes_eq above root_text) refl
    where
      either : (a : Bool) → bytes_eq p above ≡ a → (b : Bool) → bytes_eq above root_text ≡ b → is_under p above ≡ a
      either true e b f = ap (λ q. is_under q above) (same_from p above e) ∙ under_itself above
      either false e true f = absurd (let s : bytes_eq p above ≡ true = ap (bytes_eq p) (same_from above root_text f) ∙ root in cc (s, e))
      either false e false f = ap (λ q. is_under q above) (same_from p root_text root) ∙ root_not_under above (long above above_is f)

  under_root : (p : List ℕ) → bytes_eq above root_text ≡ true → is_under p above ≡ true
  under_root p e = ap (is_under p) (same_from above root_text e) ∙ any_root p

  by_parent : (p q : List ℕ) → is_path p ≡ true → is_path q ≡ true → parent_text p ≡ Some q → is_under p above ≡ (is_above p || is_under q above)
  by_parent p q p_is q_is is = either (is_above p) refl (is_under q above) refl (is_under p above) refl
    where
      some : (x y : List ℕ) → Some x ≡ Some y → x ≡ y
      some x y e = cc

      lifted : is_under q above ≡ true → (b : Bool) → bytes_eq above root_text ≡ b → is_under p above ≡ true
      lifted u true e = under_root p e
      lifted u false e = under_parent p q above p_is above_is e is q_is u

      either : (a : Bool) → is_above p ≡ a → (b : Bool) → is_under q above ≡ b → (c : Bool) → is_under p above ≡ c → c ≡ (a || b)
      either true e b f true g = refl
      either true e b f false g = absurd (let s : is_under p above ≡ true = ap (λ t. is_under t above) (same_from p above e) ∙ under_itself above in cc (s, g))
      either false e true f true g = refl
      either false e true f false g = absurd (let s : is_under p above ≡ true = lifted f (bytes_eq above root_text) refl in cc (s, g))
      either false e false f false g = refl
      either false e false f true g = absurd (let h = parent_of above above_is p p_is g e in let s : is_under q above ≡ true = ap (λ t. is_under t above) (some q h.parent (sym is ∙ h.is)) ∙ h.under in cc (s, f))

  no_more : (a : Bool) → (a || false) ≡ a
  no_more true = refl
  no_more false = refl

  up_to : (n : ℕ) (p : List ℕ) → length p ≤ n → is_path p ≡ true → list_any is_above (upwards n p) ≡ is_under p above
  up_to zero [] size one = absurd (no_text one)
  up_to zero (b ∷ bs) size one = absurd (omega (arith, size))
  up_to (suc n) p size one = by (parent_text p) refl (λ q less q_is. up_to n q (omega (arith, less, size)) q_is)
    where
      by : (o : Option (List ℕ)) → parent_text p ≡ o → ((q : List ℕ) → length q < length p → is_path q ≡ true → list_any is_above (upwards n q) ≡ is_under q above) → (is_above p || list_any is_above (option_map_or (upwards n) o [])) ≡ is_under p above
      by None e go = no_more (is_above p) ∙ sym (root_by p (none_root p e))
      by (Some q) e go = ap (λ b. is_above p || b) (go q (less q e) (parent_is_path p q one e)) ∙ sym (by_parent p q one (parent_is_path p q one e) e)
        where
          less : (q : List ℕ) → parent_text p ≡ Some q → length q < length p
          less q e = subst (λ t. length q < length t) (join_parent p q one e) (shorter above above_is q (name_of p) (name_is_component p one (some_other p q e)))

  pub under_is : (p : List ℕ) → is_path p ≡ true → list_any is_above (ancestors p) ≡ is_under p above
  unfolding ancestors
  under_is p one = up_to (length p) p (omega arith) one

-- ---- the way up, step by step

parent_shorter : (p q : List ℕ) → is_path p ≡ true → parent_text p ≡ Some q → length q < length p
parent_shorter p q one e = subst (λ t. length q < length t) (join_parent p q one e) (shorter p one q (name_of p) (name_is_component p one (some_other p q e)))

upwards_enough : (m n : ℕ) (p : List ℕ) → is_path p ≡ true → length p ≤ m → length p ≤ n → upwards m p ≡ upwards n p
upwards_enough m n [] one a b = absurd (no_text one)
upwards_enough zero n (c ∷ cs) one a b = absurd (omega (arith, a))
upwards_enough (suc m) zero (c ∷ cs) one a b = absurd (omega (arith, b))
upwards_enough (suc m) (suc n) (c ∷ cs) one a b = by (parent_text (c ∷ cs)) refl (λ q q_is l k. upwards_enough m n q q_is l k)
  where
    by : (o : Option (List ℕ)) → parent_text (c ∷ cs) ≡ o → ((q : List ℕ) → is_path q ≡ true → length q ≤ m → length q ≤ n → upwards m q ≡ upwards n q) → (c ∷ cs) ∷ option_map_or (upwards m) o [] ≡ (c ∷ cs) ∷ option_map_or (upwards n) o []
    by None e go = refl
    by (Some q) e go = let less = parent_shorter (c ∷ cs) q one e in ap (λ (ps : List (List ℕ)). (c ∷ cs) ∷ ps) (go q (parent_is_path (c ∷ cs) q one e) (omega (arith, less, a)) (omega (arith, less, b)))

pub ancestors_none : (p : List ℕ) → is_path p ≡ true → parent_text p ≡ None → ancestors p ≡ p ∷ []
unfolding ancestors
ancestors_none [] one e = absurd (no_text one)
ancestors_none (c ∷ cs) one e = ap (λ (o : Option (List ℕ)). (c ∷ cs) ∷ option_map_or (upwards (length cs)) o []) e

pub ancestors_some : (p q : List ℕ) → is_path p ≡ true → parent_text p ≡ Some q → ancestors p ≡ p ∷ ancestors q
unfolding ancestors
ancestors_some [] q one e = absurd (no_text one)
ancestors_some (c ∷ cs) q one e =
    let less = parent_shorter (c ∷ cs) q one e in
    ap (λ (o : Option (List ℕ)). (c ∷ cs) ∷ option_map_or (upwards (length cs)) o []) e
    ∙ ap (λ (ps : List (List ℕ)). (c ∷ cs) ∷ ps) (upwards_enough (length cs) (length q) q (parent_is_path (c ∷ cs) q one e) (omega (arith, less)) (omega arith))

pub parent_less : (p q : List ℕ) → is_path p ≡ true → parent_text p ≡ Some q → length q < length p
parent_less = parent_shorter
