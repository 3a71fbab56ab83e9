-- What stands above a path.
use Rattle.std.proofs.Common.{◌≡◌, ℕ, ◌<◌, Bool, true, false, List, [], ◌∷◌, ◌++◌, Some, length, nat_eq, refl, sym, ap, subst, ◌∙◌, arith, length-append}
use Rattle.std.specs.Prelude.{if◌then◌else◌}
use Rattle.std.specs.List.{list_any}
use Rattle.std.specs.Str.{bytes_eq}
use Rattle.dsv_base.specs.Paths.{is_path, is_component, is_slash, is_under, root_text, before_last_slash, parent_text, front_of, join_text}
use Rattle.dsv_base.proofs.Joins.{component_some}
use Rattle.rev_nodes.proofs.Below.{same_from, differ, long, up, under_itself, under_front, behind, IsBehind, root_not_under}

join-front : (path n : List ℕ) → join_text path n ≡ front_of path ++ 47 ∷ n
unfolding join_text
join-front path n = refl

module _ (path : List ℕ) (one : is_path path ≡ true) where
  pub other_root : (p : List ℕ) → is_path p ≡ true → is_under p path ≡ true → bytes_eq p path ≡ false → bytes_eq p root_text ≡ false
  other_root p p_is under other = differ p root_text (λ e. either (bytes_eq path root_text) refl e)
    where
      either : (b : Bool) → bytes_eq path root_text ≡ b → p ≡ root_text → ⊥
      either true r e = let s : bytes_eq p path ≡ true = ap (bytes_eq p) (same_from path root_text r) ∙ ap (λ t. bytes_eq t root_text) e in cc (s, other)
      either false r e = let s : is_under p path ≡ false = ap (λ t. is_under t path) e ∙ root_not_under path (long path one r) in cc (s, under)

  pub record HasParent (p : List ℕ) : Type 0 where
    pub parent : List ℕ
    pub is : parent_text p ≡ Some parent
    pub under : is_under parent path ≡ true

  pub parent_of : (p : List ℕ) → is_path p ≡ true → is_under p path ≡ true → bytes_eq p path ≡ false → HasParent p
  parent_of p p_is under other = by (list_any is_slash far.rest) (up path far.rest one (ap (λ t. bytes_eq t root_text) (sym far.is) ∙ other_root p p_is under other))
    where
      far : IsBehind path p
      far = behind p path p_is under other

      by : (b : Bool) → parent_text (front_of path ++ 47 ∷ far.rest) ≡ Some (if b then front_of path ++ 47 ∷ before_last_slash far.rest else path) → HasParent p
      by true e = record { parent = front_of path ++ 47 ∷ before_last_slash far.rest; is = ap parent_text far.is ∙ e; under = under_front path (before_last_slash far.rest) }
      by false e = record { parent = path; is = ap parent_text far.is ∙ e; under = under_itself path }

  pub shorter : (q n : List ℕ) → is_component n ≡ true → length q < length (join_text q n)
  shorter q n h = subst (λ t. length q < length t) (sym (join-front q n)) (either (bytes_eq q root_text) refl (some_length n (component_some n h)))
    where
      some_length : (n : List ℕ) → nat_eq (length n) 0 ≡ false → 0 < length n
      some_length [] h = absurd (cc)
      some_length (b ∷ bs) h = omega arith

      either : (b : Bool) → bytes_eq q root_text ≡ b → 0 < length n → length q < length ((if b then [] else q) ++ 47 ∷ n)
      either true e some = let l : length q ≡ 1 = ap length (same_from q root_text e) in omega (arith, l, some)
      either false e some = let l = length-append q (47 ∷ n) in omega (arith, l, some)
