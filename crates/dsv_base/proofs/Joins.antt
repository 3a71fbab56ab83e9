-- A path, cut at its last `/` and joined again.
use Rattle.std.proofs.Common.{◌≡◌, ℕ, suc, ◌≤◌, ◌+◌, Bool, true, false, ◌&&◌, ◌||◌, List, [], ◌∷◌, ◌++◌, Some, None, length, drop, get_or, nat_eq, nat_le, refl, sym, ap, ◌∙◌, subst, arith, cond}
use Rattle.std.specs.Prelude.{if◌then◌else◌}
use Rattle.std.specs.List.{list_all, list_any, onto_first}
use Rattle.std.specs.Str.{bytes_eq, is_utf8}
use Rattle.std.proofs.lemmas.Bool.{and_parts, and_from, or_from, or_parts, or_right, both_ways, or_left, eqb-true, eq-eqb, le-leb}
use Rattle.std.proofs.lemmas.Bool.Decides.{nat_tests}
use Rattle.std.proofs.lemmas.Grind.{common_steps}
use Rattle.std.proofs.lemmas.Slice.Eq.{bytes_eq-Decides}
use Rattle.std.proofs.lemmas.List.Splits.{length-slice_split, slice_split-cons_no}
use Rattle.std.proofs.lemmas.List.Folds.{list_all-append, list_any-append}
use Rattle.dsv_base.specs.Paths.{is_slash, is_component, is_component_byte, components, is_path, root_text, before_last_slash, or_root, parent_text, name_of, front_of, join_text}

not_slash : (b : ℕ) → is_component_byte b ≡ true → is_slash b ≡ false
not_slash b h = grind (arith, nat_tests)

no_slash : (n : List ℕ) → list_all is_component_byte n ≡ true → list_any is_slash n ≡ false
no_slash [] h = refl
no_slash (b ∷ bs) h =
    let parts = and_parts (is_component_byte b) (list_all is_component_byte bs) h in
    or_from (is_slash b) (list_any is_slash bs) (not_slash b parts.0) (no_slash bs parts.1)

-- a component has no `/`
pub component_slash : (n : List ℕ) → is_component n ≡ true → list_any is_slash n ≡ false
component_slash n h =
    let a = nat_le 1 (length n) in
    let b = nat_le (length n) 255 in
    let c = list_all is_component_byte n in
    let d = is_utf8 n in
    let all : ((a && b) && c) ≡ true = (and_parts ((a && b) && c) d (and_parts (((a && b) && c) && d) _ (and_parts ((((a && b) && c) && d) && _) _ h).0).0).0 in
    no_slash n (and_parts (a && b) c all).1

-- nor is it empty
pub component_some : (n : List ℕ) → is_component n ≡ true → nat_eq (length n) 0 ≡ false
component_some [] h = cc
component_some (b ∷ bs) h = grind (arith, nat_tests)

-- what stands before a `/` that no other one follows
pub before_last : (front name : List ℕ) → list_any is_slash name ≡ false → before_last_slash (front ++ 47 ∷ name) ≡ front
before_last [] name none = ap (λ b. if b then 47 ∷ before_last_slash name else []) none
before_last (b ∷ bs) name none =
    let any : list_any is_slash (bs ++ 47 ∷ name) ≡ true = list_any-append is_slash bs (47 ∷ name) ∙ or_right (list_any is_slash bs) true refl in
    ap (λ c. if c then b ∷ before_last_slash (bs ++ 47 ∷ name) else []) any ∙ ap (λ front. b ∷ front) (before_last bs name none)

behind_front : (front name : List ℕ) → drop (length front + 1) (front ++ 47 ∷ name) ≡ name
behind_front [] name = refl
behind_front (b ∷ bs) name =
    let more : suc (length bs) + 1 ≡ suc (length bs + 1) = omega arith in
    ap (λ n. drop n (b ∷ (bs ++ 47 ∷ name))) more ∙ behind_front bs name

-- the name that was joined
pub name_joined : (front name : List ℕ) → list_any is_slash name ≡ false → name_of (front ++ 47 ∷ name) ≡ name
unfolding name_of
name_joined front name none = ap (λ before. drop (length before + 1) (front ++ 47 ∷ name)) (before_last front name none) ∙ behind_front front name

not_root : (front name : List ℕ) → nat_eq (length name) 0 ≡ false → bytes_eq (front ++ 47 ∷ name) root_text ≡ false
not_root [] [] h = cc
not_root [] (b ∷ bs) h = refl
not_root (f ∷ []) name h = grind (arith, common_steps, nat_tests)
not_root (f ∷ g ∷ gs) name h = grind (arith, common_steps, nat_tests)

root_only : (p : List ℕ) → bytes_eq p root_text ≡ true → root_text ≡ p
root_only p h = sym ((bytes_eq-Decides p root_text).0 h)

-- a directory, by what stands before its children
or_root-front : (p : List ℕ) → is_path p ≡ true → or_root (front_of p) ≡ p
unfolding is_path
or_root-front [] h = cc
or_root-front (b ∷ bs) h = either (bytes_eq (b ∷ bs) root_text) refl
  where
    either : (is_root : Bool) → bytes_eq (b ∷ bs) root_text ≡ is_root → or_root (if is_root then [] else b ∷ bs) ≡ b ∷ bs
    either true e = root_only (b ∷ bs) e
    either false e = refl

-- a directory is the parent of what is joined to it
pub parent_joined : (p name : List ℕ) → is_path p ≡ true → is_component name ≡ true → parent_text (join_text p name) ≡ Some p
unfolding parent_text join_text
parent_joined p name path one =
    let front = front_of p in
    ap (λ b. if b then None else Some (or_root (before_last_slash (front ++ 47 ∷ name)))) (not_root front name (component_some name one))
    ∙ ap (λ before. Some (or_root before)) (before_last front name (component_slash name one))
    ∙ ap Some (or_root-front p path)

-- a name that was joined
pub name_of-join : (p name : List ℕ) → is_component name ≡ true → name_of (join_text p name) ≡ name
unfolding join_text
name_of-join p name one = name_joined (front_of p) name (component_slash name one)

last_slash : (here more : Bool) → more ≡ false → (here || more) ≡ true → here ≡ true
last_slash true more e h = refl
last_slash false more e h = absurd (both_ways more e h)

-- a text with a `/`, cut at the last one
whole : (p : List ℕ) → list_any is_slash p ≡ true → p ≡ before_last_slash p ++ 47 ∷ drop (length (before_last_slash p) + 1) p
whole [] h = cc
whole (b ∷ bs) h = either (whole bs) (list_any is_slash bs) refl
  where
    either : (list_any is_slash bs ≡ true → bs ≡ before_last_slash bs ++ 47 ∷ drop (length (before_last_slash bs) + 1) bs) → (more : Bool) → list_any is_slash bs ≡ more → b ∷ bs ≡ (if more then b ∷ before_last_slash bs else []) ++ 47 ∷ drop (length (if more then b ∷ before_last_slash bs else []) + 1) (b ∷ bs)
    either rest true e =
        let next : suc (length (before_last_slash bs)) + 1 ≡ suc (length (before_last_slash bs) + 1) = omega arith in
        ap (λ rest. b ∷ rest) (rest e) ∙ ap (λ n. b ∷ (before_last_slash bs ++ 47 ∷ drop n (b ∷ bs))) (sym next)
    either rest false e =
        let here : is_slash b ≡ true = last_slash (is_slash b) (list_any is_slash bs) e h in
        let same : b ≡ 47 = eqb-true b 47 here in
        ap (λ first. first ∷ bs) same

behind_last : (p : List ℕ) → list_any is_slash (drop (length (before_last_slash p) + 1) p) ≡ false
behind_last [] = refl
behind_last (b ∷ bs) = either (behind_last bs) (list_any is_slash bs) refl
  where
    either : list_any is_slash (drop (length (before_last_slash bs) + 1) bs) ≡ false → (more : Bool) → list_any is_slash bs ≡ more → list_any is_slash (drop (length (if more then b ∷ before_last_slash bs else []) + 1) (b ∷ bs)) ≡ false
    either rest true e =
        let next : suc (length (before_last_slash bs)) + 1 ≡ suc (length (before_last_slash bs) + 1) = omega arith in
        ap (λ n. list_any is_slash (drop n (b ∷ bs))) next ∙ rest
    either rest false e = e

-- the components of two texts with a `/` between them
onto_first-append : (b : ℕ) (xs ys : List (List ℕ)) → 1 ≤ length xs → onto_first b (xs ++ ys) ≡ onto_first b xs ++ ys
onto_first-append b [] ys h = absurd (omega arith)
onto_first-append b (x ∷ xs) ys h = refl

components_some : (text : List ℕ) → 1 ≤ length (components text)
components_some text = rw (length-slice_split is_slash text) (omega arith)

pub components-append : (xs ys : List ℕ) → components (xs ++ 47 ∷ ys) ≡ components xs ++ components ys
components-append [] ys = refl
components-append (x ∷ xs) ys =
    ap (λ parts. cond (is_slash x) ([] ∷ parts) (onto_first x parts)) (components-append xs ys) ∙ either (is_slash x)
  where
    either : (cuts : Bool) → cond cuts ([] ∷ (components xs ++ components ys)) (onto_first x (components xs ++ components ys)) ≡ cond cuts ([] ∷ components xs) (onto_first x (components xs)) ++ components ys
    either true = refl
    either false = onto_first-append x (components xs) (components ys) (components_some xs)

pub components-one : (name : List ℕ) → list_any is_slash name ≡ false → components name ≡ name ∷ []
components-one [] h = refl
components-one (b ∷ bs) h =
    let parts = or_parts (is_slash b) (list_any is_slash bs) h in
    slice_split-cons_no is_slash b bs parts.0 ∙ ap (onto_first b) (components-one bs parts.1)

-- what is asked of what stands behind the first `/` of a path other than `/`
abbrev IsBelow : List ℕ → Type 0
IsBelow rest = (length rest ≤ 1023) × (length (components rest) ≤ 64) × (list_all is_component (components rest) ≡ true)

-- a text that is cut at a `/` into a directory and a name
pub record IsCut (before name : List ℕ) : Type 0 where
  pub joined : join_text (or_root before) name ≡ before ++ 47 ∷ name
  pub path : is_path (or_root before) ≡ true
  pub component : is_component name ≡ true

below : (b : ℕ) (rest : List ℕ) → is_path (b ∷ rest) ≡ true → bytes_eq (b ∷ rest) root_text ≡ false → IsBelow rest × (b ≡ 47)
unfolding is_path
below b [] h other = absurd (both_ways (bytes_eq (b ∷ []) root_text) other (grind (arith, nat_tests)))
below b (c ∷ cs) h other = grind (arith, nat_tests)

component_alone : (name : List ℕ) → (is_component name && true) ≡ true → is_component name ≡ true
component_alone name h = (and_parts (is_component name) true h).0

at_root : (name : List ℕ) → list_any is_slash name ≡ false → IsBelow name → IsCut [] name
unfolding join_text is_path
at_root name none h = record {
  joined = refl;
  path = refl;
  component = component_alone name (ap (list_all is_component) (sym (components-one name none)) ∙ h.2);
}

below_other : (fs name : List ℕ) → list_any is_slash name ≡ false → IsBelow (fs ++ 47 ∷ name) → IsCut (47 ∷ fs) name
unfolding join_text is_path
below_other fs name none h =
    let parts : components (fs ++ 47 ∷ name) ≡ components fs ++ name ∷ [] = components-append fs name ∙ ap (λ last. components fs ++ last) (components-one name none) in
    let all : (list_all is_component (components fs) && (is_component name && true)) ≡ true = sym (list_all-append is_component (components fs) (name ∷ [])) ∙ ap (list_all is_component) (sym parts) ∙ h.2 in
    let each = and_parts (list_all is_component (components fs)) (is_component name && true) all in
    let some : bytes_eq (47 ∷ fs) root_text ≡ false = no_root fs each.0 in
    let count : length (components fs) + 1 ≡ length (components (fs ++ 47 ∷ name)) = grind (arith, common_steps, parts) in
    let size : length (fs ++ 47 ∷ name) ≡ length fs + (length name + 1) = grind (arith, common_steps) in
    let few : nat_le (length (components fs)) 64 ≡ true = le-leb (length (components fs)) 64 (omega (arith, h.1)) in
    let short : nat_le (length fs) 1023 ≡ true = le-leb (length fs) 1023 (omega (arith, h.0)) in
    record {
      joined = ap (λ b. (if b then [] else 47 ∷ fs) ++ 47 ∷ name) some;
      path = or_right (nat_eq (length fs) 0) _ (and_from _ _ short (and_from _ _ few each.0));
      component = component_alone name each.1;
    }
  where
    no_root : (fs : List ℕ) → list_all is_component (components fs) ≡ true → bytes_eq (47 ∷ fs) root_text ≡ false
    no_root [] all = cc
    no_root (f ∷ fs) all = refl

cut_by : (before name rest : List ℕ) → 47 ∷ rest ≡ before ++ 47 ∷ name → list_any is_slash name ≡ false → IsBelow rest → IsCut before name
cut_by [] name rest e none h = at_root name none (subst IsBelow (ap (drop 1) e) h)
cut_by (f ∷ fs) name rest e none h =
    let first : 47 ≡ f = ap (λ text. get_or text 0 0) e in
    subst (λ first. IsCut (first ∷ fs) name) first (below_other fs name none (subst IsBelow (ap (drop 1) e) h))

no_text : is_path [] ≡ true → ⊥
unfolding is_path
no_text h = cc

-- a path other than `/`, cut at its last `/`
path_cut : (p : List ℕ) → is_path p ≡ true → bytes_eq p root_text ≡ false → IsCut (before_last_slash p) (name_of p) × (p ≡ before_last_slash p ++ 47 ∷ name_of p)
unfolding name_of
path_cut [] h other = absurd (no_text h)
path_cut (b ∷ rest) h other =
    let facts = below b rest h other in
    let slash : list_any is_slash (b ∷ rest) ≡ true = or_left (is_slash b) (list_any is_slash rest) (eq-eqb b 47 facts.1) in
    let cut = whole (b ∷ rest) slash in
    let front : 47 ∷ rest ≡ b ∷ rest = ap (λ first. first ∷ rest) (sym facts.1) in
    (cut_by (before_last_slash (b ∷ rest)) (drop (length (before_last_slash (b ∷ rest)) + 1) (b ∷ rest)) rest (front ∙ cut) (behind_last (b ∷ rest)) facts.0, cut)

-- what it says of a text that it has a parent
parent_from : (p q : List ℕ) → parent_text p ≡ Some q → (bytes_eq p root_text ≡ false) × (or_root (before_last_slash p) ≡ q)
unfolding parent_text
parent_from p q h = either (bytes_eq p root_text) refl h
  where
    either : (is_root : Bool) → bytes_eq p root_text ≡ is_root → (if is_root then None else Some (or_root (before_last_slash p))) ≡ Some q → (bytes_eq p root_text ≡ false) × (or_root (before_last_slash p) ≡ q)
    either true e h = cc
    either false e h = (e, cc)

pub parent_is_path : (p q : List ℕ) → is_path p ≡ true → parent_text p ≡ Some q → is_path q ≡ true
parent_is_path p q path h =
    let parent = parent_from p q h in
    subst (λ q. is_path q ≡ true) parent.1 (path_cut p path parent.0).0.path

-- a path other than `/` is its parent and its name, joined
pub join_parent : (p q : List ℕ) → is_path p ≡ true → parent_text p ≡ Some q → join_text q (name_of p) ≡ p
join_parent p q path h =
    let parent = parent_from p q h in
    let cut = path_cut p path parent.0 in
    subst (λ q. join_text q (name_of p) ≡ p) parent.1 (cut.0.joined ∙ sym cut.1)

-- a path other than `/` ends with its name
pub ends_with_name : (p : List ℕ) → is_path p ≡ true → bytes_eq p root_text ≡ false → p ≡ before_last_slash p ++ 47 ∷ name_of p
ends_with_name p path other = (path_cut p path other).1

pub name_is_component : (p : List ℕ) → is_path p ≡ true → bytes_eq p root_text ≡ false → is_component (name_of p) ≡ true
name_is_component p path other = (path_cut p path other).0.component
