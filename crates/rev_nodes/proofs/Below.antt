-- Paths under others, by what stands behind the upper one and a `/`.
use Rattle.std.proofs.Common.{◌≡◌, ℕ, suc, ◌<◌, Bool, true, false, ◌||◌, ◌&&◌, List, [], ◌∷◌, ◌++◌, None, Some, length, drop, nat_eq, nat_le, refl, sym, ap, subst, ◌∙◌, append_assoc, arith, length-append}
use Rattle.std.specs.Prelude.{if◌then◌else◌}
use Rattle.std.specs.List.{list_all, list_any, starts_with}
use Rattle.std.specs.Str.{bytes_eq}
use Rattle.std.proofs.lemmas.Bool.{and_parts, or_left, or_right, eqb-true}
use Rattle.std.proofs.lemmas.Bool.Decides.{Decides-eqb, nat_tests}
use Rattle.std.proofs.lemmas.Slice.Eq.{bytes_eq-Decides, starts_is}
use Rattle.dsv_base.specs.Paths.{is_path, is_slash, is_component, is_below_root, components, is_under, root_text, before_last_slash, or_root, parent_text, name_of, front_of}
use Rattle.dsv_base.proofs.Joins.{ends_with_name}
use Rattle.rev_nodes.specs.Changes.{past, moved}

pub same_from : (xs ys : List ℕ) → bytes_eq xs ys ≡ true → xs ≡ ys
same_from xs ys e = (bytes_eq-Decides xs ys).0 e

pub equal_itself : (xs : List ℕ) → bytes_eq xs xs ≡ true
equal_itself xs = (bytes_eq-Decides xs xs).1 refl

pub true_or_false : {X : Type 0} (b : Bool) → b ≡ true → b ≡ false → X
true_or_false true t f = absurd (cc)
true_or_false false t f = absurd (cc)

pub differ : (xs ys : List ℕ) → (xs ≡ ys → ⊥) → bytes_eq xs ys ≡ false
differ xs ys other = elim (bytes_eq xs ys) as (λ b. bytes_eq xs ys ≡ b → b ≡ false) [ true ↦ λ e. absurd (other (same_from xs ys e)) | false ↦ λ e. refl ] refl

-- ---- paths other than `/`

pub record IsLong (p : List ℕ) : Type 0 where
  pub byte : ℕ
  pub rest : List ℕ
  pub is : p ≡ 47 ∷ byte ∷ rest

pub long : (p : List ℕ) → is_path p ≡ true → bytes_eq p root_text ≡ false → IsLong p
unfolding is_path
long [] h other = absurd (cc)
long (b ∷ []) h other =
    let first : b ≡ 47 = eqb-true b 47 (and_parts (is_slash b) _ h).0 in
    true_or_false (bytes_eq (b ∷ []) root_text) (ap (λ n. bytes_eq (n ∷ []) root_text) first) other
long (b ∷ c ∷ cs) h other = record { byte = c; rest = cs; is = ap (λ n. n ∷ c ∷ cs) (eqb-true b 47 (and_parts (is_slash b) _ h).0) }

pub some_text : is_path [] ≡ true → ⊥
unfolding is_path
some_text h = cc

-- what stands before the children of a path
pub front_long : (p : List ℕ) → bytes_eq p root_text ≡ false → front_of p ≡ p
front_long p other = ap (λ b. if b then [] else p) other

pub or_root-front : (p : List ℕ) → is_path p ≡ true → or_root (front_of p) ≡ p
or_root-front [] h = absurd (some_text h)
or_root-front (b ∷ bs) h = either (bytes_eq (b ∷ bs) root_text) refl
  where
    either : (root : Bool) → bytes_eq (b ∷ bs) root_text ≡ root → or_root (if root then [] else b ∷ bs) ≡ b ∷ bs
    either true e = sym (same_from (b ∷ bs) root_text e)
    either false e = refl

pub or_false : (a : Bool) → (a || false) ≡ a
or_false true = refl
or_false false = refl

pub double : (bs : List ℕ) → is_path (47 ∷ 47 ∷ bs) ≡ true → ⊥
unfolding is_path
double bs h =
    let below : (nat_le (length (47 ∷ bs)) 1023 && is_below_root (47 ∷ bs)) ≡ true = other_way (nat_eq (length (47 ∷ bs)) 0) _ (grind (arith, nat_tests)) h in
    let parts = and_parts (nat_le (length (components (47 ∷ bs))) 64) (list_all is_component (components (47 ∷ bs))) (and_parts (nat_le (length (47 ∷ bs)) 1023) (is_below_root (47 ∷ bs)) below).1 in
    absurd (empty (components bs) parts.1)
  where
    other_way : (a b : Bool) → a ≡ false → (a || b) ≡ true → b ≡ true
    other_way a b f h = sym (ap (λ c. c || b) f) ∙ h

    empty : (parts : List (List ℕ)) → list_all is_component ([] ∷ parts) ≡ true → ⊥
    empty parts all = cc

-- no component is empty
pub no_empty : (rest : List ℕ) → is_path (47 ∷ rest) ≡ true → list_any is_slash rest ≡ true → before_last_slash rest ≡ [] → ⊥
unfolding is_path
no_empty [] h some none = cc
no_empty (b ∷ bs) h some none = either (list_any is_slash bs) refl none
  where
    either : (more : Bool) → list_any is_slash bs ≡ more → (if more then b ∷ before_last_slash bs else []) ≡ [] → ⊥
    either true e none = cc
    either false e none =
        let here : is_slash b ≡ true = sym (ap (λ m. is_slash b || m) e ∙ or_false (is_slash b)) ∙ some in
        let first : b ≡ 47 = eqb-true b 47 here in
        absurd (double bs (subst (λ n. is_path (47 ∷ n ∷ bs) ≡ true) first h))

-- ---- cuts at the last `/`

pub slash_within : (xs rest : List ℕ) → list_any is_slash (xs ++ 47 ∷ rest) ≡ true
slash_within [] rest = refl
slash_within (x ∷ xs) rest = or_right (is_slash x) _ (slash_within xs rest)

pub cut_below : (xs rest : List ℕ) → before_last_slash (xs ++ 47 ∷ rest) ≡ (if list_any is_slash rest then xs ++ 47 ∷ before_last_slash rest else xs)
cut_below [] rest = refl
cut_below (x ∷ xs) rest =
    ap (λ b. if b then x ∷ before_last_slash (xs ++ 47 ∷ rest) else []) (slash_within xs rest)
    ∙ ap (λ front. x ∷ front) (cut_below xs rest)
    ∙ inside (list_any is_slash rest)
  where
    inside : (b : Bool) → x ∷ (if b then xs ++ 47 ∷ before_last_slash rest else xs) ≡ (if b then (x ∷ xs) ++ 47 ∷ before_last_slash rest else x ∷ xs)
    inside true = refl
    inside false = refl

pub cut_shorter : (rest : List ℕ) → list_any is_slash rest ≡ true → length (before_last_slash rest) < length rest
cut_shorter [] h = absurd (cc)
cut_shorter (b ∷ bs) h = either (list_any is_slash bs) refl (cut_shorter bs)
  where
    either : (more : Bool) → list_any is_slash bs ≡ more → (list_any is_slash bs ≡ true → length (before_last_slash bs) < length bs) → length (if more then b ∷ before_last_slash bs else []) < suc (length bs)
    either true e go = let less = go e in omega arith
    either false e go = omega arith

-- the parent of what stands below a path
pub up : (top rest : List ℕ) → is_path top ≡ true → bytes_eq (front_of top ++ 47 ∷ rest) root_text ≡ false → parent_text (front_of top ++ 47 ∷ rest) ≡ Some (if list_any is_slash rest then front_of top ++ 47 ∷ before_last_slash rest else top)
unfolding parent_text
up top rest path other =
    ap (λ b. if b then None else Some (or_root (before_last_slash (front_of top ++ 47 ∷ rest)))) other
    ∙ ap (λ before. Some (or_root before)) (cut_below (front_of top) rest)
    ∙ ap Some (either (list_any is_slash rest))
  where
    filled : (xs ys : List ℕ) → or_root (xs ++ 47 ∷ ys) ≡ xs ++ 47 ∷ ys
    filled [] ys = refl
    filled (x ∷ xs) ys = refl

    either : (b : Bool) → or_root (if b then front_of top ++ 47 ∷ before_last_slash rest else front_of top) ≡ (if b then front_of top ++ 47 ∷ before_last_slash rest else top)
    either true = filled (front_of top) (before_last_slash rest)
    either false = or_root-front top path

-- of a path other than `/`
pub up_long : (path rest : List ℕ) → is_path path ≡ true → bytes_eq path root_text ≡ false → parent_text (path ++ 47 ∷ rest) ≡ Some (if list_any is_slash rest then path ++ 47 ∷ before_last_slash rest else path)
up_long path rest one other =
    let front : front_of path ≡ path = front_long path other in
    ap (λ f. parent_text (f ++ 47 ∷ rest)) (sym front)
    ∙ up path rest one (ap (λ f. bytes_eq (f ++ 47 ∷ rest) root_text) (front ∙ (long path one other).is))
    ∙ ap (λ f. Some (if list_any is_slash rest then f ++ 47 ∷ before_last_slash rest else path)) front

-- ---- under

pub under_itself : (p : List ℕ) → is_under p p ≡ true
unfolding is_under
under_itself p = or_left _ (starts_with nat_eq p (p ++ 47 ∷ [])) (or_left (bytes_eq p p) (bytes_eq p root_text) (equal_itself p))

pub under_root : (p top : List ℕ) → bytes_eq top root_text ≡ true → is_under p top ≡ true
unfolding is_under
under_root p top root = or_left _ (starts_with nat_eq p (top ++ 47 ∷ [])) (or_right (bytes_eq p top) (bytes_eq top root_text) root)

pub under_more : (top rest : List ℕ) → is_under (top ++ 47 ∷ rest) top ≡ true
unfolding is_under
under_more top rest =
    let p : List ℕ = top ++ 47 ∷ rest in
    or_right (bytes_eq p top || bytes_eq top root_text) _ ((starts_is Decides-eqb p (top ++ 47 ∷ []) (starts_with nat_eq p (top ++ 47 ∷ [])) refl).1 rest (sym (append_assoc top (47 ∷ []) rest)))

-- what stands behind the front of a path is under it
pub under_front : (top rest : List ℕ) → is_under (front_of top ++ 47 ∷ rest) top ≡ true
under_front top rest = either (bytes_eq top root_text) refl
  where
    either : (root : Bool) → bytes_eq top root_text ≡ root → is_under ((if root then [] else top) ++ 47 ∷ rest) top ≡ true
    either true e = under_root (47 ∷ rest) top e
    either false e = under_more top rest

-- and nothing else but the path itself
pub record IsBehind (top p : List ℕ) : Type 0 where
  pub rest : List ℕ
  pub is : p ≡ front_of top ++ 47 ∷ rest

pub behind : (p top : List ℕ) → is_path p ≡ true → is_under p top ≡ true → bytes_eq p top ≡ false → IsBehind top p
unfolding is_under
behind p top path under other = pick (bytes_eq top root_text) (starts_with nat_eq p (top ++ 47 ∷ [])) refl refl (sym (ap (λ b. (b || bytes_eq top root_text) || starts_with nat_eq p (top ++ 47 ∷ [])) other) ∙ under)
  where
    pick : (root begins : Bool) → bytes_eq top root_text ≡ root → starts_with nat_eq p (top ++ 47 ∷ []) ≡ begins → (root || begins) ≡ true → IsBehind top p
    pick true begins h k some =
        let long = long p path (ap (bytes_eq p) (sym (same_from top root_text h)) ∙ other) in
        record { rest = long.byte ∷ long.rest; is = long.is ∙ ap (λ b. (if b then [] else top) ++ 47 ∷ long.byte ∷ long.rest) (sym h) }
    pick false true h k some =
        let split = (starts_is Decides-eqb p (top ++ 47 ∷ []) (starts_with nat_eq p (top ++ 47 ∷ [])) refl).0 k in
        let rest = drop (length (top ++ 47 ∷ [])) p in
        record { rest = rest; is = split ∙ append_assoc top (47 ∷ []) rest ∙ ap (λ b. (if b then [] else top) ++ 47 ∷ rest) (sym h) }
    pick false false h k some = absurd (cc some)

-- a path other than `/` is not above it
pub root_not_under : (p : List ℕ) → IsLong p → is_under root_text p ≡ false
unfolding is_under
root_not_under p long = ap (is_under root_text) long.is

-- what is under a path other than `/` isn't `/`
pub below_long : (q path : List ℕ) → IsLong path → is_under q path ≡ true → bytes_eq q root_text ≡ false
below_long q path far under = differ q root_text (λ same. true_or_false (is_under q path) under (ap (λ t. is_under t path) same ∙ root_not_under path far))

pub parent_from : (p q : List ℕ) → parent_text p ≡ Some q → (bytes_eq p root_text ≡ false) × (or_root (before_last_slash p) ≡ q)
unfolding parent_text
parent_from p q h = either (bytes_eq p root_text) refl h
  where
    either : (root : Bool) → bytes_eq p root_text ≡ root → (if root then None else Some (or_root (before_last_slash p))) ≡ Some q → (bytes_eq p root_text ≡ false) × (or_root (before_last_slash p) ≡ q)
    either true e h = absurd (cc)
    either false e h = (e, cc)

-- a path is behind its parent
pub behind_parent : (p q : List ℕ) → is_path p ≡ true → parent_text p ≡ Some q → IsBehind q p
behind_parent p q one is =
    let parent = parent_from p q is in
    let cut = ends_with_name p one parent.0 in
    record { rest = name_of p; is = cut ∙ ap (λ front. front ++ 47 ∷ name_of p) (front_is (before_last_slash p) cut) ∙ ap (λ t. front_of t ++ 47 ∷ name_of p) parent.1 }
  where
    front_is : (before : List ℕ) → p ≡ before ++ 47 ∷ name_of p → before ≡ front_of (or_root before)
    front_is [] cut = refl
    front_is (b ∷ bs) cut = sym (front_long (b ∷ bs) (differ (b ∷ bs) root_text (λ root. double (name_of p) (ap is_path (sym (cut ∙ ap (λ front. front ++ 47 ∷ name_of p) root)) ∙ one))))

-- what stands in what is under a path is under it
pub under_parent : (p q path : List ℕ) → is_path p ≡ true → is_path path ≡ true → bytes_eq path root_text ≡ false → parent_text p ≡ Some q → is_path q ≡ true → is_under q path ≡ true → is_under p path ≡ true
under_parent p q path one there other is q_is under =
    let not_root : bytes_eq q root_text ≡ false = below_long q path (long path there other) under in
    let at_q : IsBehind q p = behind_parent p q one is in
    let p_is : p ≡ q ++ 47 ∷ at_q.rest = at_q.is ∙ ap (λ front. front ++ 47 ∷ at_q.rest) (front_long q not_root) in
    by_path (bytes_eq q path) refl at_q.rest p_is
  where
    by_path : (b : Bool) → bytes_eq q path ≡ b → (rest : List ℕ) → p ≡ q ++ 47 ∷ rest → is_under p path ≡ true
    by_path true e rest p_is = ap (λ t. is_under t path) (p_is ∙ ap (λ front. front ++ 47 ∷ rest) (same_from q path e)) ∙ under_more path rest
    by_path false e rest p_is =
        let far = behind q path q_is under e in
        ap (λ t. is_under t path) (p_is ∙ ap (λ front. front ++ 47 ∷ rest) (far.is ∙ ap (λ front. front ++ 47 ∷ far.rest) (front_long path other)) ∙ append_assoc path (47 ∷ far.rest) (47 ∷ rest)) ∙ under_more path (far.rest ++ 47 ∷ rest)

-- ---- moves

-- a text is behind only one
pub behind_same : (top xs ys : List ℕ) → top ++ 47 ∷ xs ≡ top ++ 47 ∷ ys → xs ≡ ys
behind_same [] xs ys e = ap (drop 1) e
behind_same (t ∷ top) xs ys e = behind_same top xs ys (ap (drop 1) e)

pub not_behind : {X : Type 0} (top xs : List ℕ) → top ≡ top ++ 47 ∷ xs → X
not_behind top xs e = let n : length top ≡ length (top ++ 47 ∷ xs) = ap length e in absurd (omega (arith, n, length-append top (47 ∷ xs)))

-- what stands behind a path isn't the path
pub apart_front : (top rest : List ℕ) → (bytes_eq top root_text ≡ true → rest ≡ [] → ⊥) → bytes_eq (front_of top ++ 47 ∷ rest) top ≡ false
apart_front top rest some = differ (front_of top ++ 47 ∷ rest) top (either (bytes_eq top root_text) refl)
  where
    either : (root : Bool) → bytes_eq top root_text ≡ root → (if root then [] else top) ++ 47 ∷ rest ≡ top → ⊥
    either true e same = some e (ap (drop 1) (same ∙ same_from top root_text e))
    either false e same = not_behind top rest (sym same)

pub drop_front : (xs ys : List ℕ) → drop (length xs) (xs ++ ys) ≡ ys
drop_front [] ys = refl
drop_front (x ∷ xs) ys = drop_front xs ys

-- where a copy puts what stands behind its source
pub moved_behind : (source path rest : List ℕ) → bytes_eq (front_of source ++ 47 ∷ rest) source ≡ false → moved source path (front_of source ++ 47 ∷ rest) ≡ path ++ 47 ∷ rest
moved_behind source path rest apart =
    ap (λ b. if b then path else path ++ past source (front_of source ++ 47 ∷ rest)) apart
    ∙ ap (λ more. path ++ more) (either (bytes_eq source root_text))
  where
    either : (root : Bool) → (if root then (if root then [] else source) ++ 47 ∷ rest else drop (length source) ((if root then [] else source) ++ 47 ∷ rest)) ≡ 47 ∷ rest
    either true = refl
    either false = drop_front source (47 ∷ rest)

pub moved_source : (source path : List ℕ) → moved source path source ≡ path
moved_source source path = ap (λ b. if b then path else path ++ past source source) (equal_itself source)
