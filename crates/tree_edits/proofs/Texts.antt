-- Texts of paths on ways from the root down.
use Rattle.std.proofs.Common.{◌≡◌, ℕ, ◌-◌, ◌<◌, ◌≤◌, Bool, true, false, List, [], ◌∷◌, ◌++◌, None, Some, length, take, nat_eq, refl, sym, ap, subst, ◌∙◌, arith, append_assoc, length-append}
use Rattle.std.specs.Prelude.{if◌then◌else◌}
use Rattle.std.specs.Str.{bytes_eq}
use Rattle.std.proofs.lemmas.Bool.{and_parts, and_from}
use Rattle.dsv_base.specs.Paths.{is_path, is_component, components, root_text, parent_text, front_of, or_root, before_last_slash, join_text}
use Rattle.dsv_base.proofs.Joins.{component_slash, component_some, before_last}
use Rattle.rev_nodes.proofs.Below.{same_from, differ}
use Rattle.rev_nodes.specs.Subtrees.{path_below}
use Rattle.node_table.specs.Ways.{Name, are_names, names_in}
use Rattle.node_table.proofs.Ways.{path_at-more, names-append, join-front, some_text, not_root, front-join}
use Rattle.node_table.proofs.Fronts.{joined, path-joined, names-back}
use Rattle.node_table.proofs.PathNames.{names_of_path, split_some, joined-split}
use Rattle.tree_edits.specs.Rests.{IsRest}
use Rattle.tree_edits.proofs.Lists.{is_same, not_same}
use Rattle.tree_edits.proofs.Short.{size-append, path-size, is_path_from}

-- ---- names

pub record HasEnd (x : Name) (xs : List Name) : Type 0 where
  pub front : List Name
  pub last : Name
  pub is : x ∷ xs ≡ front ++ last ∷ []

pub ends : (x : Name) (xs : List Name) → HasEnd x xs
ends x [] = record { front = []; last = x; is = refl }
ends x (y ∷ ys) = let e = ends y ys in record { front = x ∷ e.front; last = e.last; is = ap (λ zs. x ∷ zs) e.is }

pub front_named : (ms ns : List Name) → are_names (ms ++ ns) ≡ true → are_names ms ≡ true
front_named [] ns h = refl
front_named (m ∷ ms) ns h = let p = and_parts (is_component m) (are_names (ms ++ ns)) h in and_from (is_component m) (are_names ms) p.0 (front_named ms ns p.1)

pub parts_of : (ms : List Name) (n : Name) → are_names (ms ++ n ∷ []) ≡ true → (are_names ms ≡ true) × (is_component n ≡ true)
parts_of [] n h = (refl, (and_parts (is_component n) true h).0)
parts_of (m ∷ ms) n h = let p = and_parts (is_component m) (are_names (ms ++ n ∷ [])) h in let q = parts_of ms n p.1 in (and_from _ _ p.0 q.0, q.1)

pub names_more : (ds : List Name) (n : Name) → are_names ds ≡ true → is_component n ≡ true → are_names (ds ++ n ∷ []) ≡ true
names_more ds n h k = names-append ds (n ∷ []) h (and_from (is_component n) true k refl)

-- ---- parents

filled : (xs ys : List ℕ) → or_root (xs ++ 47 ∷ ys) ≡ xs ++ 47 ∷ ys
filled [] ys = refl
filled (x ∷ xs) ys = refl

pub not_joined : (p : List ℕ) (n : Name) → is_component n ≡ true → bytes_eq (join_text p n) root_text ≡ false
not_joined p n h = differ (join_text p n) root_text (λ e. not_root (front_of p) n (some_text n (component_some n h)) (sym (join-front p n) ∙ e))

root_front : (ms : List Name) → are_names ms ≡ true → or_root (front_of (path_below root_text ms)) ≡ path_below root_text ms
root_front [] h = refl
root_front (m ∷ ms) h =
    let e = ends m ms in
    let p = parts_of e.front e.last (ap are_names (sym e.is) ∙ h) in
    let at_end : path_below root_text (m ∷ ms) ≡ join_text (path_below root_text e.front) e.last = ap (path_below root_text) e.is ∙ path_at-more root_text e.front e.last in
    ap (λ t. or_root (front_of t)) at_end
    ∙ ap or_root (front-join (path_below root_text e.front) e.last p.1)
    ∙ ap or_root (join-front (path_below root_text e.front) e.last) ∙ filled (front_of (path_below root_text e.front)) e.last ∙ sym (join-front (path_below root_text e.front) e.last)
    ∙ sym at_end

pub parent_at : (ms : List Name) (n : Name) → are_names ms ≡ true → is_component n ≡ true → parent_text (join_text (path_below root_text ms) n) ≡ Some (path_below root_text ms)
unfolding parent_text
parent_at ms n h k =
    ap (λ b. if b then None else Some (or_root (before_last_slash (join_text (path_below root_text ms) n)))) (not_joined (path_below root_text ms) n k)
    ∙ ap (λ t. Some (or_root t)) (ap before_last_slash (join-front (path_below root_text ms) n) ∙ before_last (front_of (path_below root_text ms)) n (component_slash n k))
    ∙ ap Some (root_front ms h)

pub parent_root : parent_text root_text ≡ None
unfolding parent_text
parent_root = refl

-- ---- lengths

some_length : (n : List ℕ) → nat_eq (length n) 0 ≡ false → 0 < length n
some_length [] h = absurd (cc)
some_length (b ∷ bs) h = omega arith

pub longer-join : (q n : List ℕ) → is_component n ≡ true → length q < length (join_text q n)
longer-join q n h = subst (λ t. length q < length t) (sym (join-front q n)) (either (bytes_eq q root_text) refl (some_length n (component_some n h)))
  where
    either : (b : Bool) → bytes_eq q root_text ≡ b → 0 < length n → length q < length ((if b then [] else q) ++ 47 ∷ n)
    either true e some = let l : length q ≡ 1 = ap length (same_from q root_text e) in omega (arith, l, some)
    either false e some = let l = length-append q (47 ∷ n) in omega (arith, l, some)

pub shorter_apart : (p q : List ℕ) → length p < length q → is_same p q ≡ false
shorter_apart p q less = not_same p q (λ e. let l = ap length e in absurd (omega (arith, l, less)))

pub longer_apart : (p q : List ℕ) → length q < length p → is_same p q ≡ false
longer_apart p q less = not_same p q (λ e. let l = ap length e in absurd (omega (arith, l, less)))

-- ---- the paths on a way to a path are paths

pub front_is_path : (ms ns : List Name) → are_names ms ≡ true → are_names ns ≡ true → is_path (path_below root_text (ms ++ ns)) ≡ true → is_path (path_below root_text ms) ≡ true
unfolding is_path
front_is_path [] ns h k one = refl
front_is_path (m ∷ ms) ns h k one =
    let n = names_of_path (path_below root_text ((m ∷ ms) ++ ns)) one in
    let both = names-append (m ∷ ms) ns h k in
    let few : length ((m ∷ ms) ++ ns) ≤ 64 = subst (λ ws. length ws ≤ 64) (names-back ((m ∷ ms) ++ ns) both) n.few in
    let short = n.short in
    let whole = path-size m (ms ++ ns) both in
    let s = size-append (m ∷ ms) ns in
    let l = length-append (m ∷ ms) ns in
    is_path_from m ms h (omega (arith, few, l)) (omega (arith, short, whole, s))

-- ---- the texts as the code cuts them

pub last_path : (text path rest : List ℕ) → IsRest text path rest → join_text path rest ≡ text
last_path text path rest r = join-front path rest ∙ sym r.is

-- the first name and what stands after it
pub split_rest : (rest name after : List ℕ) → components rest ≡ name ∷ components after → rest ≡ name ++ 47 ∷ after
split_rest rest name after cut =
    let s = split_some after in
    sym (joined-split rest) ∙ ap joined cut ∙ ap (λ c. joined (name ∷ c)) s.is ∙ ap (λ t. name ++ 47 ∷ t) (ap joined (sym s.is) ∙ joined-split after)

take_all_front : (xs ys : List ℕ) → take (length xs) (xs ++ ys) ≡ xs
take_all_front [] ys = refl
take_all_front (x ∷ xs) ys = ap (λ t. x ∷ t) (take_all_front xs ys)

module _ (text path rest name after : List ℕ) (r : IsRest text path rest) (cut : components rest ≡ name ∷ components after) where
  text_is : text ≡ join_text path name ++ 47 ∷ after
  text_is = r.is ∙ ap (λ t. front_of path ++ 47 ∷ t) (split_rest rest name after cut) ∙ sym (append_assoc (front_of path) (47 ∷ name) (47 ∷ after)) ∙ ap (λ t. t ++ 47 ∷ after) (sym (join-front path name))

  pub next_path : (count : ℕ) → count ≡ length text - length after - 1 → take count text ≡ join_text path name
  next_path count is =
      let l = ap length text_is in
      let s = length-append (join_text path name) (47 ∷ after) in
      let n : count ≡ length (join_text path name) = omega (arith, is, l, s) in
      ap (λ k. take k text) n ∙ ap (take (length (join_text path name))) text_is ∙ take_all_front (join_text path name) (47 ∷ after)

  pub next_within : length after < length text
  next_within = let l = ap length text_is in let s = length-append (join_text path name) (47 ∷ after) in omega (arith, l, s)

  pub next_rest : is_component name ≡ true → IsRest text (join_text path name) after
  next_rest one = record { is = text_is ∙ ap (λ t. t ++ 47 ∷ after) (sym (front-join path name one)) }

pub root_rest : (text rest : List ℕ) → is_path text ≡ true → names_in text ≡ components rest → IsRest text root_text rest
root_rest text rest one is = record { is = sym (names_of_path text one).path ∙ at_root }
  where
    at_root : path_below root_text (names_in text) ≡ 47 ∷ rest
    at_root = let s = split_some rest in ap (path_below root_text) (is ∙ s.is) ∙ path-joined root_text s.first s.rest (sym (ap are_names (is ∙ s.is)) ∙ (names_of_path text one).names) ∙ ap (λ ns. 47 ∷ joined ns) (sym s.is) ∙ ap (λ t. 47 ∷ t) (joined-split rest)
