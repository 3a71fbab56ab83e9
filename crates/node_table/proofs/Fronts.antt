-- A path is under another exactly where its names begin with that one's.
use Rattle.std.proofs.Common.{◌≡◌, ℕ, Bool, true, false, ◌||◌, List, [], ◌∷◌, ◌++◌, length, drop, nat_eq, refl, sym, ap, subst, ◌∙◌, append_assoc, append-nil}
use Rattle.std.specs.List.{starts_with}
use Rattle.std.specs.Str.{bytes_eq}
use Rattle.std.proofs.lemmas.Bool.{and_parts, and_from, false_from_ne_true}
use Rattle.std.proofs.lemmas.Bool.Decides.{Decides-eqb}
use Rattle.std.proofs.lemmas.Slice.Eq.{starts_is}
use Rattle.dsv_base.specs.Paths.{is_component, is_under, root_text, components, front_of, join_text}
use Rattle.dsv_base.proofs.Joins.{component_slash, component_some, components-append, components-one}
use Rattle.rev_nodes.proofs.Below.{same_from, equal_itself, differ}
use Rattle.rev_nodes.specs.Subtrees.{path_below}
use Rattle.node_table.specs.Ways.{Name, are_names, is_front, names_in}
use Rattle.node_table.proofs.Ways.{path_at-append, join-front, front-join, under-names}

-- names, with a slash between each two
abbrev pub joined : List Name → List ℕ
joined [] = []
joined (n ∷ []) = n
joined (n ∷ m ∷ ms) = n ++ 47 ∷ joined (m ∷ ms)

pub joined-components : (n : Name) (ns : List Name) → are_names (n ∷ ns) ≡ true → components (joined (n ∷ ns)) ≡ n ∷ ns
joined-components n [] h = components-one n (component_slash n (and_parts (is_component n) true h).0)
joined-components n (m ∷ ms) h =
    let p = and_parts (is_component n) (are_names (m ∷ ms)) h in
    components-append n (joined (m ∷ ms)) ∙ ap (λ c. c ++ components (joined (m ∷ ms))) (components-one n (component_slash n p.0)) ∙ ap (λ c. n ∷ c) (joined-components m ms p.1)

pub path-joined : (path : List ℕ) (n : Name) (ns : List Name) → are_names (n ∷ ns) ≡ true → path_below path (n ∷ ns) ≡ front_of path ++ 47 ∷ joined (n ∷ ns)
path-joined path n [] h = join-front path n
path-joined path n (m ∷ ms) h =
    let p = and_parts (is_component n) (are_names (m ∷ ms)) h in
    path-joined (join_text path n) m ms p.1 ∙ ap (λ f. f ++ 47 ∷ joined (m ∷ ms)) (front-join path n p.0 ∙ join-front path n) ∙ append_assoc (front_of path) (47 ∷ n) (47 ∷ joined (m ∷ ms))

pub some-joined : (n : Name) (ns : List Name) → are_names (n ∷ ns) ≡ true → joined (n ∷ ns) ≡ [] → ⊥
some-joined [] [] h e = let p = component_some [] (and_parts (is_component []) true h).0 in cc p
some-joined (b ∷ bs) [] h e = cc e
some-joined [] (m ∷ ms) h e = cc e
some-joined (b ∷ bs) (m ∷ ms) h e = cc e

names_in-slash : (text : List ℕ) → (text ≡ [] → ⊥) → names_in (47 ∷ text) ≡ components text
names_in-slash [] some = absurd (some refl)
names_in-slash (b ∷ bs) some = refl

pub names-back : (ns : List Name) → are_names ns ≡ true → names_in (path_below root_text ns) ≡ ns
names-back [] h = refl
names-back (n ∷ ns) h = ap names_in (path-joined root_text n ns h) ∙ names_in-slash (joined (n ∷ ns)) (some-joined n ns h) ∙ joined-components n ns h

pub one-way : (ms ns : List Name) → are_names ms ≡ true → are_names ns ≡ true → path_below root_text ms ≡ path_below root_text ns → ms ≡ ns
one-way ms ns h k e = sym (names-back ms h) ∙ ap names_in e ∙ names-back ns k

pub front-append : (ms ns : List Name) → is_front ms (ms ++ ns) ≡ true
front-append [] ns = refl
front-append (m ∷ ms) ns = and_from _ _ (equal_itself m) (front-append ms ns)

pub record IsMore (ms ns : List Name) : Type 0 where
  pub more : List Name
  pub is : ns ≡ ms ++ more

pub front-more : (ms ns : List Name) → is_front ms ns ≡ true → IsMore ms ns
front-more [] ns h = record { more = ns; is = refl }
front-more (m ∷ ms) [] h = absurd (cc)
front-more (m ∷ ms) (n ∷ ns) h =
    let p = and_parts (bytes_eq n m) (is_front ms ns) h in
    let rest = front-more ms ns p.1 in
    record { more = rest.more; is = ap (λ x. x ∷ ns) (same_from n m p.0) ∙ ap (λ xs. m ∷ xs) rest.is }

names-rest : (ms ns : List Name) → are_names (ms ++ ns) ≡ true → are_names ns ≡ true
names-rest [] ns h = h
names-rest (m ∷ ms) ns h = names-rest ms ns (and_parts (is_component m) (are_names (ms ++ ns)) h).1

pub not-root : (n : Name) (ns : List Name) → are_names (n ∷ ns) ≡ true → bytes_eq (path_below root_text (n ∷ ns)) root_text ≡ false
not-root n ns h = differ _ root_text (λ e. some-joined n ns h (ap (drop 1) (sym (path-joined root_text n ns h) ∙ e)))

pub front_no : (qs ns : List Name) → are_names qs ≡ true → are_names ns ≡ true → is_under (path_below root_text ns) (path_below root_text qs) ≡ true → is_front qs ns ≡ false → ⊥
unfolding is_under
front_no [] ns h k u e = cc e
front_no (q ∷ qs) ns h k u e = pick (bytes_eq p path) (starts_with nat_eq p (path ++ 47 ∷ [])) refl refl (sym (ap (λ b. (bytes_eq p path || b) || starts_with nat_eq p (path ++ 47 ∷ [])) (not-root q qs h) ∙ or_no (bytes_eq p path) _) ∙ u)
  where
    p : List ℕ
    p = path_below root_text ns

    path : List ℕ
    path = path_below root_text (q ∷ qs)

    or_no : (a b : Bool) → ((a || false) || b) ≡ (a || b)
    or_no true b = refl
    or_no false b = refl

    against : (more : List Name) → ns ≡ (q ∷ qs) ++ more → ⊥
    against more is = let t = ap (is_front (q ∷ qs)) is ∙ front-append (q ∷ qs) more in let f : true ≡ false = sym t ∙ e in cc f

    no_text : (xs ys : List ℕ) → xs ++ 47 ∷ ys ≡ [] → ⊥
    no_text [] ys z = cc z
    no_text (x ∷ xs) ys z = cc z

    pick : (same begins : Bool) → bytes_eq p path ≡ same → starts_with nat_eq p (path ++ 47 ∷ []) ≡ begins → (same || begins) ≡ true → ⊥
    pick true begins s b some = against [] (one-way ns (q ∷ qs) k h (same_from p path s) ∙ sym (append-nil (q ∷ qs)))
    pick false true s b some =
        let split = (starts_is Decides-eqb p (path ++ 47 ∷ []) (starts_with nat_eq p (path ++ 47 ∷ [])) refl).0 b in
        let rest = drop (length (path ++ 47 ∷ [])) p in
        let text : p ≡ 47 ∷ (joined (q ∷ qs) ++ 47 ∷ rest) = split ∙ append_assoc path (47 ∷ []) rest ∙ ap (λ t. t ++ 47 ∷ rest) (path-joined root_text q qs h) in
        against (components rest) (sym (names-back ns k) ∙ ap names_in text ∙ names_in-slash (joined (q ∷ qs) ++ 47 ∷ rest) (λ z. no_text (joined (q ∷ qs)) rest z) ∙ components-append (joined (q ∷ qs)) rest ∙ ap (λ c. c ++ components rest) (joined-components q qs h))
    pick false false s b some = cc some

pub under-front : (qs ns : List Name) → are_names qs ≡ true → are_names ns ≡ true → is_under (path_below root_text ns) (path_below root_text qs) ≡ is_front qs ns
under-front qs ns h k = by (is_front qs ns) refl
  where
    yes_under : IsMore qs ns → is_under (path_below root_text ns) (path_below root_text qs) ≡ true
    yes_under m = ap (λ t. is_under t (path_below root_text qs)) (ap (path_below root_text) m.is ∙ path_at-append root_text qs m.more) ∙ under-names (path_below root_text qs) m.more (names-rest qs m.more (subst (λ xs. are_names xs ≡ true) m.is k))

    by : (b : Bool) → is_front qs ns ≡ b → is_under (path_below root_text ns) (path_below root_text qs) ≡ b
    by true e = yes_under (front-more qs ns e)
    by false e = false_from_ne_true _ (λ u. front_no qs ns h k u e)
