-- Each path under another is that with names behind it.
use Rattle.std.proofs.Common.{◌≡◌, ℕ, zero, suc, ◌<◌, Bool, true, false, List, [], ◌∷◌, ◌++◌, Some, length, nat_eq, refl, sym, ap, subst, ◌∙◌, arith, append_assoc, length-append}
use Rattle.std.specs.Prelude.{if◌then◌else◌}
use Rattle.std.specs.List.{list_any}
use Rattle.std.specs.Str.{bytes_eq}
use Rattle.std.proofs.lemmas.Bool.{and_parts, and_from}
use Rattle.dsv_base.specs.Paths.{is_path, is_component, is_slash, is_under, root_text, before_last_slash, parent_text, name_of, front_of, join_text}
use Rattle.dsv_base.proofs.Joins.{component_some, parent_is_path, join_parent, name_is_component}
use Rattle.rev_nodes.proofs.Below.{same_from, differ, long, up, under_itself, under_front, behind, IsBehind, root_not_under}
use Rattle.rev_nodes.specs.Subtrees.{path_below}
use Rattle.node_table.specs.Ways.{Name, are_names}

pub path_at-more : (path : List ℕ) (ns : List Name) (n : Name) → path_below path (ns ++ n ∷ []) ≡ join_text (path_below path ns) n
path_at-more path [] n = refl
path_at-more path (m ∷ ms) n = path_at-more (join_text path m) ms n

pub path_at-append : (path : List ℕ) (ms ns : List Name) → path_below path (ms ++ ns) ≡ path_below (path_below path ms) ns
path_at-append path [] ns = refl
path_at-append path (m ∷ ms) ns = path_at-append (join_text path m) ms ns

pub names-append : (ms ns : List Name) → are_names ms ≡ true → are_names ns ≡ true → are_names (ms ++ ns) ≡ true
names-append [] ns h k = k
names-append (m ∷ ms) ns h k = let p = and_parts (is_component m) (are_names ms) h in and_from _ _ p.0 (names-append ms ns p.1 k)

pub join-front : (path n : List ℕ) → join_text path n ≡ front_of path ++ 47 ∷ n
unfolding join_text
join-front path n = refl

pub some_text : (n : Name) → nat_eq (length n) 0 ≡ false → n ≡ [] → ⊥
some_text [] h e = cc
some_text (b ∷ bs) h e = cc

pub not_root : (front n : List ℕ) → (n ≡ [] → ⊥) → front ++ 47 ∷ n ≡ root_text → ⊥
not_root [] [] some e = some refl
not_root [] (b ∷ bs) some e = cc
not_root (f ∷ []) n some e = cc
not_root (f ∷ g ∷ gs) n some e = cc

pub front-join : (path n : List ℕ) → is_component n ≡ true → front_of (join_text path n) ≡ join_text path n
front-join path n h = ap (λ b. if b then [] else join_text path n) (differ (join_text path n) root_text (λ e. not_root (front_of path) n (some_text n (component_some n h)) (sym (join-front path n) ∙ e)))

names_behind : (path : List ℕ) (n : Name) (ns : List Name) → are_names (n ∷ ns) ≡ true → IsBehind path (path_below path (n ∷ ns))
names_behind path n [] h = record { rest = n; is = join-front path n }
names_behind path n (m ∷ ms) h =
    let p = and_parts (is_component n) (are_names (m ∷ ms)) h in
    let more = names_behind (join_text path n) m ms p.1 in
    record { rest = n ++ 47 ∷ more.rest; is = more.is ∙ ap (λ f. f ++ 47 ∷ more.rest) (front-join path n p.0 ∙ join-front path n) ∙ append_assoc (front_of path) (47 ∷ n) (47 ∷ more.rest) }

-- what names lead to is under the path
pub under-names : (path : List ℕ) (ns : List Name) → are_names ns ≡ true → is_under (path_below path ns) path ≡ true
under-names path [] h = under_itself path
under-names path (n ∷ ns) h = let b = names_behind path n ns h in ap (λ q. is_under q path) b.is ∙ under_front path b.rest

pub record HasWay (path p : List ℕ) : Type 0 where
  pub way : List Name
  pub names : are_names way ≡ true
  pub is : p ≡ path_below path way

module _ (path : List ℕ) (one : is_path path ≡ true) where
  pub other_root : (p : List ℕ) → is_path p ≡ true → is_under p path ≡ true → bytes_eq p path ≡ false → bytes_eq p root_text ≡ false
  other_root p p_is under other = differ p root_text (λ e. either (bytes_eq path root_text) refl e)
    where
      either : (b : Bool) → bytes_eq path root_text ≡ b → p ≡ root_text → ⊥
      either true r e = let s : bytes_eq p path ≡ true = ap (bytes_eq p) (same_from path root_text r) ∙ ap (λ t. bytes_eq t root_text) e in cc (s, other)
      either false r e = let s : is_under p path ≡ false = ap (λ t. is_under t path) e ∙ root_not_under path (long path one r) in cc (s, under)

  pub record HasParent (p : List ℕ) : Type 0 where
    pub parent : List ℕ
    pub is : parent_text p ≡ Some parent
    pub under : is_under parent path ≡ true

  pub parent_of : (p : List ℕ) → is_path p ≡ true → is_under p path ≡ true → bytes_eq p path ≡ false → HasParent p
  parent_of p p_is under other = by (list_any is_slash far.rest) (up path far.rest one (ap (λ t. bytes_eq t root_text) (sym far.is) ∙ other_root p p_is under other))
    where
      far : IsBehind path p
      far = behind p path p_is under other

      by : (b : Bool) → parent_text (front_of path ++ 47 ∷ far.rest) ≡ Some (if b then front_of path ++ 47 ∷ before_last_slash far.rest else path) → HasParent p
      by true e = record { parent = front_of path ++ 47 ∷ before_last_slash far.rest; is = ap parent_text far.is ∙ e; under = under_front path (before_last_slash far.rest) }
      by false e = record { parent = path; is = ap parent_text far.is ∙ e; under = under_itself path }

  pub shorter : (q n : List ℕ) → is_component n ≡ true → length q < length (join_text q n)
  shorter q n h = subst (λ t. length q < length t) (sym (join-front q n)) (either (bytes_eq q root_text) refl (some_length n (component_some n h)))
    where
      some_length : (n : List ℕ) → nat_eq (length n) 0 ≡ false → 0 < length n
      some_length [] h = absurd (cc)
      some_length (b ∷ bs) h = omega arith

      either : (b : Bool) → bytes_eq q root_text ≡ b → 0 < length n → length q < length ((if b then [] else q) ++ 47 ∷ n)
      either true e some = let l : length q ≡ 1 = ap length (same_from q root_text e) in omega (arith, l, some)
      either false e some = let l = length-append q (47 ∷ n) in omega (arith, l, some)

  way_up_to : (levels : ℕ) (p : List ℕ) → length p < levels → is_path p ≡ true → is_under p path ≡ true → HasWay path p
  way_up_to zero p less p_is under = absurd (omega (arith, less))
  way_up_to (suc levels) p less p_is under = by (bytes_eq p path) refl (λ q short q_is u. way_up_to levels q (omega (arith, less, short)) q_is u)
    where
      by : (b : Bool) → bytes_eq p path ≡ b → ((q : List ℕ) → length q < length p → is_path q ≡ true → is_under q path ≡ true → HasWay path q) → HasWay path p
      by true e go = record { way = []; names = refl; is = same_from p path e }
      by false e go =
          let h = parent_of p p_is under e in
          let named = name_is_component p p_is (other_root p p_is under e) in
          let joined = join_parent p h.parent p_is h.is in
          let w = go h.parent (subst (λ t. length h.parent < length t) joined (shorter h.parent (name_of p) named)) (parent_is_path p h.parent p_is h.is) h.under in
          record { way = w.way ++ name_of p ∷ []; names = names-append w.way (name_of p ∷ []) w.names (and_from _ _ named refl); is = sym joined ∙ ap (λ q. join_text q (name_of p)) w.is ∙ sym (path_at-more path w.way (name_of p)) }

  pub way_under : (p : List ℕ) → is_path p ≡ true → is_under p path ≡ true → HasWay path p
  way_under p p_is under = way_up_to (suc (length p)) p (omega arith) p_is under
