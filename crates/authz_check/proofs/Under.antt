-- What is known at a path and at each section under it is known at every path under it.
use Rattle.std.proofs.Common.{◌≡◌, ℕ, zero, suc, ◌<◌, Bool, true, false, cond, List, [], ◌∷◌, ◌++◌, length, drop, Option, None, Some, refl, sym, ap, ◌∙◌, inl, inr, arith, append_assoc}
use Rattle.std.specs.Prelude.{◌||◌, ◌⊎◌, if◌then◌else◌, nat_eq, IsTrue}
use Rattle.std.specs.List.{list_any, starts_with}
use Rattle.std.specs.Option.{option_eq, option_or}
use Rattle.std.specs.Str.{bytes_eq}
use Rattle.std.proofs.lemmas.Bool.Decides.{Decides-eqb}
use Rattle.std.proofs.lemmas.Slice.Eq.{bytes_eq-Decides, starts_is}
use Rattle.dsv_base.specs.Paths.{is_path, is_slash, is_under, root_text, before_last_slash, or_root, parent_text}
use Rattle.authz_file.specs.declared.right.Right.{Right}
use Rattle.authz_file.specs.declared.rule.Rule.{Rule}
use Rattle.authz_check.specs.Access.{access, right_at, right_in, section_rules, is_in_section}
use Rattle.authz_check.specs.Everywhere.{speaks_of, tested, everywhere, HoldsUnder}
use Rattle.authz_check.proofs.AccessWalk.{IsRooted, parent_below, along-parent, rooted_path, root_from}
use Rattle.authz_check.proofs.Bools.{or-true, and-first, and-second}
use Rattle.authz_check.proofs.SectionsBelow.{all_pass, first_passes, others_pass}

-- what stands before the last slash of a text and a slash and more
slash_within : (xs rest : List ℕ) → list_any is_slash (xs ++ 47 ∷ rest) ≡ true
slash_within [] rest = refl
slash_within (x ∷ xs) rest = ap (λ b. is_slash x || b) (slash_within xs rest) ∙ or-true (is_slash x)

cut_below : (xs rest : List ℕ) → before_last_slash (xs ++ 47 ∷ rest) ≡ (if list_any is_slash rest then xs ++ 47 ∷ before_last_slash rest else xs)
cut_below [] rest = refl
cut_below (x ∷ xs) rest =
    ap (λ b. if b then x ∷ before_last_slash (xs ++ 47 ∷ rest) else []) (slash_within xs rest)
    ∙ ap (λ front. x ∷ front) (cut_below xs rest)
    ∙ inside (list_any is_slash rest)
  where
    inside : (b : Bool) → x ∷ (if b then xs ++ 47 ∷ before_last_slash rest else xs) ≡ (if b then (x ∷ xs) ++ 47 ∷ before_last_slash rest else x ∷ xs)
    inside true = refl
    inside false = refl

under_itself : (p : List ℕ) → is_under p p ≡ true
unfolding is_under
under_itself p = ap (λ b. (b || bytes_eq p root_text) || starts_with nat_eq p (p ++ 47 ∷ [])) ((bytes_eq-Decides p p).1 refl)

under_root : (p : List ℕ) → is_under p (47 ∷ []) ≡ true
unfolding is_under
under_root p = ap (λ b. b || starts_with nat_eq p (47 ∷ 47 ∷ [])) (or-true (bytes_eq p (47 ∷ [])))

under_more : (top rest : List ℕ) → is_under (top ++ 47 ∷ rest) top ≡ true
unfolding is_under
under_more top rest =
    let p : List ℕ = top ++ 47 ∷ rest in
    let begins : starts_with nat_eq p (top ++ 47 ∷ []) ≡ true = (starts_is Decides-eqb p (top ++ 47 ∷ []) (starts_with nat_eq p (top ++ 47 ∷ [])) refl).1 rest (sym (append_assoc top (47 ∷ []) rest)) in
    ap (λ b. (bytes_eq p top || bytes_eq top root_text) || b) begins ∙ or-true (bytes_eq p top || bytes_eq top root_text)

-- the path is the upper one, or that is `/`, or it begins with it and a slash
pub record GoesOn (p top : List ℕ) : Type 0 where
  pub rest : List ℕ
  pub is : p ≡ top ++ 47 ∷ rest

pub ways : (p top : List ℕ) → is_under p top ≡ true → bytes_eq p top ≡ false → (top ≡ 47 ∷ []) ⊎ GoesOn p top
unfolding is_under
ways p top under other = pick (bytes_eq top root_text) (starts_with nat_eq p (top ++ 47 ∷ [])) refl refl (sym (ap (λ b. (b || bytes_eq top root_text) || starts_with nat_eq p (top ++ 47 ∷ [])) other) ∙ under)
  where
    pick : (root begins : Bool) → bytes_eq top root_text ≡ root → starts_with nat_eq p (top ++ 47 ∷ []) ≡ begins → (root || begins) ≡ true → (top ≡ 47 ∷ []) ⊎ GoesOn p top
    pick true begins h k some = inl ((bytes_eq-Decides top root_text).0 h)
    pick false true h k some =
        let split = (starts_is Decides-eqb p (top ++ 47 ∷ []) (starts_with nat_eq p (top ++ 47 ∷ [])) refl).0 k in
        let rest = drop (length (top ++ 47 ∷ [])) p in
        inr (record { rest = rest; is = split ∙ append_assoc top (47 ∷ []) rest })
    pick false false h k some = absurd (cc some)

parent_is : (p q : List ℕ) → parent_text p ≡ Some q → q ≡ or_root (before_last_slash p)
unfolding parent_text
parent_is p q h = pick (bytes_eq p root_text) h
  where
    pick : (b : Bool) → (if b then None else Some (or_root (before_last_slash p))) ≡ Some q → q ≡ or_root (before_last_slash p)
    pick true k = absurd (cc k)
    pick false k = cc

-- the parent of a path under another is under it too, unless the path is the other
pub under_parent : (p q top : List ℕ) → IsRooted top → is_under p top ≡ true → bytes_eq p top ≡ false → parent_text p ≡ Some q → is_under q top ≡ true
under_parent p q top rooted under other up = way (ways p top under other)
  where
    some_more : (t rest : List ℕ) → IsRooted t → or_root (t ++ 47 ∷ rest) ≡ t ++ 47 ∷ rest
    some_more t rest r = rw r.is refl

    itself : (t : List ℕ) → IsRooted t → or_root t ≡ t
    itself t r = rw r.is refl

    pick : (b : Bool) (rest : List ℕ) → is_under (or_root (if b then top ++ 47 ∷ rest else top)) top ≡ true
    pick true rest = ap (λ t. is_under t top) (some_more top rest rooted) ∙ under_more top rest
    pick false rest = ap (λ t. is_under t top) (itself top rooted) ∙ under_itself top

    way : (top ≡ 47 ∷ []) ⊎ GoesOn p top → is_under q top ≡ true
    way (inl root) = ap (is_under q) root ∙ under_root q
    way (inr more) =
        let cut : q ≡ or_root (if list_any is_slash more.rest then top ++ 47 ∷ before_last_slash more.rest else top) =
        parent_is p q up ∙ ap (λ t. or_root (before_last_slash t)) more.is ∙ ap or_root (cut_below top more.rest) in
        ap (λ t. is_under t top) cut ∙ pick (list_any is_slash more.rest) (before_last_slash more.rest)

root_is_it : (rest : List ℕ) → is_under (47 ∷ []) (47 ∷ rest) ≡ true → bytes_eq (47 ∷ []) (47 ∷ rest) ≡ true
unfolding is_under
root_is_it [] h = refl
root_is_it (c ∷ cs) h = h

module _ (holds : Right → Bool) (rules : List Rule) (name : List ℕ) (user : Option (List ℕ)) (top : List ℕ) where
  abbrev test : List ℕ → Bool
  test = tested holds rules name user

  -- a path under the upper one passes, or no rule of the section has this path
  empty_or_passes : (repos : Option (List ℕ)) → ((r : Rule) → option_eq bytes_eq r.repos repos ≡ true → speaks_of name r ≡ true) → (some : List Rule) → all_pass test name top some ≡ true → (p : List ℕ) → is_under p top ≡ true → (test p ≡ true) ⊎ (section_rules some repos p ≡ [])
  empty_or_passes repos speaks [] pass p under = inr refl
  empty_or_passes repos speaks (r ∷ rs) pass p under = pick (is_in_section repos p r) refl (empty_or_passes repos speaks rs (others_pass test name top r rs pass) p under)
    where
      pick : (b : Bool) → is_in_section repos p r ≡ b → (test p ≡ true) ⊎ (section_rules rs repos p ≡ []) → (test p ≡ true) ⊎ (cond b (r ∷ section_rules rs repos p) (section_rules rs repos p) ≡ [])
      pick true member others =
          let same : option_eq bytes_eq r.repos repos ≡ true = and-first _ _ member in
          let at : r.path ≡ p = (bytes_eq-Decides r.path p).0 (and-second _ _ member) in
          let passed : test r.path ≡ true = first_passes test name top r rs pass (speaks r same) (ap (λ q. is_under q top) at ∙ under) in
          inl (sym (ap test at) ∙ passed)
      pick false member others = others

  speaks_plain : (r : Rule) → option_eq bytes_eq r.repos None ≡ true → speaks_of name r ≡ true
  speaks_plain r h = ap (λ b. b || option_eq bytes_eq r.repos (Some name)) h

  speaks_own : (r : Rule) → option_eq bytes_eq r.repos (Some name) ≡ true → speaks_of name r ≡ true
  speaks_own r h = ap (λ b. option_eq bytes_eq r.repos None || b) h ∙ or-true (option_eq bytes_eq r.repos None)

  -- a path under the upper one passes, or no rule of it gives the user a right
  pub passes_or_nothing : all_pass test name top rules ≡ true → (p : List ℕ) → is_under p top ≡ true → (test p ≡ true) ⊎ (right_at rules name user p ≡ None)
  passes_or_nothing pass p under = both (empty_or_passes (Some name) speaks_own rules pass p under) (empty_or_passes None speaks_plain rules pass p under)
    where
      both : (test p ≡ true) ⊎ (section_rules rules (Some name) p ≡ []) → (test p ≡ true) ⊎ (section_rules rules None p ≡ []) → (test p ≡ true) ⊎ (right_at rules name user p ≡ None)
      both (inl passed) plain = inl passed
      both (inr own) (inl passed) = inl passed
      both (inr own) (inr plain) = inr (ap (λ some. option_or (right_in user some) (right_in user (section_rules rules None p))) own ∙ ap (λ some. option_or None (right_in user some)) plain)

  -- a path that no rule gives the user a right at has its parent's right
  goes_up : (p q : List ℕ) → IsRooted p → right_at rules name user p ≡ None → parent_text p ≡ Some q → access rules name user p ≡ access rules name user q
  unfolding access
  goes_up p q rooted nothing up = along-parent (right_at rules name user) p q rooted nothing up

  module _ (rooted : IsRooted top) (here : test top ≡ true) (pass : all_pass test name top rules ≡ true) where
    holds_below : (n : ℕ) (p : List ℕ) → length p < n → IsRooted p → is_under p top ≡ true → test p ≡ true
    holds_below zero p size low under = absurd (omega arith)
    holds_below (suc n) p size low under = pick (bytes_eq p top) refl (parent_text p) refl (λ q shorter lower below. holds_below n q (omega arith) lower below)
      where
        root_same : parent_text p ≡ None → bytes_eq p top ≡ true
        root_same none =
            let root : p ≡ 47 ∷ [] = root_from p low none in
            let there : is_under (47 ∷ []) (47 ∷ rooted.rest) ≡ true = ap (is_under (47 ∷ [])) (sym rooted.is) ∙ ap (λ q. is_under q top) (sym root) ∙ under in
            ap (λ q. bytes_eq q top) root ∙ ap (bytes_eq (47 ∷ [])) rooted.is ∙ root_is_it rooted.rest there

        above : (q : List ℕ) → parent_text p ≡ Some q → test q ≡ true → (test p ≡ true) ⊎ (right_at rules name user p ≡ None) → test p ≡ true
        above q k higher (inl passed) = passed
        above q k higher (inr nothing) = ap holds (goes_up p q low nothing k) ∙ higher

        pick : (same : Bool) → bytes_eq p top ≡ same → (up : Option (List ℕ)) → parent_text p ≡ up → ((q : List ℕ) → length q < length p → IsRooted q → is_under q top ≡ true → test q ≡ true) → test p ≡ true
        pick true h up k higher = ap test ((bytes_eq-Decides p top).0 h) ∙ here
        pick false h None k higher = absurd (cc (sym h ∙ root_same k))
        pick false h (Some q) k higher =
            let lower = parent_below p q low k in
            above q k (higher q lower.shorter lower.rooted (under_parent p q top rooted under h k)) (passes_or_nothing pass p under)

    pub holds_everywhere : (p : List ℕ) → IsRooted p → is_under p top ≡ true → test p ≡ true
    holds_everywhere p low under = holds_below (suc (length p)) p (omega arith) low under

-- the law: what holds at a path and at each section under it holds at every path under it
pub law : (holds : Right → Bool) (rules : List Rule) (name : List ℕ) (user : Option (List ℕ)) (top : List ℕ) → IsTrue (is_path top) → everywhere holds rules name user top ≡ true → HoldsUnder holds rules name user top
law holds rules name user top path all p is under =
    holds_everywhere holds rules name user top (rooted_path top path) (and-first _ _ all) (and-second _ _ all) p (rooted_path p is) under
