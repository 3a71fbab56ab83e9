-- A path is what its names lead to.
use Rattle.std.proofs.Common.{◌≡◌, ℕ, ◌≤◌, Bool, true, false, ◌||◌, List, [], ◌∷◌, length, nat_eq, nat_le, refl, sym, ap, ◌∙◌, arith}
use Rattle.std.specs.List.{onto_first, list_all}
use Rattle.std.proofs.lemmas.Bool.{and_parts, eqb-true, leb-true}
use Rattle.std.proofs.lemmas.Bool.Decides.{nat_tests}
use Rattle.std.proofs.lemmas.List.Splits.{slice_split-cons_yes, slice_split-cons_no}
use Rattle.dsv_base.specs.Paths.{is_path, is_slash, is_component, is_below_root, components, root_text}
use Rattle.rev_nodes.specs.Subtrees.{path_below}
use Rattle.node_table.specs.Ways.{Name, are_names, names_in}
use Rattle.node_table.proofs.Fronts.{joined, path-joined}

pub record IsSplit (text : List ℕ) : Type 0 where
  pub first : Name
  pub rest : List Name
  pub is : components text ≡ first ∷ rest

pub split_some : (text : List ℕ) → IsSplit text
split_some [] = record { first = []; rest = []; is = refl }
split_some (b ∷ bs) = by (is_slash b) refl (split_some bs)
  where
    by : (t : Bool) → is_slash b ≡ t → IsSplit bs → IsSplit (b ∷ bs)
    by true t s = record { first = []; rest = components bs; is = slice_split-cons_yes is_slash b bs t }
    by false t s = record { first = b ∷ s.first; rest = s.rest; is = slice_split-cons_no is_slash b bs t ∙ ap (onto_first b) s.is }

pub onto-joined : (b : ℕ) (n : Name) (ns : List Name) → joined ((b ∷ n) ∷ ns) ≡ b ∷ joined (n ∷ ns)
onto-joined b n [] = refl
onto-joined b n (m ∷ ms) = refl

slash-joined : (n : Name) (ns : List Name) → joined ([] ∷ n ∷ ns) ≡ 47 ∷ joined (n ∷ ns)
slash-joined n ns = refl

pub joined-split : (text : List ℕ) → joined (components text) ≡ text
joined-split [] = refl
joined-split (b ∷ bs) = by (is_slash b) refl (split_some bs) (joined-split bs)
  where
    by : (t : Bool) → is_slash b ≡ t → IsSplit bs → joined (components bs) ≡ bs → joined (components (b ∷ bs)) ≡ b ∷ bs
    by true t s go =
        ap joined (slice_split-cons_yes is_slash b bs t)
        ∙ ap (λ ns. joined ([] ∷ ns)) s.is ∙ slash-joined s.first s.rest ∙ ap (λ ns. 47 ∷ joined ns) (sym s.is) ∙ ap (λ r. 47 ∷ r) go
        ∙ ap (λ (c : ℕ). c ∷ bs) (sym (eqb-true b 47 t))
    by false t s go = ap joined (slice_split-cons_no is_slash b bs t) ∙ ap (λ ns. joined (onto_first b ns)) s.is ∙ onto-joined b s.first s.rest ∙ ap (λ ns. b ∷ joined ns) (sym s.is) ∙ ap (λ r. b ∷ r) go

pub record AreNamesOf (text : List ℕ) : Type 0 where
  pub names : are_names (names_in text) ≡ true
  pub path : path_below root_text (names_in text) ≡ text
  pub few : length (names_in text) ≤ 64
  pub short : length text ≤ 1024

pub names_of_path : (text : List ℕ) → is_path text ≡ true → AreNamesOf text
unfolding is_path
names_of_path [] h = absurd (cc)
names_of_path (b ∷ []) h = record { names = refl; path = ap (λ (c : ℕ). c ∷ []) (sym (eqb-true b 47 (and_parts (is_slash b) true h).0)); few = omega arith; short = omega arith }
names_of_path (b ∷ c ∷ rest) h =
    let slash : b ≡ 47 = eqb-true b 47 (and_parts (is_slash b) _ h).0 in
    let below : is_below_root (c ∷ rest) ≡ true = (and_parts (nat_le (length (c ∷ rest)) 1023) (is_below_root (c ∷ rest)) (other_way (nat_eq (length (c ∷ rest)) 0) _ (grind (arith, nat_tests)) (and_parts (is_slash b) _ h).1)).1 in
    let parts = and_parts (nat_le (length (components (c ∷ rest))) 64) (list_all is_component (components (c ∷ rest))) below in
    record {
      names = parts.1;
      path = at_names (c ∷ rest) (split_some (c ∷ rest)) parts.1 ∙ ap (λ (s : ℕ). s ∷ c ∷ rest) (sym slash);
      few = leb-true _ _ parts.0;
      short = let l = leb-true (length (c ∷ rest)) 1023 (and_parts (nat_le (length (c ∷ rest)) 1023) (is_below_root (c ∷ rest)) (other_way (nat_eq (length (c ∷ rest)) 0) _ (grind (arith, nat_tests)) (and_parts (is_slash b) _ h).1)).0 in omega (arith, l);
    }
  where
    other_way : (a b : Bool) → a ≡ false → (a || b) ≡ true → b ≡ true
    other_way a b f h = sym (ap (λ c. c || b) f) ∙ h

    at_names : (text : List ℕ) → IsSplit text → are_names (components text) ≡ true → path_below root_text (components text) ≡ 47 ∷ text
    at_names text s named = ap (path_below root_text) s.is ∙ path-joined root_text s.first s.rest (ap are_names (sym s.is) ∙ named) ∙ ap (λ ns. 47 ∷ joined ns) (sym s.is) ∙ ap (λ r. 47 ∷ r) (joined-split text)
