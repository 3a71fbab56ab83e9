-- Maps whose keys are read as texts: what stands at a text after an insert.
use Rattle.std.proofs.Common.{Ordering, Less, Equal, Greater, ◌≡◌, ℕ, Bool, true, false, cond, List, [], ◌∷◌, Option, Some, refl, ap, sym, ◌∙◌}
use Rattle.std.specs.BTreeMap.{insert_entry}
use Rattle.std.specs.Cmp.Lexicographic.{slice_cmp}
use Rattle.std.specs.Map.{lookup}
use Rattle.std.specs.Ordering.{match_ordering, nat_cmp, is_eq}
use Rattle.std.proofs.lemmas.Cmp.{tied_itself, nat_list_cmp_total}
use Rattle.std.proofs.lemmas.Map.Lookups.{exact_bytes}

equal_from : (o : Ordering) → is_eq o ≡ true → o ≡ Equal
equal_from Less h = cc
equal_from Equal h = refl
equal_from Greater h = cc

-- no text is equal to two that differ
apart : (x y : List ℕ) → slice_cmp nat_cmp x y ≡ Greater → (q : List ℕ) → is_eq (slice_cmp nat_cmp q x) ≡ true → is_eq (slice_cmp nat_cmp q y) ≡ true → ⊥
apart x y h q a b =
    let e : q ≡ x = exact_bytes q x (equal_from (slice_cmp nat_cmp q x) a) in
    let f : q ≡ y = exact_bytes q y (equal_from (slice_cmp nat_cmp q y) b) in
    let same : slice_cmp nat_cmp x y ≡ slice_cmp nat_cmp q q = ap (λ t. slice_cmp nat_cmp t y) (sym e) ∙ ap (λ t. slice_cmp nat_cmp q t) (sym f) in
    let tied : slice_cmp nat_cmp q q ≡ Equal = tied_itself nat_list_cmp_total q in
    cc

twice : (b : Bool) (x y l : Option ℕ) → cond b x l ≡ cond b x (cond b y l)
twice true x y l = refl
twice false x y l = refl

turned : (a b : Bool) (x y l : Option ℕ) → (a ≡ true → b ≡ true → ⊥) → cond a x (cond b y l) ≡ cond b y (cond a x l)
turned true true x y l h = absurd (h refl refl)
turned true false x y l h = refl
turned false true x y l h = refl
turned false false x y l h = refl

-- the value at a text, after an insert
module _ {K : Type 0} (text : K → List ℕ) where
  abbrev pub order : K → K → Ordering
  order x y = slice_cmp nat_cmp (text x) (text y)

  abbrev pub at : List ℕ → K → Bool
  at q k = is_eq (slice_cmp nat_cmp q (text k))

  pub lookup-inserted : (q : List ℕ) (key : K) (v : ℕ) (es : List (K × ℕ)) → lookup (at q) (insert_entry order es key v) ≡ cond (at q key) (Some v) (lookup (at q) es)
  lookup-inserted q key v [] = refl
  lookup-inserted q key v (e ∷ es) = either (order key e.0) refl (lookup-inserted q key v es)
    where
      either : (o : Ordering) → order key e.0 ≡ o → lookup (at q) (insert_entry order es key v) ≡ cond (at q key) (Some v) (lookup (at q) es)
          → lookup (at q) (match_ordering o ((key, v) ∷ e ∷ es) ((e.0, v) ∷ es) (e ∷ insert_entry order es key v)) ≡ cond (at q key) (Some v) (cond (at q e.0) (Some e.1) (lookup (at q) es))
      either Less h rest = refl
      either Equal h rest =
          let same : at q e.0 ≡ at q key = ap (λ t. is_eq (slice_cmp nat_cmp q t)) (sym (exact_bytes (text key) (text e.0) h)) in
          twice (at q e.0) (Some v) (Some e.1) (lookup (at q) es) ∙ ap (λ b. cond b (Some v) (cond (at q e.0) (Some e.1) (lookup (at q) es))) same
      either Greater h rest = ap (cond (at q e.0) (Some e.1)) rest ∙ turned (at q e.0) (at q key) (Some e.1) (Some v) (lookup (at q) es) (λ a b. apart (text key) (text e.0) h q b a)
