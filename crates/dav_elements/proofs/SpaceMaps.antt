-- Bindings that are looked up by prefix: in a map, and layer by layer.
use Rattle.std.proofs.Common.{Ordering, Less, Equal, Greater, ◌≡◌, ℕ, ◌+◌, ◌-◌, ◌<◌, ◌≤◌, Bool, true, false, cond, List, [], ◌∷◌, ◌++◌, length, drop, get_or, Option, Some, None, refl, ap, sym, ◌∙◌}
use Rattle.std.specs.BTreeMap.{BTreeMap, insert_entry}
use Rattle.std.specs.Cmp.Lexicographic.{slice_cmp}
use Rattle.std.specs.List.{flat_map}
use Rattle.std.specs.Map.{lookup}
use Rattle.std.specs.Ordering.{match_ordering, nat_cmp, is_eq}
use Rattle.std.specs.Str.{bytes_eq}
use Rattle.std.proofs.lemmas.Cmp.{tied_itself, nat_list_cmp_total}
use Rattle.std.proofs.lemmas.List.{at_drop_more}
use Rattle.std.proofs.lemmas.Map.Lookups.{exact_bytes}
use Rattle.std.proofs.lemmas.Map.Text.{is_eq-slice_cmp}
use Rattle.dav_elements.specs.declared.bound.Bound.{Bound}
use Rattle.dav_elements.specs.Names.{first_space}
use Rattle.dav_elements.specs.Layers.{FindsSpaces}
use Rattle.dav_elements.proofs.Seen.{item_front}

equal_from : (o : Ordering) → is_eq o ≡ true → o ≡ Equal
equal_from Less h = cc
equal_from Equal h = refl
equal_from Greater h = cc

-- no text is equal to two that differ
apart : (x y : List ℕ) → slice_cmp nat_cmp x y ≡ Greater → (q : List ℕ) → is_eq (slice_cmp nat_cmp q x) ≡ true → is_eq (slice_cmp nat_cmp q y) ≡ true → ⊥
apart x y h q a b =
    let e : q ≡ x = exact_bytes q x (equal_from (slice_cmp nat_cmp q x) a) in
    let f : q ≡ y = exact_bytes q y (equal_from (slice_cmp nat_cmp q y) b) in
    let same : slice_cmp nat_cmp x y ≡ slice_cmp nat_cmp q q = ap (λ t. slice_cmp nat_cmp t y) (sym e) ∙ ap (λ t. slice_cmp nat_cmp q t) (sym f) in
    let tied : slice_cmp nat_cmp q q ≡ Equal = tied_itself nat_list_cmp_total q in
    cc

twice : {V : Type 0} (b : Bool) (x y l : Option V) → cond b x l ≡ cond b x (cond b y l)
twice true x y l = refl
twice false x y l = refl

turned : {V : Type 0} (a b : Bool) (x y l : Option V) → (a ≡ true → b ≡ true → ⊥) → cond a x (cond b y l) ≡ cond b y (cond a x l)
turned true true x y l h = absurd (h refl refl)
turned true false x y l h = refl
turned false true x y l h = refl
turned false false x y l h = refl

abbrev key_order : {K : Type 0} → (K → List ℕ) → K → K → Ordering
key_order text x y = slice_cmp nat_cmp (text x) (text y)

abbrev is_key : {K : Type 0} → (K → List ℕ) → List ℕ → K → Bool
is_key text q k = is_eq (slice_cmp nat_cmp q (text k))

-- what stands at a text, after an insert
module _ {K V : Type 0} (text : K → List ℕ) where
  lookup-put : (q : List ℕ) (key : K) (v : V) (es : List (K × V)) → lookup (is_key text q) (insert_entry (key_order text) es key v) ≡ cond (is_key text q key) (Some v) (lookup (is_key text q) es)
  lookup-put q key v [] = refl
  lookup-put q key v (e ∷ es) = either (key_order text key e.0) refl (lookup-put q key v es)
    where
      either : (o : Ordering) → key_order text key e.0 ≡ o → lookup (is_key text q) (insert_entry (key_order text) es key v) ≡ cond (is_key text q key) (Some v) (lookup (is_key text q) es)
          → lookup (is_key text q) (match_ordering o ((key, v) ∷ e ∷ es) ((e.0, v) ∷ es) (e ∷ insert_entry (key_order text) es key v)) ≡ cond (is_key text q key) (Some v) (cond (is_key text q e.0) (Some e.1) (lookup (is_key text q) es))
      either Less h rest = refl
      either Equal h rest =
          let same : is_key text q e.0 ≡ is_key text q key = ap (λ t. is_eq (slice_cmp nat_cmp q t)) (sym (exact_bytes (text key) (text e.0) h)) in
          twice (is_key text q e.0) (Some v) (Some e.1) (lookup (is_key text q) es) ∙ ap (λ b. cond b (Some v) (cond (is_key text q e.0) (Some e.1) (lookup (is_key text q) es))) same
      either Greater h rest = ap (cond (is_key text q e.0) (Some e.1)) rest ∙ turned (is_key text q e.0) (is_key text q key) (Some e.1) (Some v) (lookup (is_key text q) es) (λ a b. apart (text key) (text e.0) h q b a)

-- the bindings from here on are found, and so with the one before them
pub spaces_more : {K : Type 0} (text : K → List ℕ) (map more : BTreeMap K (List ℕ)) (bounds : List Bound) (left : ℕ) (bound : Bound) (key : K) (space : List ℕ)
    → more.entries ≡ insert_entry (λ x y. slice_cmp nat_cmp (text x) (text y)) map.entries key space → text key ≡ bound.prefix → space ≡ bound.space
    → 0 < left → left ≤ length bounds → bound ≡ get_or bounds (left - 1) bound → FindsSpaces map text (drop left bounds) → FindsSpaces more text (drop (left - 1) bounds)
spaces_more text map more bounds left bound key space m e f h w is finds = λ q.
    ap (lookup (λ k. is_eq (slice_cmp nat_cmp q (text k)))) m ∙ lookup-put text q key space map.entries
    ∙ (λ i. cond (is_eq-slice_cmp q (text key) i) (Some space) (finds q i))
    ∙ (λ i. cond (bytes_eq q (e i)) (Some (f i)) (first_space (drop left bounds) q))
    ∙ ap (λ l. first_space l q) (sym (item_front bounds left bound h w is))

-- layer by layer
pub found_front : (xs ys : List Bound) (prefix space : List ℕ) → first_space xs prefix ≡ Some space → first_space (xs ++ ys) prefix ≡ Some space
found_front [] ys prefix space h = absurd (cc)
found_front (x ∷ xs) ys prefix space h = either (bytes_eq prefix x.prefix) h (found_front xs ys prefix space)
  where
    either : (b : Bool) → cond b (Some x.space) (first_space xs prefix) ≡ Some space → (first_space xs prefix ≡ Some space → first_space (xs ++ ys) prefix ≡ Some space) → cond b (Some x.space) (first_space (xs ++ ys) prefix) ≡ Some space
    either true h rest = h
    either false h rest = rest h

pub absent_front : (xs ys : List Bound) (prefix : List ℕ) → first_space xs prefix ≡ None → first_space (xs ++ ys) prefix ≡ first_space ys prefix
absent_front [] ys prefix h = refl
absent_front (x ∷ xs) ys prefix h = either (bytes_eq prefix x.prefix) h (absent_front xs ys prefix)
  where
    either : (b : Bool) → cond b (Some x.space) (first_space xs prefix) ≡ None → (first_space xs prefix ≡ None → first_space (xs ++ ys) prefix ≡ first_space ys prefix) → cond b (Some x.space) (first_space (xs ++ ys) prefix) ≡ first_space ys prefix
    either true h rest = absurd (cc)
    either false h rest = rest h

layer_front : {X : Type 0} (f : X → List Bound) (layers : List X) (i : ℕ) (layer : X) → i < length layers → layer ≡ get_or layers i layer → flat_map f (drop i layers) ≡ f layer ++ flat_map f (drop (i + 1) layers)
layer_front f layers i layer h is = at_drop_more (flat_map f) layers i layer h ∙ ap (λ y. f y ++ flat_map f (drop (i + 1) layers)) (sym is)

pub found_here : {X : Type 0} (f : X → List Bound) (layers : List X) (i : ℕ) (layer : X) (prefix space : List ℕ) (found all : Option (List ℕ)) → i < length layers → layer ≡ get_or layers i layer → found ≡ first_space (f layer) prefix → found ≡ Some space
    → first_space (flat_map f (drop i layers)) prefix ≡ all → Some space ≡ all
found_here f layers i layer prefix space found all h is e s rest =
    sym (found_front (f layer) (flat_map f (drop (i + 1) layers)) prefix space (sym e ∙ s)) ∙ ap (λ l. first_space l prefix) (sym (layer_front f layers i layer h is)) ∙ rest

pub absent_here : {X : Type 0} (f : X → List Bound) (layers : List X) (i : ℕ) (layer : X) (prefix : List ℕ) (found all : Option (List ℕ)) → i < length layers → layer ≡ get_or layers i layer → found ≡ first_space (f layer) prefix → found ≡ None
    → first_space (flat_map f (drop i layers)) prefix ≡ all → first_space (flat_map f (drop (i + 1) layers)) prefix ≡ all
absent_here f layers i layer prefix found all h is e n rest =
    sym (absent_front (f layer) (flat_map f (drop (i + 1) layers)) prefix (sym e ∙ n)) ∙ ap (λ l. first_space l prefix) (sym (layer_front f layers i layer h is)) ∙ rest
