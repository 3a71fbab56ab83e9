-- The components of a text: the first one and the others, and the path that they make.
use Rattle.std.proofs.Common.{◌≡◌, ℕ, ◌≤◌, Bool, true, false, ◌&&◌, List, [], ◌∷◌, ◌++◌, Option, None, Some, length, drop, cond, nat_eq, refl, ap, sym, ◌∙◌, arith}
use Rattle.std.specs.Prelude.{if◌then◌else◌}
use Rattle.std.specs.List.{onto_first, flat_map, list_all}
use Rattle.std.specs.Option.{option_map}
use Rattle.std.proofs.lemmas.Bool.{and_from, and_right}
use Rattle.std.proofs.lemmas.Bool.Decides.{nat_tests}
use Rattle.dsv_base.specs.Lines.{cut_at}
use Rattle.dsv_base.specs.Paths.{is_slash, is_component, is_path, components, root_text, join_text}
use Rattle.dav_names.specs.Targets.{after_slash, path_text, path_from_parts, me_at, rev_at, txn_at}

-- the components as a cut gives them
abbrev pub cut_parts : List ℕ → Option (List ℕ × List ℕ) → List (List ℕ)
cut_parts text None = text ∷ []
cut_parts text (Some cut) = cut.0 ∷ components cut.1

onto : (b : ℕ) (text : List ℕ) (cut : Option (List ℕ × List ℕ)) → onto_first b (cut_parts text cut) ≡ cut_parts (b ∷ text) (option_map (λ cut. (b ∷ cut.0, cut.1)) cut)
onto b text None = refl
onto b text (Some cut) = refl

more : (b : ℕ) (bs : List ℕ) (stops : Bool) → components bs ≡ cut_parts bs (cut_at 47 bs) → (if stops then [] ∷ components bs else onto_first b (components bs)) ≡ cut_parts (b ∷ bs) (if stops then Some ([], bs) else option_map (λ (cut : List ℕ × List ℕ). (b ∷ cut.0, cut.1)) (cut_at 47 bs))
more b bs true others = refl
more b bs false others = ap (onto_first b) others ∙ onto b bs (cut_at 47 bs)

pub components-cut : (text : List ℕ) → components text ≡ cut_parts text (cut_at 47 text)
components-cut [] = refl
components-cut (b ∷ bs) = more b bs (is_slash b) (components-cut bs)

-- there is a first component
pub first_of_parts : (text : List ℕ) → (first : List ℕ) × ((rest : List (List ℕ)) × (components text ≡ first ∷ rest))
first_of_parts [] = ([], ([], refl))
first_of_parts (b ∷ bs) = either (is_slash b) (first_of_parts bs)
  where
    either : (cuts : Bool) → (first : List ℕ) × ((rest : List (List ℕ)) × (components bs ≡ first ∷ rest)) → (first : List ℕ) × ((rest : List (List ℕ)) × (cond cuts ([] ∷ components bs) (onto_first b (components bs)) ≡ first ∷ rest))
    either true h = ([], (components bs, refl))
    either false h = (b ∷ h.0, (h.1.0, ap (onto_first b) h.1.1))

-- a component more than the stub has
pub me_too_long : (text : List ℕ) → None ≡ me_at (components text)
me_too_long text = let first = first_of_parts text in sym (ap me_at first.1.1)

pub rev_too_long : (text part after : List ℕ) → components text ≡ part ∷ components after → None ≡ rev_at (components text)
rev_too_long text part after e = let first = first_of_parts after in sym (ap rev_at (e ∙ ap (λ rest. part ∷ rest) first.1.1))

pub txn_too_long : (text part after : List ℕ) → components text ≡ part ∷ components after → None ≡ txn_at (components text)
txn_too_long text part after e = let first = first_of_parts after in sym (ap txn_at (e ∙ ap (λ rest. part ∷ rest) first.1.1))

-- components, each after a `/`, make the text again
slashes : (text : List ℕ) → flat_map after_slash (components text) ≡ 47 ∷ text
slashes [] = refl
slashes (b ∷ bs) = either (is_slash b) refl (slashes bs) (first_of_parts bs)
  where
    either : (cuts : Bool) → is_slash b ≡ cuts → flat_map after_slash (components bs) ≡ 47 ∷ bs → (first : List ℕ) × ((rest : List (List ℕ)) × (components bs ≡ first ∷ rest)) → flat_map after_slash (cond cuts ([] ∷ components bs) (onto_first b (components bs))) ≡ 47 ∷ b ∷ bs
    either true here rest first =
        let same : 47 ≡ b = grind (arith, nat_tests) in
        ap (λ text. 47 ∷ text) (rest ∙ ap (λ c. c ∷ bs) same)
    either false here rest first =
        let split : after_slash first.0 ++ flat_map after_slash first.1.0 ≡ 47 ∷ bs = sym (ap (flat_map after_slash) first.1.1) ∙ rest in
        ap (λ parts. flat_map after_slash (onto_first b parts)) first.1.1 ∙ ap (λ text. 47 ∷ b ∷ drop 1 text) split

pub path_text-components : (text : List ℕ) → path_text (components text) ≡ 47 ∷ text
path_text-components text = let first = first_of_parts text in ap path_text first.1.1 ∙ sym (ap (flat_map after_slash) first.1.1) ∙ slashes text

-- a path other than `/` has components
pub components_from_path : (text : List ℕ) → nat_eq (length text) 0 ≡ false → is_path (47 ∷ text) ≡ true → list_all is_component (components text) ≡ true
unfolding is_path
components_from_path text some h = grind (arith, nat_tests)

pub path_from_parts-some : (text : List ℕ) → nat_eq (length text) 0 ≡ false → is_path (47 ∷ text) ≡ true → path_from_parts (components text) ≡ Some (47 ∷ text)
unfolding path_from_parts
path_from_parts-some text some h =
    let text_is = path_text-components text in
    let all : (list_all is_component (components text) && is_path (path_text (components text))) ≡ true = and_from _ _ (components_from_path text some h) (ap is_path text_is ∙ h) in
    ap (λ b. if b then Some (path_text (components text)) else None) all ∙ ap Some text_is

pub path_from_parts-none : (text : List ℕ) → is_path (47 ∷ text) ≡ false → path_from_parts (components text) ≡ None
unfolding path_from_parts
path_from_parts-none text h =
    let none : (list_all is_component (components text) && is_path (path_text (components text))) ≡ false = and_right _ _ (ap is_path (path_text-components text) ∙ h) in
    ap (λ b. if b then Some (path_text (components text)) else None) none

joined_root : (text : List ℕ) → join_text root_text text ≡ 47 ∷ text
unfolding join_text
joined_root text = refl

-- the same of a text that was joined to `/`
pub path_from_parts-joined : (root text path : List ℕ) → root ≡ root_text → 1 ≤ length text → path ≡ join_text root text → is_path (join_text root text) ≡ true → Some path ≡ path_from_parts (components text)
path_from_parts-joined root text path e some joined h =
    let whole : join_text root text ≡ 47 ∷ text = ap (λ r. join_text r text) e ∙ joined_root text in
    let longer : nat_eq (length text) 0 ≡ false = grind (arith, nat_tests) in
    ap Some (joined ∙ whole) ∙ sym (path_from_parts-some text longer (sym (ap is_path whole) ∙ h))

pub path_from_parts-refused : (root text : List ℕ) → root ≡ root_text → is_path (join_text root text) ≡ false → None ≡ path_from_parts (components text)
path_from_parts-refused root text e h =
    let whole : join_text root text ≡ 47 ∷ text = ap (λ r. join_text r text) e ∙ joined_root text in
    sym (path_from_parts-none text (sym (ap is_path whole) ∙ h))
