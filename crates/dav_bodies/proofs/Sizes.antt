-- How many elements an element is, by those that stand in it.
use Rattle.std.proofs.Common.{◌≡◌, ℕ, ◌+◌, List, [], ◌∷◌, ◌++◌, ◌<◌, length, drop, get_or, map, refl, sym, ap, ◌∙◌, arith}
use Rattle.std.proofs.lemmas.List.{at_drop_more}
use Rattle.dsv_base.specs.declared.bytes.Bytes.{Bytes}
use Rattle.dav_elements.specs.declared.elem.Part.{Part, Text, Child, out-Part}
use Rattle.dav_elements.specs.declared.elem.Part.TheOpen.{Part-F}
use Rattle.dav_elements.specs.declared.elem.Part.TheViews.{roll-Part, roll-out-Part, outs-Text, outs-Child}
use Rattle.dav_elements.specs.declared.elem.Part.TheFolds.{fold-Part, fold-roll-Part, fold_out-Elem}
use Rattle.dav_elements.specs.declared.elem.Elem.{Elem}
use Rattle.dav_bodies.specs.Elements.{opened_element, element_of, elements_in, sum_of, part_step, elem_step, size_of, size_of_all}

abbrev size_of_part : Part → ℕ
size_of_part = fold-Part ℕ ℕ part_step elem_step

size_opened : (x : Part-F Part Elem) → size_of_part (roll-Part x) ≡ size_of_all (opened_element x)
size_opened (Part-F.Text t) = fold-roll-Part ℕ ℕ part_step elem_step (Part-F.Text t)
size_opened (Part-F.Child e) = omega (arith, fold-roll-Part ℕ ℕ part_step elem_step (Part-F.Child e))

size_part : (p : Part) → size_of_part p ≡ size_of_all (element_of p)
size_part p = ap size_of_part (sym (roll-out-Part p)) ∙ size_opened (out-Part p)

size_of_all-append : (xs ys : List Elem) → size_of_all (xs ++ ys) ≡ size_of_all xs + size_of_all ys
size_of_all-append [] ys = omega arith
size_of_all-append (x ∷ xs) ys = omega (arith, size_of_all-append xs ys)

size_parts : (ps : List Part) → sum_of (map size_of_part ps) ≡ size_of_all (elements_in ps)
size_parts [] = refl
size_parts (p ∷ ps) = omega (arith, size_part p, size_parts ps, size_of_all-append (element_of p) (elements_in ps))

pub size_of-parts : (e : Elem) → size_of e ≡ 1 + size_of_all (elements_in e.parts)
size_of-parts e = fold_out-Elem ℕ ℕ part_step elem_step e ∙ ap (λ n. 1 + n) (size_parts e.parts)

-- a loop over parts goes on behind a text, and behind an element with what that has
abbrev rest_size : List Part → ℕ
rest_size ps = size_of_all (elements_in ps)

size_rest : (ps : List Part) (i : ℕ) (p q : Part) → i < length ps → p ≡ get_or ps i p → p ≡ q → rest_size (drop i ps) ≡ rest_size (q ∷ drop (i + 1) ps)
size_rest ps i p q lt is same = at_drop_more rest_size ps i p lt ∙ ap (λ x. rest_size (x ∷ drop (i + 1) ps)) (sym is ∙ same)

pub behind_text : (ps : List Part) (i size new total : ℕ) (p : Part) (text : Bytes) → i < length ps → p ≡ get_or ps i p → p ≡ Text text → new ≡ size → size + size_of_all (elements_in (drop i ps)) ≡ total → new + size_of_all (elements_in (drop (i + 1) ps)) ≡ total
behind_text ps i size new total p text lt is same kept before =
    let here : rest_size (drop i ps) ≡ rest_size (drop (i + 1) ps) = size_rest ps i p (Text text) lt is same ∙ ap (λ o. size_of_all (opened_element o ++ elements_in (drop (i + 1) ps))) (outs-Text text) in
    omega (arith, here, kept, before)

pub behind_child : (ps : List Part) (i size more new total : ℕ) (p : Part) (e : Elem) → i < length ps → p ≡ get_or ps i p → p ≡ Child e → more ≡ size_of e → new ≡ size + more → size + size_of_all (elements_in (drop i ps)) ≡ total → new + size_of_all (elements_in (drop (i + 1) ps)) ≡ total
behind_child ps i size more new total p e lt is same its sum before =
    let here : rest_size (drop i ps) ≡ size_of e + rest_size (drop (i + 1) ps) = size_rest ps i p (Child e) lt is same ∙ ap (λ o. size_of_all (opened_element o ++ elements_in (drop (i + 1) ps))) (outs-Child e) in
    omega (arith, here, its, sum, before)
