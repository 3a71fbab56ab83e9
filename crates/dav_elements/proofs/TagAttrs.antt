-- The attributes of a tag, one more.
use Rattle.std.proofs.Common.{◌≡◌, ℕ, ◌+◌, ◌<◌, true, false, List, [], ◌∷◌, ◌++◌, Option, Some, None, length, get_or, drop, refl, sym, ap, ◌∙◌, append_assoc}
use Rattle.std.proofs.lemmas.List.{at_drop_more}
use Rattle.std.specs.Prelude.{option_map, option_and_then}
use Rattle.dav_elements.specs.declared.elem.Attr.{Attr}
use Rattle.dav_elements.specs.declared.tag.Raw.{Raw}
use Rattle.dav_elements.specs.declared.bound.Bound.{Bound}
use Rattle.dav_elements.specs.Bindings.{is_binding}
use Rattle.dav_elements.specs.Opening.{attrs_from, attr_from}

abbrev pub with_front : List Attr → Option (List Attr) → Option (List Attr)
with_front acc more = option_map (λ l. acc ++ l) more

pub attrs_kept : (acc : List Attr) (spaces : List Bound) (raw : Raw) (rest : List Raw) → is_binding raw ≡ true → with_front acc (attrs_from spaces (raw ∷ rest)) ≡ with_front acc (attrs_from spaces rest)
unfolding attrs_from
attrs_kept acc spaces raw rest h = rw h refl

one_more : (acc : List Attr) (attr : Attr) (o : Option (List Attr)) → with_front acc (option_map (λ l. attr ∷ l) o) ≡ with_front (acc ++ attr ∷ []) o
one_more acc attr None = refl
one_more acc attr (Some l) = ap Some (sym (append_assoc acc (attr ∷ []) l))

pub attrs_more : (acc : List Attr) (spaces : List Bound) (raw : Raw) (rest : List Raw) (attr : Attr) → is_binding raw ≡ false → attr_from spaces raw ≡ Some attr → with_front acc (attrs_from spaces (raw ∷ rest)) ≡ with_front (acc ++ attr ∷ []) (attrs_from spaces rest)
unfolding attrs_from
attrs_more acc spaces raw rest attr h e = rw h (ap (λ o. with_front acc (option_and_then (λ a. option_map (λ l. a ∷ l) (attrs_from spaces rest)) o)) e ∙ one_more acc attr (attrs_from spaces rest))

next_raw : (acc : List Attr) (spaces : List Bound) (raws : List Raw) (i : ℕ) (raw : Raw) → i < length raws → raw ≡ get_or raws i raw → with_front acc (attrs_from spaces (drop i raws)) ≡ with_front acc (attrs_from spaces (raw ∷ drop (i + 1) raws))
next_raw acc spaces raws i raw h is = at_drop_more (λ l. with_front acc (attrs_from spaces l)) raws i raw h ∙ ap (λ r. with_front acc (attrs_from spaces (r ∷ drop (i + 1) raws))) (sym is)

pub loop_kept : (acc : List Attr) (spaces : List Bound) (raws : List Raw) (i : ℕ) (raw : Raw) (all : Option (List Attr)) → i < length raws → raw ≡ get_or raws i raw → is_binding raw ≡ true
    → with_front acc (attrs_from spaces (drop i raws)) ≡ all → with_front acc (attrs_from spaces (drop (i + 1) raws)) ≡ all
loop_kept acc spaces raws i raw all h is t e = sym (attrs_kept acc spaces raw (drop (i + 1) raws) t) ∙ sym (next_raw acc spaces raws i raw h is) ∙ e

pub loop_more : (acc more : List Attr) (spaces : List Bound) (raws : List Raw) (i : ℕ) (raw : Raw) (attr : Attr) (all : Option (List Attr)) → i < length raws → raw ≡ get_or raws i raw → is_binding raw ≡ false
    → attr_from spaces raw ≡ Some attr → more ≡ acc ++ attr ∷ [] → with_front acc (attrs_from spaces (drop i raws)) ≡ all → with_front more (attrs_from spaces (drop (i + 1) raws)) ≡ all
loop_more acc more spaces raws i raw attr all h is t a m e = ap (λ l. with_front l (attrs_from spaces (drop (i + 1) raws))) m ∙ sym (attrs_more acc spaces raw (drop (i + 1) raws) attr t a) ∙ sym (next_raw acc spaces raws i raw h is) ∙ e
