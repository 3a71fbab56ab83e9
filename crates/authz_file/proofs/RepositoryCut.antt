-- A repository's name before a path, found byte by byte.
use Rattle.std.proofs.Common.{◌≡◌, ℕ, ◌+◌, ◌<◌, ◌≤◌, List, [], ◌∷◌, ◌++◌, Option, Some, None, true, false, length, take, drop, get_or, refl, ap, sym, ◌∙◌, append_assoc, arith, add-one, drop-cons}
use Rattle.std.proofs.lemmas.Grind.{common_steps}
use Rattle.std.proofs.lemmas.List.{take_more, append-nil, drop-drop}
use Rattle.authz_file.specs.Sections.{split_repos, onto_front, begins_cut}

-- a cut of what stands after a front
abbrev pub after_front : List ℕ → Option (List ℕ × List ℕ) → Option (List ℕ × List ℕ)
after_front front None = None
after_front front (Some p) = Some (front ++ p.0, p.1)

here : (text : List ℕ) → begins_cut text ≡ true → split_repos text ≡ Some ([], drop 1 text)
unfolding split_repos
here [] h = absurd cc
here (b ∷ bs) h = rw h refl

past : (b : ℕ) (bs : List ℕ) → begins_cut (b ∷ bs) ≡ false → split_repos (b ∷ bs) ≡ onto_front b (split_repos bs)
unfolding split_repos
past b bs h = rw h refl

-- the place is found
pub cut-here : (name : List ℕ) (at : ℕ) → at < length name → begins_cut (drop at name) ≡ true → after_front (take at name) (split_repos (drop at name)) ≡ Some (take at name, drop (at + 1) name)
cut-here name at h cut =
    let e : split_repos (drop at name) ≡ Some ([], drop 1 (drop at name)) = here (drop at name) cut in
    let f : drop 1 (drop at name) ≡ drop (at + 1) name = drop-drop 1 at name in
    rw (e, append-nil (take at name), f) refl

longer : (front : List ℕ) (b : ℕ) (found : Option (List ℕ × List ℕ)) → after_front front (onto_front b found) ≡ after_front (front ++ b ∷ []) found
longer front b None = refl
longer front b (Some p) = ap (λ xs. Some (xs, p.1)) (sym (append_assoc front (b ∷ []) p.0))

-- one byte more is before it
pub cut-past : (name : List ℕ) (at : ℕ) → at < length name → begins_cut (drop at name) ≡ false → after_front (take at name) (split_repos (drop at name)) ≡ after_front (take (at + 1) name) (split_repos (drop (at + 1) name))
cut-past name at h cut =
    let e : drop at name ≡ get_or name at 0 ∷ drop (at + 1) name = rw add-one (drop-cons name at 0 h) in
    let no : begins_cut (get_or name at 0 ∷ drop (at + 1) name) ≡ false = ap begins_cut (sym e) ∙ cut in
    ap (λ rest. after_front (take at name) (split_repos rest)) e
    ∙ ap (after_front (take at name)) (past (get_or name at 0) (drop (at + 1) name) no)
    ∙ longer (take at name) (get_or name at 0) (split_repos (drop (at + 1) name))
    ∙ ap (λ front. after_front front (split_repos (drop (at + 1) name))) (sym (take_more name at 0 h))

-- there is none
pub cut-none : (name : List ℕ) (at : ℕ) → length name ≤ at → after_front (take at name) (split_repos (drop at name)) ≡ None
unfolding split_repos
cut-none name at h =
    let e : drop at name ≡ [] = grind (arith, common_steps) in
    rw e refl
