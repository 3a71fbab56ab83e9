-- Texts that don't end with `/`.
use Rattle.std.proofs.Common.{◌≡◌, ℕ, ◌-◌, ◌≤◌, Bool, true, false, ◌&&◌, List, [], ◌∷◌, ◌++◌, length, take, get_or, nat_le, refl, ap, ◌∙◌, arith, append-nil}
use Rattle.std.specs.Prelude.{◌==◌, if◌then◌else◌}
use Rattle.std.specs.List.{list_any}
use Rattle.std.proofs.lemmas.Bool.{and_right, both_ways, false_from_ne_true}
use Rattle.std.proofs.lemmas.Grind.{common_steps}
use Rattle.std.proofs.lemmas.List.Folds.{list_any_at}
use Rattle.std.specs.Str.{bytes_eq}
use Rattle.dsv_base.specs.Escapes.{url_text}
use Rattle.dsv_base.specs.Paths.{is_slash, is_path, root_text, name_of, before_last_slash}
use Rattle.dsv_base.proofs.Joins.{component_slash, component_some, ends_with_name, name_is_component}
use Rattle.dav_names.specs.Targets.{without_slash}
use Rattle.dav_names.specs.Written.{path_end}
use Rattle.dav_names.proofs.Escapes.{slashes_in_url, url_text-append, url_text-slash, url_text-some}

last_of : (xs ys : List ℕ) → 1 ≤ length ys → get_or (xs ++ ys) (length (xs ++ ys) - 1) 0 ≡ get_or ys (length ys - 1) 0
last_of xs ys some = grind (arith, common_steps)

-- a text whose last part has no `/`
pub keeps_end : (xs ys : List ℕ) → 1 ≤ length ys → list_any is_slash ys ≡ false → without_slash (xs ++ ys) ≡ xs ++ ys
unfolding without_slash
keeps_end xs ys some none =
    let last : is_slash (get_or ys (length ys - 1) 0) ≡ false = false_from_ne_true _ (λ slash. both_ways _ none (list_any_at is_slash ys (length ys - 1) 0 (omega arith) slash)) in
    let ends : (nat_le 1 (length (xs ++ ys)) && (get_or (xs ++ ys) (length (xs ++ ys) - 1) 0 == 47)) ≡ false = and_right _ _ (ap is_slash (last_of xs ys some) ∙ last) in
    ap (λ b. if b then take (length (xs ++ ys) - 1) (xs ++ ys) else xs ++ ys) ends

-- a path that is written behind a text without `/` at its end
pub keeps_path : (xs p : List ℕ) → without_slash xs ≡ xs → is_path p ≡ true → without_slash (xs ++ path_end p) ≡ xs ++ path_end p
unfolding without_slash url_text
keeps_path xs p kept path = either (bytes_eq p root_text) refl
  where
    at_root : without_slash (xs ++ url_text []) ≡ xs ++ url_text []
    at_root = rw (append-nil xs) kept

    either : (is_root : Bool) → bytes_eq p root_text ≡ is_root → without_slash (xs ++ url_text (if is_root then [] else p)) ≡ xs ++ url_text (if is_root then [] else p)
    either true e = at_root
    either false e =
        let one = name_is_component p path e in
        let written : url_text p ≡ url_text (before_last_slash p) ++ 47 ∷ url_text (name_of p) = ap url_text (ends_with_name p path e) ∙ url_text-append (before_last_slash p) (47 ∷ name_of p) ∙ ap (λ rest. url_text (before_last_slash p) ++ rest) (url_text-slash (name_of p)) in
        let whole : xs ++ url_text p ≡ (xs ++ (url_text (before_last_slash p) ++ 47 ∷ [])) ++ url_text (name_of p) = grind (arith, common_steps, written) in
        rw whole (keeps_end (xs ++ (url_text (before_last_slash p) ++ 47 ∷ [])) (url_text (name_of p)) (url_text-some (name_of p) (component_some (name_of p) one)) (slashes_in_url (name_of p) (component_slash (name_of p) one)))
