-- A repository's root, and what stands behind it.
use Rattle.std.proofs.Common.{◌≡◌, ℕ, true, false, not, List, [], ◌∷◌, ◌++◌, None, Some, length, drop, nat_eq, refl, ap, sym, ◌∙◌, arith}
use Rattle.std.specs.Prelude.{◌==◌, if◌then◌else◌}
use Rattle.std.specs.List.{list_all, list_any, starts_with}
use Rattle.std.specs.Option.{option_and_then}
use Rattle.std.specs.Str.{bytes_eq}
use Rattle.std.proofs.Math.Seq.{take-append_seam, drop-append_seam}
use Rattle.std.proofs.lemmas.Bool.{and_parts, or_from, eqb-true, not-true}
use Rattle.std.proofs.lemmas.Bool.Decides.{nat_tests}
use Rattle.std.proofs.lemmas.List.Folds.{list_any-append}
use Rattle.std.proofs.lemmas.Slice.Eq.{bytes_eq-Decides}
use Rattle.dsv_base.specs.Names.{is_repository_byte, is_repository_name}
use Rattle.dav_names.specs.declared.resource.Resource.{Resource}
use Rattle.dav_names.specs.Targets.{after_root, is_mark, rest_named, root_of, target, target_path}
use Rattle.dav_names.specs.Written.{is_root}

mark_no_name : (b : ℕ) → is_repository_byte b ≡ true → is_mark b ≡ false
mark_no_name b h = grind (arith, nat_tests)

no_marks : (name : List ℕ) → list_all is_repository_byte name ≡ true → list_any is_mark name ≡ false
no_marks [] h = refl
no_marks (b ∷ bs) h =
    let parts = and_parts (is_repository_byte b) (list_all is_repository_byte bs) h in
    or_from (is_mark b) (list_any is_mark bs) (mark_no_name b parts.0) (no_marks bs parts.1)

name_bytes : (name : List ℕ) → is_repository_name name ≡ true → list_all is_repository_byte name ≡ true
unfolding is_repository_name
name_bytes name h = grind (arith, nat_tests)

-- where a repository stands is a root
pub root_of_name : (name : List ℕ) → is_repository_name name ≡ true → is_root (root_of name) ≡ true
unfolding root_of is_root
root_of_name name h = ap not (no_marks name (name_bytes name h))

after_itself : (root rest : List ℕ) → after_root root (root ++ rest) ≡ Some rest
after_itself root rest =
    let front : starts_with nat_eq (root ++ rest) root ≡ true = ap (bytes_eq root) (take-append_seam root rest) ∙ (bytes_eq-Decides root root).1 refl in
    ap (λ b. if b then Some (drop (length root) (root ++ rest)) else None) front ∙ ap Some (drop-append_seam root rest)

no_scheme : (b : ℕ) (bs : List ℕ) → b ≡ 47 → target_path (b ∷ bs) ≡ Some (b ∷ bs)
unfolding target_path
no_scheme b bs here = ap target_path (ap (λ first. first ∷ bs) here) ∙ ap (λ first. Some (first ∷ bs)) (sym here)

-- a target of the root and a rest names what the rest does
pub named_behind : (root rest : List ℕ) (resource : Resource) → is_root root ≡ true → list_any is_mark rest ≡ false → rest_named rest ≡ Some resource → target root (root ++ rest) ≡ Some resource
unfolding target is_root
named_behind [] rest resource root none names = absurd (no_way root)
  where
    no_way : false ≡ true → ⊥
    no_way e = cc
named_behind (b ∷ bs) rest resource root none names =
    let parts = and_parts (b == 47) (not (list_any is_mark (b ∷ bs))) root in
    let unmarked : list_any is_mark ((b ∷ bs) ++ rest) ≡ false = list_any-append is_mark (b ∷ bs) rest ∙ or_from _ _ (not-true (list_any is_mark (b ∷ bs)) parts.1) none in
    let path = no_scheme b (bs ++ rest) (eqb-true b 47 parts.0) in
    ap (λ marked. if marked then None else option_and_then (λ path. option_and_then rest_named (after_root (b ∷ bs) path)) (target_path ((b ∷ bs) ++ rest))) unmarked
    ∙ ap (option_and_then (λ path. option_and_then rest_named (after_root (b ∷ bs) path))) path
    ∙ ap (option_and_then rest_named) (after_itself (b ∷ bs) rest)
    ∙ names
