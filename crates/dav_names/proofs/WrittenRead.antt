-- A target that is written for a resource is read back as that resource.
use Rattle.std.proofs.Common.{◌≡◌, ℕ, ◌<◌, ◌≤◌, ◌^◌, Bool, true, false, List, [], ◌++◌, Some, length, codes, refl, ap, sym, ◌∙◌, arith, append-nil, append_assoc, length-append}
use Rattle.std.specs.Prelude.{if◌then◌else◌}
use Rattle.std.specs.List.{All, list_any}
use Rattle.std.specs.Fmt.{decimal}
use Rattle.std.specs.Option.{option_and_then}
use Rattle.std.specs.Str.{bytes_eq}
use Rattle.std.proofs.lemmas.Bool.{or_from}
use Rattle.std.proofs.lemmas.Bool.Decides.{nat_tests}
use Rattle.std.proofs.lemmas.Fmt.{decimal_nonempty}
use Rattle.std.proofs.lemmas.List.Elements.{All-nil}
use Rattle.std.proofs.lemmas.List.Folds.{list_any-append}
use Rattle.percent_encoding.proofs.PercentLemmas.{IsByte}
use Rattle.dsv_base.specs.Escapes.{url_text}
use Rattle.dsv_base.specs.Numbers.{is_digit}
use Rattle.dsv_base.specs.Paths.{front_of, is_path, is_slash, root_text}
use Rattle.dsv_base.specs.declared.txn_name.TxnName.{TxnName}
use Rattle.dav_names.specs.declared.resource.Resource.{Resource}
use Rattle.dav_names.specs.declared.resource.Resource.TheVariants.{Public, Me, Rvr, RevOnly, Txr, Txn}
use Rattle.dav_names.specs.Escaped.{unescaped}
use Rattle.dav_names.specs.Targets.{is_mark, resource_behind, rest_named, target, without_slash}
use Rattle.dav_names.specs.Written.{IsInRange, IsName, is_numbered, is_root, path_end, resource_text, target_text, txn_text}
use Rattle.dsv_base.proofs.Decimals.{not_in_written}
use Rattle.dav_names.proofs.Ends.{keeps_end, keeps_path}
use Rattle.dav_names.proofs.Escapes.{is_percent, marks_in_url, unescaped-url}
use Rattle.dav_names.proofs.Roots.{named_behind}
use Rattle.dav_names.proofs.Stubs.{name_slash, public_named, me_named, rvr_named, rev_named_alone, txr_named, txn_named_alone}

front_bytes : (p : List ℕ) → All IsByte p → All IsByte (front_of p)
front_bytes p small = either (bytes_eq p root_text)
  where
    either : (is_root : Bool) → All IsByte (if is_root then [] else p)
    either true = All-nil IsByte
    either false = small

-- a front without escapes, and a path
read_path : (xs p : List ℕ) (r : Resource) → list_any is_percent xs ≡ false → without_slash xs ≡ xs → is_path p ≡ true → All IsByte p → resource_behind (xs ++ front_of p) ≡ Some r → rest_named (xs ++ path_end p) ≡ Some r
read_path xs p r none kept path small names =
    ap (λ text. option_and_then resource_behind (unescaped text)) (keeps_path xs p kept path)
    ∙ ap (option_and_then resource_behind) (unescaped-url xs (front_of p) none (front_bytes p small))
    ∙ names

-- such a front alone
read_alone : (xs : List ℕ) (r : Resource) → list_any is_percent xs ≡ false → without_slash xs ≡ xs → resource_behind xs ≡ Some r → rest_named xs ≡ Some r
unfolding url_text
read_alone xs r none kept names =
    ap (λ text. option_and_then resource_behind (unescaped text)) kept
    ∙ ap (λ text. option_and_then resource_behind (unescaped text)) (sym (append-nil xs))
    ∙ ap (option_and_then resource_behind) (unescaped-url xs [] none (All-nil IsByte))
    ∙ ap resource_behind (append-nil xs) ∙ names

-- ---- what is written has no `%` but in paths, and neither `?` nor `#`

digit_no_percent : (b : ℕ) → is_digit b ≡ true → is_percent b ≡ false
digit_no_percent b h = grind (arith, nat_tests)

digit_no_mark : (b : ℕ) → is_digit b ≡ true → is_mark b ≡ false
digit_no_mark b h = grind (arith, nat_tests)

digit_no_slash : (b : ℕ) → is_digit b ≡ true → is_slash b ≡ false
digit_no_slash b h = grind (arith, nat_tests)

both : (p : ℕ → Bool) (xs ys : List ℕ) → list_any p xs ≡ false → list_any p ys ≡ false → list_any p (xs ++ ys) ≡ false
both p xs ys front back = list_any-append p xs ys ∙ or_from _ _ front back

not_in_name : (p : ℕ → Bool) → ((b : ℕ) → is_digit b ≡ true → p b ≡ false) → p 45 ≡ false → (name : TxnName) → IsName name → list_any p (txn_text name) ≡ false
not_in_name p none dash name in_range =
    both p (decimal name.base ++ codes "-") (decimal name.number)
    (both p (decimal name.base) (codes "-") (not_in_written p none name.base (omega (arith, in_range.0))) (or_from (p 45) false dash refl))
    (not_in_written p none name.number (omega (arith, in_range.1)))

name_some : (name : TxnName) → 1 ≤ length (txn_text name)
name_some name = omega (arith, length-append (decimal name.base ++ codes "-") (decimal name.number), length-append (decimal name.base) (codes "-"))

-- what is written behind the root is read back
pub rest_read : (r : Resource) → IsInRange r → is_numbered r ≡ true → rest_named (resource_text r) ≡ Some r
unfolding resource_text without_slash
rest_read (Public path) in_range some = read_path [] path (Public path) refl refl in_range.0 in_range.1 (public_named path in_range.0)
rest_read Me in_range some = read_alone (codes "/!svn/me") Me refl refl me_named
rest_read (Rvr rev path) in_range some =
    let stub = codes "/!svn/rvr/" in
    let small : rev < 2 ^ 64 = omega (arith, in_range.0) in
    read_path (stub ++ decimal rev) path (Rvr rev path) (both is_percent stub (decimal rev) refl (not_in_written is_percent digit_no_percent rev small))
    (keeps_end stub (decimal rev) (decimal_nonempty rev small) (not_in_written is_slash digit_no_slash rev small)) in_range.1.0 in_range.1.1
    (ap resource_behind (append_assoc stub (decimal rev) (front_of path)) ∙ rvr_named rev path in_range.0 in_range.1.0)
rest_read (RevOnly rev) in_range some =
    let stub = codes "/!svn/rev/" in
    let small : rev < 2 ^ 64 = omega (arith, in_range) in
    read_alone (stub ++ decimal rev) (RevOnly rev) (both is_percent stub (decimal rev) refl (not_in_written is_percent digit_no_percent rev small))
    (keeps_end stub (decimal rev) (decimal_nonempty rev small) (not_in_written is_slash digit_no_slash rev small))
    (rev_named_alone rev in_range)
rest_read (Txr name path) in_range some =
    let stub = codes "/!svn/txr/" in
    read_path (stub ++ txn_text name) path (Txr name path) (both is_percent stub (txn_text name) refl (not_in_name is_percent digit_no_percent refl name in_range.0))
    (keeps_end stub (txn_text name) (name_some name) (name_slash name in_range.0)) in_range.1.0 in_range.1.1
    (ap resource_behind (append_assoc stub (txn_text name) (front_of path)) ∙ txr_named name path in_range.0 some in_range.1.0)
rest_read (Txn name) in_range some =
    let stub = codes "/!svn/txn/" in
    read_alone (stub ++ txn_text name) (Txn name) (both is_percent stub (txn_text name) refl (not_in_name is_percent digit_no_percent refl name in_range))
    (keeps_end stub (txn_text name) (name_some name) (name_slash name in_range))
    (txn_named_alone name in_range some)

unmarked : (r : Resource) → IsInRange r → list_any is_mark (resource_text r) ≡ false
unfolding resource_text
unmarked (Public path) in_range = marks_in_url (front_of path)
unmarked Me in_range = refl
unmarked (Rvr rev path) in_range =
    let stub = codes "/!svn/rvr/" in
    both is_mark (stub ++ decimal rev) (path_end path) (both is_mark stub (decimal rev) refl (not_in_written is_mark digit_no_mark rev (omega (arith, in_range.0)))) (marks_in_url (front_of path))
unmarked (RevOnly rev) in_range = both is_mark (codes "/!svn/rev/") (decimal rev) refl (not_in_written is_mark digit_no_mark rev (omega (arith, in_range)))
unmarked (Txr name path) in_range =
    let stub = codes "/!svn/txr/" in
    both is_mark (stub ++ txn_text name) (path_end path) (both is_mark stub (txn_text name) refl (not_in_name is_mark digit_no_mark refl name in_range.0)) (marks_in_url (front_of path))
unmarked (Txn name) in_range = both is_mark (codes "/!svn/txn/") (txn_text name) refl (not_in_name is_mark digit_no_mark refl name in_range)

pub written_read : (root : List ℕ) (r : Resource) → is_root root ≡ true → IsInRange r → is_numbered r ≡ true → target root (target_text root r) ≡ Some r
unfolding target_text
written_read root r rooted in_range some = named_behind root (resource_text r) r rooted (unmarked r in_range) (rest_read r in_range some)
