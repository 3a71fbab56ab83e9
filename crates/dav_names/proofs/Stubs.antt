-- What the components of a written target name.
use Rattle.std.proofs.Common.{◌≡◌, ℕ, ◌≤◌, Bool, true, false, not, List, [], ◌∷◌, ◌++◌, None, Some, length, nat_eq, codes, refl, ap, sym, ◌∙◌, arith, append-nil, append_assoc}
use Rattle.std.specs.Prelude.{◌==◌, if◌then◌else◌}
use Rattle.std.specs.List.{list_all, list_any}
use Rattle.std.specs.Fmt.{decimal}
use Rattle.std.specs.Option.{option_map, option_and_then}
use Rattle.std.specs.Str.{bytes_eq}
use Rattle.std.proofs.lemmas.Bool.{and_parts, or_from, or_parts, both_ways, eqb-true, eq-eqb, not-true}
use Rattle.std.proofs.lemmas.Bool.Decides.{nat_tests}
use Rattle.std.proofs.lemmas.Slice.Eq.{bytes_eq-Decides}
use Rattle.std.proofs.lemmas.List.Folds.{list_any-append}
use Rattle.dsv_base.specs.Lines.{cut_at}
use Rattle.dsv_base.specs.Numbers.{read_decimal, is_digit}
use Rattle.dsv_base.specs.Paths.{components, front_of, is_component, is_path, is_slash, root_text}
use Rattle.dsv_base.specs.declared.txn_name.TxnName.{TxnName}
use Rattle.dsv_base.proofs.Joins.{components-append, components-one}
use Rattle.dav_names.specs.declared.resource.Resource.TheVariants.{Public, Me, Rvr, RevOnly, Txr, Txn}
use Rattle.dav_names.specs.Targets.{resource_behind, path_from_parts, rev_named, resource_at, special_at, rvr_at, rev_at, txr_at, txn_at, txn_named, txn_of, txn_parts}
use Rattle.dav_names.specs.Written.{txn_text, IsName}
use Rattle.dav_names.proofs.Components.{first_of_parts, components_from_path, path_from_parts-some}
use Rattle.dsv_base.proofs.Decimals.{not_in_written, read_back}

root_only : (p : List ℕ) → bytes_eq p root_text ≡ true → p ≡ root_text
root_only p h = (bytes_eq-Decides p root_text).0 h

-- a path other than `/` begins with `/`, and more stands behind it
pub record Below (p : List ℕ) : Type 0 where
  pub below : List ℕ
  pub is : p ≡ 47 ∷ below
  pub some : nat_eq (length below) 0 ≡ false

pub below_root : (p : List ℕ) → is_path p ≡ true → bytes_eq p root_text ≡ false → Below p
unfolding is_path
below_root [] path other = absurd (no_way path)
  where
    no_way : false ≡ true → ⊥
    no_way e = cc
below_root (b ∷ bs) path other =
    let here : b ≡ 47 = eqb-true b 47 (and_parts (is_slash b) _ path).0 in
    record { below = bs; is = ap (λ first. first ∷ bs) here; some = more b bs here other }
  where
    more : (b : ℕ) (bs : List ℕ) → b ≡ 47 → bytes_eq (b ∷ bs) root_text ≡ false → nat_eq (length bs) 0 ≡ false
    more b [] here other = absurd (both_ways _ other (ap (λ first. bytes_eq (first ∷ []) root_text) here))
    more b (c ∷ cs) here other = grind (arith, nat_tests)

-- the components behind one that is written before a path
pub record Behind (first p : List ℕ) : Type 0 where
  pub parts : List (List ℕ)
  pub are : components (first ++ front_of p) ≡ first ∷ parts
  pub path : path_from_parts parts ≡ Some p

root_path : path_from_parts [] ≡ Some root_text
unfolding path_from_parts is_path
root_path = refl

pub behind : (first p : List ℕ) → list_any is_slash first ≡ false → is_path p ≡ true → Behind first p
behind first p none path = either (bytes_eq p root_text) refl
  where
    either : (is_root : Bool) → bytes_eq p root_text ≡ is_root → Behind first p
    either true e = record {
      parts = [];
      are = ap (λ b. components (first ++ (if b then [] else p))) e ∙ ap components (append-nil first) ∙ components-one first none;
      path = root_path ∙ ap Some (sym (root_only p e));
    }
    either false e =
        let rest = below_root p path e in
        record {
          parts = components rest.below;
          are = ap (λ b. components (first ++ (if b then [] else p))) e ∙ ap (λ p. components (first ++ p)) rest.is ∙ components-append first rest.below ∙ ap (λ parts. parts ++ components rest.below) (components-one first none);
          path = path_from_parts-some rest.below rest.some (sym (ap is_path rest.is) ∙ path) ∙ ap Some (sym rest.is);
        }

-- no component is `!svn`
not_special : (part : List ℕ) → is_component part ≡ true → bytes_eq part (codes "!svn") ≡ false
not_special part one = grind (arith, nat_tests)

-- ---- revisions and transactions

pub rev_written : (rev : ℕ) → rev ≤ 2000000000 → rev_named (decimal rev) ≡ Some rev
rev_written rev few = read_back 2000000000 rev few (omega arith)

digit_no_slash : (b : ℕ) → is_digit b ≡ true → is_slash b ≡ false
digit_no_slash b h = grind (arith, nat_tests)

digit_no_dash : (b : ℕ) → is_digit b ≡ true → (b == 45) ≡ false
digit_no_dash b h = grind (arith, nat_tests)

-- a text cut at a byte that doesn't stand before it
cut_behind : (byte : ℕ) (xs ys : List ℕ) → list_any (λ b. b == byte) xs ≡ false → cut_at byte (xs ++ byte ∷ ys) ≡ Some (xs, ys)
cut_behind byte [] ys none = ap (λ b. if b then Some ([], ys) else option_map (λ (cut : List ℕ × List ℕ). (byte ∷ cut.0, cut.1)) (cut_at byte ys)) (eq-eqb byte byte refl)
cut_behind byte (x ∷ xs) ys none =
    let parts = or_parts (x == byte) (list_any (λ b. b == byte) xs) none in
    ap (λ b. if b then Some ([], xs ++ byte ∷ ys) else option_map (λ (cut : List ℕ × List ℕ). (x ∷ cut.0, cut.1)) (cut_at byte (xs ++ byte ∷ ys))) parts.0
    ∙ ap (option_map (λ (cut : List ℕ × List ℕ). (x ∷ cut.0, cut.1))) (cut_behind byte xs ys parts.1)

pub name_slash : (name : TxnName) → IsName name → list_any is_slash (txn_text name) ≡ false
name_slash name in_range =
    list_any-append is_slash (decimal name.base ++ codes "-") (decimal name.number)
    ∙ or_from _ _ (list_any-append is_slash (decimal name.base) (codes "-") ∙ or_from _ _ (not_in_written is_slash digit_no_slash name.base (omega (arith, in_range.0))) refl) (not_in_written is_slash digit_no_slash name.number (omega (arith, in_range.1)))

pub name_written : (name : TxnName) → IsName name → not (name.number == 0) ≡ true → txn_named (txn_text name) ≡ Some name
unfolding txn_named
name_written name in_range some =
    let base = rev_written name.base in_range.0 in
    let number : read_decimal 4294967295 (decimal name.number) ≡ Some name.number = read_back 4294967295 name.number (omega (arith, in_range.1)) (omega (arith, in_range.1)) in
    let cut : cut_at 45 (txn_text name) ≡ Some (decimal name.base, decimal name.number) = ap (cut_at 45) (append_assoc (decimal name.base) (codes "-") (decimal name.number)) ∙ cut_behind 45 (decimal name.base) (decimal name.number) (not_in_written (λ b. b == 45) digit_no_dash name.base (omega (arith, in_range.0))) in
    ap (option_and_then (λ (cut : List ℕ × List ℕ). txn_parts cut.0 cut.1)) cut
    ∙ ap (option_and_then (λ base. option_and_then (txn_of base) (read_decimal 4294967295 (decimal name.number)))) base
    ∙ ap (option_and_then (txn_of name.base)) number
    ∙ ap (λ b. if b then None else Some name) (not-true (name.number == 0) some)

-- ---- what is written behind the root, with its escapes read

pub public_named : (p : List ℕ) → is_path p ≡ true → resource_behind (front_of p) ≡ Some (Public p)
unfolding resource_behind
public_named p path = either (bytes_eq p root_text) refl
  where
    either : (is_root : Bool) → bytes_eq p root_text ≡ is_root → resource_behind (if is_root then [] else p) ≡ Some (Public p)
    either true e = ap (λ p. Some (Public p)) (sym (root_only p e))
    either false e =
        let rest = below_root p path e in
        let first = first_of_parts rest.below in
        let all : list_all is_component (components rest.below) ≡ true = components_from_path rest.below rest.some (sym (ap is_path rest.is) ∙ path) in
        let one : is_component first.0 ≡ true = (and_parts (is_component first.0) (list_all is_component first.1.0) (sym (ap (list_all is_component) first.1.1) ∙ all)).0 in
        ap resource_behind rest.is
        ∙ ap resource_at first.1.1
        ∙ ap (λ b. if b then special_at first.1.0 else option_map Public (path_from_parts (first.0 ∷ first.1.0))) (not_special first.0 one)
        ∙ ap (λ parts. option_map Public (path_from_parts parts)) (sym first.1.1)
        ∙ ap (option_map Public) (path_from_parts-some rest.below rest.some (sym (ap is_path rest.is) ∙ path))
        ∙ ap (λ p. Some (Public p)) (sym rest.is)

pub me_named : resource_behind (codes "/!svn/me") ≡ Some Me
unfolding resource_behind
me_named = refl

pub rvr_named : (rev : ℕ) (p : List ℕ) → rev ≤ 2000000000 → is_path p ≡ true → resource_behind (codes "/!svn/rvr/" ++ (decimal rev ++ front_of p)) ≡ Some (Rvr rev p)
unfolding resource_behind
rvr_named rev p few path =
    let rest = behind (decimal rev) p (not_in_written is_slash digit_no_slash rev (omega (arith, few))) path in
    ap rvr_at rest.are ∙ ap (option_and_then (λ rev. option_map (Rvr rev) (path_from_parts rest.parts))) (rev_written rev few) ∙ ap (option_map (Rvr rev)) rest.path

pub rev_named_alone : (rev : ℕ) → rev ≤ 2000000000 → resource_behind (codes "/!svn/rev/" ++ decimal rev) ≡ Some (RevOnly rev)
unfolding resource_behind
rev_named_alone rev few = ap rev_at (components-one (decimal rev) (not_in_written is_slash digit_no_slash rev (omega (arith, few)))) ∙ ap (option_map RevOnly) (rev_written rev few)

pub txr_named : (name : TxnName) (p : List ℕ) → IsName name → not (name.number == 0) ≡ true → is_path p ≡ true → resource_behind (codes "/!svn/txr/" ++ (txn_text name ++ front_of p)) ≡ Some (Txr name p)
unfolding resource_behind
txr_named name p in_range some path =
    let rest = behind (txn_text name) p (name_slash name in_range) path in
    ap txr_at rest.are ∙ ap (option_and_then (λ name. option_map (Txr name) (path_from_parts rest.parts))) (name_written name in_range some) ∙ ap (option_map (Txr name)) rest.path

pub txn_named_alone : (name : TxnName) → IsName name → not (name.number == 0) ≡ true → resource_behind (codes "/!svn/txn/" ++ txn_text name) ≡ Some (Txn name)
unfolding resource_behind
txn_named_alone name in_range some = ap txn_at (components-one (txn_text name) (name_slash name in_range)) ∙ ap (option_map Txn) (name_written name in_range some)
