-- One more entry in a map from labels to places.
use Rattle.std.proofs.Common.{Ordering, Less, Equal, Greater, ◌≡◌, ℕ, ◌+◌, Bool, true, false, cond, List, [], ◌∷◌, ◌++◌, length, take, get_or, ◌<◌, Option, Some, None, refl, ap, sym, ◌∙◌, arith}
use Rattle.std.specs.Prelude.{if◌then◌else◌}
use Rattle.std.specs.BTreeMap.{insert_entry}
use Rattle.std.specs.Cmp.Lexicographic.{slice_cmp}
use Rattle.std.specs.Map.{lookup}
use Rattle.std.specs.Ordering.{match_ordering, nat_cmp, is_eq}
use Rattle.std.specs.Option.{option_or}
use Rattle.std.specs.Str.{bytes_eq}
use Rattle.std.proofs.lemmas.Grind.{common_steps}
use Rattle.std.proofs.lemmas.List.{take_more}
use Rattle.std.proofs.lemmas.Cmp.{tied_itself, nat_list_cmp_total}
use Rattle.std.proofs.lemmas.Map.Lookups.{exact_bytes}
use Rattle.std.proofs.lemmas.Map.Text.{is_eq-slice_cmp}
use Rattle.dsv_base.proofs.TextMaps.{order, at, lookup-inserted}
use Rattle.authz_file.specs.declared.section_entry.SectionEntry.{SectionEntry}
use Rattle.authz_file.specs.Groups.{last_from, place_of_label}

-- the last place, with one more entry at the end
later-some : (o : Option ℕ) (b : Bool) (n : ℕ) (first : Option ℕ) → option_or (if b then Some n else o) first ≡ (if b then Some n else option_or o first)
later-some o true n first = refl
later-some o false n first = refl

last_from-push : (n : ℕ) (es : List SectionEntry) (e : SectionEntry) (label : List ℕ) → last_from n (es ++ e ∷ []) label ≡ (if bytes_eq label e.label then Some (n + length es) else last_from n es label)
last_from-push n [] e label = ap (λ m. if bytes_eq label e.label then Some m else None) (omega arith)
last_from-push n (x ∷ es) e label =
    let first : Option ℕ = if bytes_eq label x.label then Some n else None in
    ap (λ o. option_or o first) (last_from-push (n + 1) es e label)
    ∙ later-some (last_from (n + 1) es label) (bytes_eq label e.label) (n + 1 + length es) first
    ∙ ap (λ m. if bytes_eq label e.label then Some m else option_or (last_from (n + 1) es label) first) (omega arith)

pub place_of_label-push : (es : List SectionEntry) (e : SectionEntry) (label : List ℕ) → place_of_label (es ++ e ∷ []) label ≡ (if bytes_eq label e.label then Some (length es) else place_of_label es label)
unfolding place_of_label
place_of_label-push es e label = last_from-push 0 es e label ∙ ap (λ m. if bytes_eq label e.label then Some m else last_from 0 es label) (omega arith)

-- the map and the list go together
pub places-more : {K : Type 0} (text : K → List ℕ) (map : List (K × ℕ)) (es : List SectionEntry) (e : SectionEntry) (key : K) → text key ≡ e.label
    → (label : List ℕ) → lookup (at text label) map ≡ place_of_label es label
    → lookup (at text label) (insert_entry (order text) map key (length es)) ≡ place_of_label (es ++ e ∷ []) label
places-more text map es e key same label before =
    lookup-inserted text label key (length es) map
    ∙ ap (λ b. cond b (Some (length es)) (lookup (at text label) map)) (is_eq-slice_cmp label (text key) ∙ ap (bytes_eq label) same)
    ∙ ap (λ o. cond (bytes_eq label e.label) (Some (length es)) o) before
    ∙ sym (place_of_label-push es e label)

-- one step of a loop over all entries
pub places-step : {K : Type 0} (text : K → List ℕ) (old new : List (K × ℕ)) (all : List SectionEntry) (i : ℕ) (e : SectionEntry) (key : K) → i < length all → e ≡ get_or all i e → text key ≡ e.label
    → new ≡ insert_entry (order text) old key i → (label : List ℕ) → lookup (at text label) old ≡ place_of_label (take i all) label
    → lookup (at text label) new ≡ place_of_label (take (i + 1) all) label
places-step text old new all i e key within is same made label before =
    let size : length (take i all) ≡ i = grind (arith, common_steps) in
    let more : take (i + 1) all ≡ take i all ++ e ∷ [] = take_more all i e within ∙ ap (λ x. take i all ++ x ∷ []) (sym is) in
    ap (lookup (at text label)) (made ∙ ap (insert_entry (order text) old key) (sym size))
    ∙ places-more text old (take i all) e key same label before
    ∙ ap (λ xs. place_of_label xs label) (sym more)
