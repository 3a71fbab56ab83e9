-- The graph of the entries.
use Rattle.std.proofs.Common.{◌≡◌, ℕ, zero, suc, ◌+◌, ◌<◌, Bool, true, false, List, [], ◌∷◌, ◌++◌, Option, Some, None, length, take, get_or, nat_eq, refl, ap, sym, ◌∙◌, subst, arith, ⊎_elim}
use Rattle.std.specs.Prelude.{if◌then◌else◌, option_to_list, map, IfSome}
use Rattle.std.specs.List.{filter_map, cons_option, list_any}
use Rattle.std.specs.Option.{option_or}
use Rattle.std.specs.Str.{bytes_eq}
use Rattle.std.proofs.lemmas.List.{take_more, length-map}
use Rattle.std.proofs.lemmas.List.Elements.{filter_map-append}
use Rattle.authz_file.specs.declared.section_entry.SectionEntry.{SectionEntry}
use Rattle.authz_file.specs.Words.{is_user}
use Rattle.authz_file.specs.Groups.{last_from, named_at, place_of_label, definition_of, targets}
use Rattle.authz_file.specs.Searching.{Has, IsGraph}
use Rattle.authz_file.proofs.Reach.{or_true, equal}

-- one more item
listed : {Y : Type 0} (o : Option Y) → cons_option o [] ≡ option_to_list o
listed None = refl
listed (Some y) = refl

one_item : {X Y : Type 0} (f : X → Option Y) (x : X) → filter_map f (x ∷ []) ≡ option_to_list (f x)
one_item f x = listed (f x)

pub filter_map-more : {X Y : Type 0} (f : X → Option Y) (xs : List X) (i : ℕ) (d : X) → i < length xs → filter_map f (take (i + 1) xs) ≡ filter_map f (take i xs) ++ option_to_list (f (get_or xs i d))
filter_map-more f xs i d h = ap (filter_map f) (take_more xs i d h) ∙ filter_map-append f (take i xs) (get_or xs i d ∷ []) ∙ ap (λ ys. filter_map f (take i xs) ++ ys) (one_item f (get_or xs i d))

-- a label stands at a place of the list
last_within : (es : List SectionEntry) (n : ℕ) (label : List ℕ) → IfSome (last_from n es label) (λ p. p < n + length es)
last_within [] n label = tt
last_within (e ∷ es) n label = either (last_from (n + 1) es label) (bytes_eq label e.label) (last_within es (n + 1) label)
  where
    either : (o : Option ℕ) (b : Bool) → IfSome o (λ p. p < n + 1 + length es) → IfSome (option_or o (if b then Some n else None)) (λ p. p < n + suc (length es))
    either None true h = omega arith
    either None false h = tt
    either (Some p) b h = omega arith

pub place_within : (es : List SectionEntry) (label : List ℕ) → IfSome (place_of_label es label) (λ p. p < length es)
unfolding place_of_label
place_within es label = either (last_from 0 es label) (last_within es 0 label)
  where
    either : (o : Option ℕ) → IfSome o (λ p. p < 0 + length es) → IfSome o (λ p. p < length es)
    either None h = tt
    either (Some p) h = omega arith

target_within : (es : List SectionEntry) (word : List ℕ) → IfSome (definition_of es word) (λ p. p < length es)
target_within es word = either (is_user word)
  where
    either : (b : Bool) → IfSome (if b then None else place_of_label es word) (λ p. p < length es)
    either true = tt
    either false = place_within es word

targets_within : (es : List SectionEntry) (words : List (List ℕ)) (named : ℕ) → Has (filter_map (definition_of es) words) named → named < length es
targets_within es [] named h = cc
targets_within es (w ∷ ws) named h = either (definition_of es w) (target_within es w) (targets_within es ws named) h
  where
    either : (o : Option ℕ) → IfSome o (λ p. p < length es) → (Has (filter_map (definition_of es) ws) named → named < length es) → Has (cons_option o (filter_map (definition_of es) ws)) named → named < length es
    either None k rest g = rest g
    either (Some p) k rest g = ⊎_elim (λ e. subst (λ i. i < length es) (sym (equal named p e)) k) rest (or_true (nat_eq named p) (list_any (nat_eq named) (filter_map (definition_of es) ws)) g)

named_within : (all es : List SectionEntry) (place named : ℕ) → Has (named_at (map (λ e. filter_map (definition_of all) e.words) es) place) named → named < length all
named_within all [] place named h = cc
named_within all (e ∷ es) zero named h = targets_within all e.words named h
named_within all (e ∷ es) (suc place) named h = named_within all es place named h

pub targets-length : (es : List SectionEntry) → length (targets es) ≡ length es
unfolding targets
targets-length es = length-map es (λ e. filter_map (definition_of es) e.words)

pub targets-IsGraph : (es : List SectionEntry) → IsGraph (targets es)
unfolding targets
targets-IsGraph es = λ place named h. subst (λ n. named < n) (sym (length-map es (λ e. filter_map (definition_of es) e.words))) (named_within es es place named h)
