-- Where ranks never rise along the graph, an entry from which they fall doesn't reach itself.
use Rattle.std.proofs.Common.{◌≡◌, ℕ, ◌+◌, ◌<◌, ◌≤◌, Bool, true, false, ◌&&◌, List, [], ◌∷◌, length, get_or, nat_eq, nat_lt, nat_le, refl, ap, sym, ◌∙◌, subst, arith, ⊎_elim}
use Rattle.std.specs.Prelude.{slice_index}
use Rattle.std.specs.List.{list_all, list_any}
use Rattle.std.proofs.lemmas.Bool.{cases_lt}
use Rattle.std.proofs.lemmas.List.{get_or_default}
use Rattle.std.proofs.lemmas.Bool.Decides.{nat_tests}
use Rattle.authz_file.specs.Groups.{is_circular, named_at}
use Rattle.authz_file.specs.Searching.{NeverRises, Has}
use Rattle.authz_file.proofs.Reach.{equal, or_true, reached_within}

both_left : (a b : Bool) → (a && b) ≡ true → a ≡ true
both_left true b h = refl
both_left false b h = h

both_right : (a b : Bool) → (a && b) ≡ true → b ≡ true
both_right true b h = h
both_right false b h = cc

-- what holds of all holds of one
pub one_of : (p : ℕ → Bool) (xs : List ℕ) (r : ℕ) → list_all p xs ≡ true → Has xs r → p r ≡ true
one_of p [] r h n = cc
one_of p (x ∷ xs) r h n = ⊎_elim
    (λ e. ap p (equal r x e) ∙ both_left (p x) (list_all p xs) h)
    (λ e. one_of p xs r (both_right (p x) (list_all p xs) h) e)
    (or_true (nat_eq r x) (list_any (nat_eq r) xs) n)

untrue : (b : Bool) → (b ≡ true → ⊥) → b ≡ false
untrue true h = absurd (h refl)
untrue false h = refl

-- an entry that names lower ranks alone doesn't reach itself
pub clear : (graph : List (List ℕ)) (ranks : List ℕ) → NeverRises graph ranks → (place : ℕ) → list_all (λ p. nat_lt (slice_index ranks p) (slice_index ranks place)) (named_at graph place) ≡ true → is_circular graph place ≡ false
clear graph ranks falls place all = untrue (is_circular graph place) (λ h.
    let below : slice_index ranks place < slice_index ranks place =
    reached_within graph (λ p. slice_index ranks p < slice_index ranks place) (λ p r k n. lower p r k (falls p r n)) (length graph) (named_at graph place)
    (λ p k. tested p (one_of (λ q. nat_lt (slice_index ranks q) (slice_index ranks place)) (named_at graph place) p all k)) place h in
    absurd (omega arith))
  where
    lower : (p r : ℕ) → slice_index ranks p < slice_index ranks place → slice_index ranks r ≤ slice_index ranks p → slice_index ranks r < slice_index ranks place
    lower p r a b = omega arith

    tested : (p : ℕ) → nat_lt (slice_index ranks p) (slice_index ranks place) ≡ true → slice_index ranks p < slice_index ranks place
    tested p e = grind (arith, nat_tests)

-- one entry more whose ranks don't rise
pub rises_no_more : (graph : List (List ℕ)) (ranks : List ℕ) (i : ℕ) (named : List ℕ) → i < length graph → named ≡ get_or graph i named
    → list_all (λ p. nat_le (slice_index ranks p) (slice_index ranks i)) named ≡ true
    → ((p r : ℕ) → p < i → Has (named_at graph p) r → slice_index ranks r ≤ slice_index ranks p)
    → (p r : ℕ) → p < i + 1 → Has (named_at graph p) r → slice_index ranks r ≤ slice_index ranks p
rises_no_more graph ranks i named within is all before p r h n = ⊎_elim
    (λ less. before p r less n)
    (λ more. here (omega arith))
    (cases_lt p i)
  where
    here : p ≡ i → slice_index ranks r ≤ slice_index ranks p
    here e =
        let same : named_at graph p ≡ named = ap (named_at graph) e ∙ get_or_default graph i [] named within ∙ sym is in
        let has : Has named r = ap (list_any (nat_eq r)) (sym same) ∙ n in
        let tested : nat_le (slice_index ranks r) (slice_index ranks i) ≡ true = one_of (λ p. nat_le (slice_index ranks p) (slice_index ranks i)) named r all has in
        let falls : slice_index ranks r ≤ slice_index ranks i = grind (arith, nat_tests) in
        subst (λ x. slice_index ranks r ≤ slice_index ranks x) (sym e) falls
