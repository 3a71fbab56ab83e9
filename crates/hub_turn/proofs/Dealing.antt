-- Rooms and passes, one after another.
use Rattle.std.proofs.Common.{◌≡◌, ℕ, suc, ◌+◌, ◌-◌, ◌≤◌, ◌<◌, List, [], ◌∷◌, ◌++◌, length, sym, refl, ap, ◌∙◌, subst, arith, append-nil, append_assoc}
use Rattle.atomic_table.specs.Seated.{TableId}
use Rattle.atomic_table.specs.Table.{Me}
use Rattle.dav_machine.specs.Origins.{Origin}
use Rattle.hub_turn.specs.Passes.{PassState, passes_from, origin_of, IsSeated, first_front}
use Rattle.hub_turn.specs.Plays.{all_but_first, first_only, first_alone}
use Rattle.hub_turn.specs.Rooms.{Only, SplitsNext}
use Rattle.hub_turn.specs.Starts.{members_from, whole}
use Rattle.hub_turn.specs.Views.{Start, Member, Idle, SeatView, with_stage}
use Rattle.hub_turn.specs.Holding.{IsFounding}
use Rattle.hub_turn.proofs.Opening.{from_length}

pub only_push : (z : TableId) (xs : List TableId) (y : TableId) → Only z xs → y ≡ z → Only z (xs ++ y ∷ [])
only_push z [] y o e = (e, tt)
only_push z (x ∷ xs) y o e = (o.0, only_push z xs y o.1 e)

pub only_rest : (z : TableId) (xs ys : List TableId) → Only z (xs ++ ys) → Only z xs
only_rest z [] ys o = tt
only_rest z (x ∷ xs) ys o = (o.0, only_rest z xs ys o.1)

pub only_last : (z : TableId) (xs : List TableId) (y : TableId) → Only z (xs ++ y ∷ []) → y ≡ z
only_last z [] y o = o.0
only_last z (x ∷ xs) y o = only_last z xs y o.1

-- the seat has the members from this number on
abbrev pub IsDealt : {S : Type 0} → Start → ℕ → ℕ → Me S SeatView → Type 0
IsDealt about count number m = m ≡ (record { members = members_from (count - number) about.history number; stage = Idle; about = about }, [])

abbrev dealt : Start → ℕ → ℕ → SeatView
dealt about left number = record { members = members_from left about.history number; stage = Idle; about = about }

one_less : (count number : ℕ) → number < count → count - number ≡ suc (count - (number + 1))
one_less count number h = omega arith

pub splits_next : {S : Type 0} (about : Start) (count number : ℕ) (m : Me S SeatView) → count ≡ about.passes → number < count → IsDealt about count number m → SplitsNext number count m
splits_next {S} about count number m counted h e =
    let left : ℕ = count - (number + 1) in
    let f : m ≡ (dealt about (suc left) number, []) = e ∙ ap (λ (n : ℕ). (dealt about n number, [])) (one_less count number h) in
    subst (λ (z : Me S SeatView). SplitsNext number count z) (sym f) (record { idle = refl; empty = refl; next = refl; counted = counted })

pub dealt_on : {S : Type 0} (about : Start) (count number : ℕ) (m m' : Me S SeatView) → number < count → IsDealt about count number m → m' ≡ (all_but_first m.0, []) → IsDealt about count (number + 1) m'
dealt_on {S} about count number m m' h e p =
    let left : ℕ = count - (number + 1) in
    let f : m ≡ (dealt about (suc left) number, []) = e ∙ ap (λ (n : ℕ). (dealt about n number, [])) (one_less count number h) in
    p ∙ ap (λ (z : Me S SeatView). (all_but_first z.0, [])) f

pub passes_on_list : (origin : Origin) (count number : ℕ) (done done' all : List PassState) (p : PassState) → number < count → done' ≡ done ++ p ∷ []
    → p ≡ record { opening = origin.opening; number = number; origin = origin; front = origin.history }
    → done ++ passes_from (count - number) origin number ≡ all → done' ++ passes_from (count - (number + 1)) origin (number + 1) ≡ all
passes_on_list origin count number done done' all p h more is made =
    let left : ℕ = count - (number + 1) in
    ap (λ (x : List PassState). x ++ passes_from left origin (number + 1)) more
    ∙ append_assoc done (p ∷ []) (passes_from left origin (number + 1))
    ∙ ap (λ (x : PassState). done ++ x ∷ passes_from left origin (number + 1)) is
    ∙ ap (λ (n : ℕ). done ++ passes_from n origin number) (sym (one_less count number h))
    ∙ made

pub passes_all : (origin : Origin) (count number : ℕ) (done all : List PassState) → count ≤ number → done ++ passes_from (count - number) origin number ≡ all → done ≡ all
passes_all origin count number done all h made =
    let z : count - number ≡ 0 = omega arith in
    sym (append-nil done) ∙ ap (λ (n : ℕ). done ++ passes_from n origin number) (sym z) ∙ made

pub some_next : {S : Type 0} (number count : ℕ) (m : Me S SeatView) → SplitsNext number count m → 0 < length m.0.members
some_next number count m next = subst (λ (ms : List Member). 0 < length ms) (sym next.next) (omega arith)

pub seated_next : {S : Type 0} (number count : ℕ) (m : Me S SeatView) → SplitsNext number count m → IsSeated number count (first_only m.0)
seated_next number count m next = record {
  idle = refl;
  single = subst (λ (ms : List Member). first_alone ms ≡ record { number = number; front = first_front (first_alone ms) } ∷ []) (sym next.next) refl;
  passes = next.counted;
}

pub front_next : {S : Type 0} (number count : ℕ) (m : Me S SeatView) → SplitsNext number count m → first_front (first_only m.0).members ≡ m.0.about.history
front_next number count m next = ap (λ (ms : List Member). first_front (first_alone ms)) next.next

pub dealt_pass : {S : Type 0} (about : Start) (count number : ℕ) (m : Me S SeatView) (z z' : TableId) (p : PassState) → z' ≡ z → IsDealt about count number m
    → p ≡ record { opening = m.0.about.opening; number = number; origin = origin_of z' m.0.about; front = m.0.about.history }
    → p ≡ record { opening = about.opening; number = number; origin = origin_of z about; front = about.history }
dealt_pass {S} about count number m z z' p same e is =
    is ∙ (λ i. let a : Start = ap (λ (x : Me S SeatView). x.0.about) e i in record { opening = a.opening; number = number; origin = origin_of (same i) a; front = a.history })

pub founds : {S : Type 0} (about : Start) (m : Me S SeatView) → 0 < about.passes → m ≡ (whole about, []) → IsFounding m
founds {S} about m many e = subst (λ (z : Me S SeatView). IsFounding z) (sym e) (record { founding = refl; some = omega (arith, from_length about.passes about.history 0); empty = refl })

pub founded : {S : Type 0} (about : Start) (m m' : Me S SeatView) → m ≡ (whole about, []) → m' ≡ (with_stage m.0 Idle, []) → m' ≡ (dealt about about.passes 0, [])
founded {S} about m m' e p = p ∙ ap (λ (z : Me S SeatView). (with_stage z.0 Idle, [])) e

-- the same, at_history of the seat's own view
pub dealt_own : {S : Type 0} (about : Start) (count : ℕ) (m : Me S SeatView) → count ≡ about.passes → m ≡ (dealt about about.passes 0, [])
    → m ≡ (record { members = members_from count m.0.about.history 0; stage = Idle; about = m.0.about }, [])
dealt_own {S} about count m counted e = e ∙ (λ i. let a : Start = ap (λ (x : Me S SeatView). x.0.about) (sym e) i in (record { members = members_from (sym counted i) a.history 0; stage = Idle; about = a }, []))

pub about_own : {S : Type 0} (about : Start) (m : Me S SeatView) → m ≡ (dealt about about.passes 0, []) → m.0.about ≡ about
about_own {S} about m e = ap (λ (x : Me S SeatView). x.0.about) e
