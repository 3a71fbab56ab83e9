-- The fronts of members, and the authors of entries.
use Rattle.std.proofs.Common.{◌≡◌, ◌≢◌, ℕ, ◌<◌, Bool, cond, List, [], ◌∷◌, ◌++◌, sym, ap, ◌∙◌, arith, ne_eqb, append-nil, append_assoc}
use Rattle.std.proofs.lemmas.List.Elements.{filter-append}
use mathlib.Core.Logic.{dite}
use native.Mathlib.Decide.{ℕ_discrete}
use Rattle.dav_machine.specs.Histories.{HistoryEntry, own, is_of, IsPrefix}
use Rattle.hub_turn.specs.Views.{Member, times, Follow, AllBelow, AllOf}
use Rattle.hub_turn.proofs.Counts.{same_yes}

pub prefix_more : (front one added : List HistoryEntry) → IsPrefix front one → IsPrefix front (one ++ added)
prefix_more front one added p = (p.0 ++ added, ap (λ (es : List HistoryEntry). es ++ added) p.1 ∙ append_assoc front p.0 added)

-- an entry of another's
own_other : (k : ℕ) (e : HistoryEntry) → e.event.pass ≢ k → own k (e ∷ []) ≡ []
own_other k e n = ap (λ (b : Bool). cond b (e ∷ []) []) (ne_eqb e.event.pass k n)

pub own_more : (k : ℕ) (one : List HistoryEntry) (e : HistoryEntry) → e.event.pass ≢ k → own k (one ++ e ∷ []) ≡ own k one
own_more k one e n = filter-append (is_of k) one (e ∷ []) ∙ ap (λ (es : List HistoryEntry). own k one ++ es) (own_other k e n) ∙ append-nil (own k one)

-- members follow a history that gets an entry of none of them
pub follow_more : (one : List HistoryEntry) (e : HistoryEntry) (members : List Member) → times e.event.pass members ≡ 0 → Follow one members → Follow (one ++ e ∷ []) members
follow_more one e [] none f = tt
follow_more one e (x ∷ xs) none f = dite (ℕ_discrete x.number e.event.pass)
    (λ same. absurd (omega (arith, same_yes x.number e.event.pass same)))
    (λ other. (prefix_more x.front one (e ∷ []) f.0, own_more x.number one e (λ s. other (sym s)) ∙ f.1, follow_more one e xs (omega arith) f.2))

pub follow-append : (one : List HistoryEntry) (xs ys : List Member) → Follow one xs → Follow one ys → Follow one (xs ++ ys)
follow-append one [] ys f g = g
follow-append one (x ∷ xs) ys f g = (f.0, f.1, follow-append one xs ys f.2 g)

pub all_below-push : (n : ℕ) (es : List HistoryEntry) (e : HistoryEntry) → AllBelow n es → e.event.pass < n → AllBelow n (es ++ e ∷ [])
all_below-push n [] e a h = (h, tt)
all_below-push n (x ∷ xs) e a h = (a.0, all_below-push n xs e a.1 h)

-- entries below n, where each number below n is a member's
pub all_of_members : (n : ℕ) (members : List Member) → ((k : ℕ) → k < n → 0 < times k members) → (es : List HistoryEntry) → AllBelow n es → AllOf members es
all_of_members n members h [] a = tt
all_of_members n members h (e ∷ es) a = (h e.event.pass a.0, all_of_members n members h es a.1)
