-- The tests that views are counted by.
use Rattle.std.proofs.Common.{◌≡◌, ◌≢◌, ℕ, ◌+◌, ◌==◌, ◌≤◌, ◌<◌, List, [], ◌∷◌, ◌++◌, length, refl, ap, ◌∙◌, arith, eq-eqb, ne_eqb, lt-ltb, le-ltb}
use mathlib.Core.Logic.{dite}
use native.Mathlib.Decide.{ℕ_discrete, dec_le}
use Rattle.dav_machine.specs.Histories.{one_if, HistoryEntry}
use Rattle.hub_turn.specs.Views.{Start, Member, Stage, Founding, Idle, Queued, Served, times, has_ticket, is_served, below}
use Rattle.hub_turn.specs.Rule.{IsServing, Homes}
use Rattle.hub_turn.specs.Plays.{IsOfFirst}

pub same_yes : (a b : ℕ) → a ≡ b → one_if (a == b) ≡ 1
same_yes a b e = ap one_if (eq-eqb a b e)

pub same_no : (a b : ℕ) → a ≢ b → one_if (a == b) ≡ 0
same_no a b n = ap one_if (ne_eqb a b n)

pub below_yes : (k n : ℕ) → k < n → below k n ≡ 1
below_yes k n h = ap one_if (lt-ltb k n h)

pub below_no : (k n : ℕ) → n ≤ k → below k n ≡ 0
below_no k n h = ap one_if (le-ltb k n h)

pub below_le : (k n : ℕ) → below k n ≤ 1
below_le k n = dite (dec_le n k) (λ h. omega (arith, below_no k n h)) (λ h. omega (arith, below_yes k n (omega arith)))

pub below_zero : (k n : ℕ) → below k n ≡ 0 → n ≤ k
below_zero k n e = dite (dec_le n k) (λ h. h) (λ h. absurd (omega (arith, below_yes k n (omega arith))))

pub below_one : (k n : ℕ) → 1 ≤ below k n → k < n
below_one k n e = dite (dec_le n k) (λ h. absurd (omega (arith, below_no k n h))) (λ h. omega arith)

pub below_more : (t n : ℕ) → below t (n + 1) ≡ below t n + one_if (n == t)
below_more t n = dite (dec_le (n + 1) t)
    (λ h. omega (arith, below_no t (n + 1) h, below_no t n (omega arith), same_no n t (λ e. omega arith)))
    (λ h. dite (ℕ_discrete n t)
    (λ e. omega (arith, below_yes t (n + 1) (omega arith), below_no t n (omega arith), same_yes n t e))
    (λ ne. omega (arith, below_yes t (n + 1) (omega arith), below_yes t n (omega arith), same_no n t ne)))

-- ---- stages

pub has_queued : (t : ℕ) (stage : Stage) → stage ≡ Queued t → has_ticket t stage ≡ 1
has_queued t stage e = ap (has_ticket t) e ∙ same_yes t t refl

pub has_served : (t : ℕ) (one : List HistoryEntry) (stage : Stage) → stage ≡ Served t one → has_ticket t stage ≡ 1
has_served t one stage e = ap (has_ticket t) e ∙ same_yes t t refl

module _ {H : Type 0} (about : Start) (homes : Homes H) (one : List HistoryEntry) (served : ℕ) where
  -- a view that has found its ticket served holds that ticket
  pub served_has : (stage : Stage) → IsServing about homes one served stage → is_served stage ≤ has_ticket served stage
  served_has Founding k = omega (arith, same_yes 0 served k.0)
  served_has Idle k = omega arith
  served_has (Queued t) k = omega arith
  served_has (Served t seen) k = omega (arith, same_yes t served k.0)

  -- a view that has not found its ticket served says nothing of it
  pub not_serving : (stage : Stage) → is_served stage ≡ 0 → IsServing about homes one served stage
  not_serving Founding e = absurd (omega arith)
  not_serving Idle e = tt
  not_serving (Queued t) e = tt
  not_serving (Served t seen) e = absurd (omega arith)

-- ---- members

pub times-append : (k : ℕ) (xs ys : List Member) → times k (xs ++ ys) ≡ times k xs + times k ys
times-append k [] ys = omega arith
times-append k (x ∷ xs) ys = omega (arith, times-append k xs ys)

-- no number stands more often than there are members
pub times_le : (k : ℕ) (xs : List Member) → times k xs ≤ length xs
times_le k [] = omega arith
times_le k (x ∷ xs) = dite (ℕ_discrete x.number k) (λ e. omega (arith, same_yes x.number k e, times_le k xs)) (λ ne. omega (arith, same_no x.number k ne, times_le k xs))

pub first_times : (k : ℕ) (xs : List Member) → IsOfFirst k xs → 0 < times k xs
first_times k [] h = absurd h
first_times k (x ∷ xs) h = omega (arith, same_yes x.number k h)
