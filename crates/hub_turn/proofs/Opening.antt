-- The table at the start meets the rule.
use Rattle.std.proofs.Common.{◌≡◌, ℕ, zero, suc, ◌+◌, ◌≤◌, ◌<◌, List, [], ◌∷◌, length, None, sym, refl, ap, subst, arith, append-nil}
use mathlib.Core.Option.{some, some-injective, some-ne-none}
use lib.ListN.{get_elem?}
use Rattle.atomic_table.specs.Table.{opening}
use Rattle.dav_machine.specs.Histories.{HistoryEntry}
use Rattle.hub_turn.specs.Cores.{CoreTold}
use Rattle.hub_turn.specs.Starts.{members_from, whole}
use Rattle.hub_turn.specs.Views.{Start, SeatView, times, below, Follow}
use Rattle.hub_turn.specs.Rule.{Knows, Ruled}
use Rattle.hub_turn.proofs.Counts.{below_no, below_more}

pub from_length : (n : ℕ) (front : List HistoryEntry) (k : ℕ) → length (members_from n front k) ≡ n
from_length zero front k = refl
from_length (suc n) front k = omega (arith, from_length n front (k + 1))

from_follow : (n : ℕ) (front : List HistoryEntry) (k : ℕ) → Follow front (members_from n front k)
from_follow zero front k = tt
from_follow (suc n) front k = (([], sym (append-nil front)), refl, from_follow n front (k + 1))

-- the numbers from k on
from_times : (n : ℕ) (front : List HistoryEntry) (k x : ℕ) → times x (members_from n front k) + below x k ≡ below x (k + n)
from_times zero front k x = let e : below x k ≡ below x (k + 0) = ap (below x) (omega arith) in omega arith
from_times (suc n) front k x =
    let h = from_times n front (k + 1) x in
    let e : below x ((k + 1) + n) ≡ below x (k + suc n) = ap (below x) (omega arith) in
    omega (arith, below_more x k)

module _ {H : Type 0} (tells : H → CoreTold) (about : Start) where
  knows_whole : 0 < about.passes → Knows {H = H} about (some None ∷ []) about.history 0 (whole about)
  knows_whole many = record { of = λ _. refl; follow = from_follow about.passes about.history 0; serving = (refl, refl, refl); some = omega (arith, from_length about.passes about.history 0) }

  only_one : 0 < about.passes → (i : ℕ) (v : SeatView) → get_elem? (whole about ∷ []) i ≡ some v → Knows {H = H} about (some None ∷ []) about.history 0 v
  only_one many zero v e = subst (Knows about (some None ∷ []) about.history 0) (some-injective (whole about) v e) (knows_whole many)
  only_one many (suc i) v e = absurd (some-ne-none v (sym e))

  pub opens : (count : ℕ) → 0 < about.passes → about.passes ≤ 64 → count ≡ length about.history → Ruled tells about (opening (1 ∷ 0 ∷ count ∷ []) (None ∷ []) (whole about))
  opens count many few len = record {
    one = about.history;
    taken = 1;
    served = 0;
    words = ap (λ (n : ℕ). 1 ∷ 0 ∷ n ∷ []) len;
    each = only_one many;
    begun = record { rest = []; begins = sym (append-nil about.history); authors = tt };
    numbers = λ k. let h = from_times about.passes about.history 0 k in let z = below_no k 0 (omega arith) in let e : below k (0 + about.passes) ≡ below k about.passes = ap (below k) (omega arith) in omega arith;
    counted = omega (arith, from_length about.passes about.history 0);
    few = few;
    tickets = λ t. omega (arith, below_no t 0 (omega arith), below_more t 0);
    waiting = refl;
    home = λ z. absurd (omega arith);
  }
