-- The seats of passes, put together, and what the hub is then.
use Rattle.std.proofs.Common.{◌≡◌, ℕ, ◌≤◌, ◌<◌, List, [], ◌∷◌, ◌++◌, length, Option, sym, refl, ap, ◌∙◌, subst, arith, append_assoc}
use Rattle.atomic_table.specs.Seated.{TableId}
use Rattle.atomic_table.specs.Table.{Me}
use Rattle.hub_turn.specs.Cores.{CoreTold, KeeperTold}
use Rattle.dav_machine.specs.Hubs.{IsHubOf}
use Rattle.dav_machine.specs.Origins.{Origin}
use Rattle.dav_machine.specs.Histories.{HistoryEntry}
use Rattle.hub_turn.specs.Views.{Start, Member, SeatView, Follow, AllOf}
use Rattle.hub_turn.specs.Plays.{joined_view, HasAll}
use Rattle.hub_turn.specs.Passes.{PassState, origin_of, member_of, members_of, AreOf, OfOneStart, AreAll, EndsOver, Ended}
use Rattle.hub_turn.specs.Gatherings.{HasMembers, Gathered}
use Rattle.hub_turn.specs.Holding.{IsIdle, HoldsHub}
use Rattle.hub_turn.proofs.Fronts.{all_of_members}

no_table : TableId
no_table = record { words = 0; slots = 0; views_name = 0; atom = 0; block = 0; offset = 0; slot_names = [] }

table_of : List ℕ → TableId
table_of (a ∷ b ∷ c ∷ d ∷ e ∷ f ∷ names) = record { words = a; slots = b; views_name = c; atom = d; block = e; offset = f; slot_names = names }
table_of _ = no_table

-- passes of one origin are of one table
pub same_table : (z z' : TableId) (a a' : Start) → origin_of z a ≡ origin_of z' a' → z ≡ z'
unfolding table_of
same_table z z' a a' e = ap (λ (o : Origin). table_of o.mark) e

are_of_at : (origin : Origin) (xs : List PassState) (p : PassState) (ys : List PassState) → AreOf origin (xs ++ p ∷ ys) → p.origin ≡ origin
are_of_at origin [] p ys a = a.0
are_of_at origin (x ∷ xs) p ys a = are_of_at origin xs p ys a.1

-- all passes of one start have the origin of each
one_origin : (all : List PassState) → OfOneStart all → (xs : List PassState) (p : PassState) → all ≡ xs ++ p ∷ [] → AreOf p.origin all
one_origin [] one xs p e = tt
one_origin (q ∷ qs) one xs p e =
    let a : AreOf q.origin (q ∷ qs) = (refl, one) in
    let same : p.origin ≡ q.origin = are_of_at q.origin xs p [] (subst (AreOf q.origin) e a) in
    subst (λ (o : Origin). AreOf o (q ∷ qs)) (sym same) a

all_enough : (all : List PassState) (origin : Origin) → AreOf origin all → AreAll all → origin.passes ≤ length all
all_enough [] origin of enough = absurd enough
all_enough (p ∷ ps) origin of enough = subst (λ (o : Origin). o.passes ≤ length (p ∷ ps)) of.0 enough

members_length : (ps : List PassState) → length (members_of ps) ≡ length ps
members_length [] = refl
members_length (p ∷ ps) = omega (arith, members_length ps)

pub nil_of : (ps : List PassState) → length ps ≡ 0 → ps ≡ []
nil_of [] e = refl
nil_of (p ∷ ps) e = absurd (omega arith)

module _ {S : Type 0} where
  pub tables : (origin : Origin) (xs ys : List Member) (z z' : TableId) (m m' : Me S SeatView) → HasMembers origin xs z m → HasMembers origin ys z' m' → z ≡ z'
  tables origin xs ys z z' m m' h h' = same_table z z' m.0.about m'.0.about (h.come ∙ sym h'.come)

  pub joined_members : (origin : Origin) (p : PassState) (z z' z'' : TableId) (m w m' : Me S SeatView) → HasMembers origin m.0.members z m → HasMembers origin (member_of p ∷ []) z' w → z'' ≡ z
      → m' ≡ (joined_view m.0 w.0, m.1) → HasMembers origin (member_of p ∷ m.0.members) z'' m'
  joined_members origin p z z' z'' m w m' h h' same e = record {
    have = ap (λ (x : Me S SeatView). x.0.members) e ∙ ap (λ (ms : List Member). ms ++ m.0.members) h'.have;
    idle = ap (λ (x : Me S SeatView). x.0.stage) e ∙ h.idle;
    empty = ap (λ (x : Me S SeatView). x.1) e ∙ h.empty;
    come = (λ i. origin_of (same i) (ap (λ (x : Me S SeatView). x.0.about) e i)) ∙ h.come;
  }

  -- the last pass alone
  pub gathers_first : (all left : List PassState) (p : PassState) (z : TableId) (m : Me S SeatView) → OfOneStart all → all ≡ left ++ p ∷ [] → HasMembers p.origin (member_of p ∷ []) z m → Gathered all left z m
  gathers_first all left p z m one e h = record { origin = p.origin; of = one_origin all one left p e; done = p ∷ []; parts = e; some = omega arith; seat = h }

  left_origin : (all left left' : List PassState) (p : PassState) (z : TableId) (m : Me S SeatView) → (g : Gathered all left z m) → left ≡ left' ++ p ∷ [] → p.origin ≡ g.origin
  left_origin all left left' p z m g e = are_of_at g.origin left' p g.done (subst (AreOf g.origin) (g.parts ∙ ap (λ (xs : List PassState). xs ++ g.done) e ∙ append_assoc left' (p ∷ []) g.done) g.of)

  -- what the seat of the next pass asks
  pub gathers_seat : (all left left' : List PassState) (p : PassState) (z : TableId) (m : Me S SeatView) → Gathered all left z m → left ≡ left' ++ p ∷ [] → HasMembers p.origin m.0.members z m
  gathers_seat all left left' p z m g e = record { have = refl; idle = g.seat.idle; empty = g.seat.empty; come = g.seat.come ∙ sym (left_origin all left left' p z m g e) }

  pub gathers_some : (all left : List PassState) (z : TableId) (m : Me S SeatView) → Gathered all left z m → 0 < length m.0.members
  gathers_some all left z m g = subst (λ (ms : List Member). 0 < length ms) (sym g.seat.have) (omega (arith, members_length g.done, g.some))

  pub gathers_more : (all left left' : List PassState) (p : PassState) (z z' : TableId) (m m' : Me S SeatView) → (g : Gathered all left z m) → left ≡ left' ++ p ∷ [] → HasMembers p.origin (member_of p ∷ m.0.members) z' m'
      → Gathered all left' z' m'
  gathers_more all left left' p z z' m m' g e h = record {
    origin = g.origin;
    of = g.of;
    done = p ∷ g.done;
    parts = g.parts ∙ ap (λ (xs : List PassState). xs ++ g.done) e ∙ append_assoc left' (p ∷ []) g.done;
    some = omega arith;
    seat = record {
      have = h.have ∙ ap (λ (ms : List Member). member_of p ∷ ms) g.seat.have;
      idle = h.idle;
      empty = h.empty;
      come = h.come ∙ left_origin all left left' p z m g e;
    };
  }

  -- where none is left, the seat has them all
  pub gathers_idle : (all left : List PassState) (z : TableId) (m : Me S SeatView) → Gathered all left z m → IsIdle m
  gathers_idle all left z m g = record { idle = g.seat.idle; some = gathers_some all left z m g; empty = g.seat.empty }

  all_done : (all : List PassState) (z : TableId) (m : Me S SeatView) → (g : Gathered all [] z m) → members_of all ≡ m.0.members
  all_done all z m g = ap members_of g.parts ∙ sym g.seat.have

  pub gathers_whole : (all : List PassState) (z : TableId) (m : Me S SeatView) → Gathered all [] z m → AreAll all → HasAll m.0
  gathers_whole all z m g enough =
      let passes : m.0.about.passes ≡ g.origin.passes = ap (λ (o : Origin). o.passes) g.seat.come in
      let e = all_enough all g.origin g.of enough in
      let l : length m.0.members ≡ length all = ap length (sym (all_done all z m g)) ∙ members_length all in
      omega arith

module _ {H : Type 0} (tells : H → CoreTold) where
  ends_at : (all : List PassState) (z : TableId) (m m' : Me (Option H) SeatView) (hub : H) (g : Gathered all [] z m) → AreAll all → HoldsHub tells m.0 hub m'
      → IsHubOf (tells hub).opening (tells hub).state (tells hub).history (tells hub).first.faults (tells hub).now.faults → EndsOver tells g.origin all hub
  ends_at all z m m' hub g enough h kept =
      let whole = gathers_whole all z m g enough in
      let members = all_done all z m g in
      let come = g.seat.come in
      record {
        enough = all_enough all g.origin g.of enough;
        opening = h.stands.opening ∙ ap (λ (o : Origin). o.opening) come;
        faults = ap (λ (k : KeeperTold). k.faults) h.stands.first ∙ ap (λ (o : Origin). o.faults) come;
        first_kept = ap (λ (k : KeeperTold). k.kept) h.stands.first ∙ ap (λ (o : Origin). o.kept) come;
        follow = subst (λ (x : List HistoryEntry × List Member). Follow x.0 x.1) (λ i. (sym h.stands.is i, sym members i)) h.follow;
        rest = h.begun.rest;
        begins = h.stands.is ∙ h.begun.begins ∙ ap (λ (o : Origin). o.history ++ h.begun.rest) come;
        authors = subst (λ (ms : List Member). AllOf ms h.begun.rest) (sym members) (all_of_members m.0.about.passes m.0.members (h.whole whole) h.begun.rest h.begun.authors);
        holds = kept;
      }

  pub ends : (all : List PassState) (z : TableId) (m m' : Me (Option H) SeatView) (hub : H) → Gathered all [] z m → AreAll all → HoldsHub tells m.0 hub m'
      → IsHubOf (tells hub).opening (tells hub).state (tells hub).history (tells hub).first.faults (tells hub).now.faults → Ended tells all hub
  ends [] z m m' hub g enough h kept = enough
  ends (p ∷ ps) z m m' hub g enough h kept = subst (λ (o : Origin). EndsOver tells o (p ∷ ps) hub) (sym g.of.0) (ends_at (p ∷ ps) z m m' hub g enough h kept)
