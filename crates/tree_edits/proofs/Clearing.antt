-- Edits without what was touched below a path.
use Rattle.std.proofs.Common.{◌≡◌, ℕ, ◌<◌, Bool, true, false, cond, not, List, ◌∷◌, ◌++◌, Option, None, Some, length, refl, sym, ap, ◌∙◌, arith, length-append}
use Rattle.std.specs.Str.{bytes_eq}
use Rattle.std.specs.Ordering.{nat_cmp}
use Rattle.std.specs.Cmp.Lexicographic.{slice_cmp}
use Rattle.std.specs.FinMap.Entries.{find-where_key}
use Rattle.std.proofs.lemmas.Bool.{and_parts, and_from}
use Rattle.std.proofs.lemmas.Map.Lookups.{exact_bytes}
use Rattle.dsv_base.specs.Paths.{is_path, is_under, root_text, parent_text}
use Rattle.dsv_base.proofs.Joins.{parent_is_path}
use Rattle.rev_nodes.specs.declared.cell.Cell.{Cell}
use Rattle.rev_nodes.proofs.Below.{differ, front_long, behind, under_parent, under_itself}
use Rattle.tree_edits.specs.Edits.{Held, Touched, touched_at}
use Rattle.tree_edits.specs.AreEdits.{IsInDir, AreTouched}
use Rattle.tree_edits.specs.Hanging.{is_below, cleared}
use Rattle.tree_edits.proofs.Lists.{order-cleared}
use Rattle.tree_edits.proofs.Kept.{shorter_parent}

pub touched-cleared : (path : List ℕ) (touched : Touched) (q : List ℕ) → touched_at (cleared path touched) q ≡ cond (not (is_below q path)) (touched_at touched q) None
touched-cleared path touched q = find-where_key (slice_cmp nat_cmp) (λ p. not (is_below p path)) q (λ x e. ap (λ p. not (is_below p path)) (sym (exact_bytes q x e))) touched

-- what is kept was there, and isn't below the path
pub kept_was : (path : List ℕ) (touched : Touched) (q : List ℕ) (edit : Option Held) → touched_at (cleared path touched) q ≡ Some edit → (is_below q path ≡ false) × (touched_at touched q ≡ Some edit)
kept_was path touched q edit e = by (is_below q path) refl (sym (touched-cleared path touched q) ∙ e)
  where
    by : (b : Bool) → is_below q path ≡ b → cond (not b) (touched_at touched q) None ≡ Some edit → (is_below q path ≡ false) × (touched_at touched q ≡ Some edit)
    by true f e = absurd (cc e)
    by false f e = (f, e)

pub still_there : (path : List ℕ) (touched : Touched) (q : List ℕ) → is_below q path ≡ false → touched_at (cleared path touched) q ≡ touched_at touched q
still_there path touched q f = touched-cleared path touched q ∙ ap (λ b. cond (not b) (touched_at touched q) None) f

module _ (path : List ℕ) (one : is_path path ≡ true) (other : bytes_eq path root_text ≡ false) where
  unequal : (b : Bool) → not b ≡ true → b ≡ false
  unequal true h = absurd (cc)
  unequal false h = refl

  pub longer_below : (p : List ℕ) → is_path p ≡ true → is_below p path ≡ true → length path < length p
  longer_below p p_one below =
      let parts = and_parts (not (bytes_eq p path)) (is_under p path) below in
      let far = behind p path p_one parts.1 (unequal (bytes_eq p path) parts.0) in
      let l = ap length (far.is ∙ ap (λ f. f ++ 47 ∷ far.rest) (front_long path other)) in
      let n = length-append path (47 ∷ far.rest) in
      omega (arith, l, n)

  below_parent : (q p : List ℕ) → is_path q ≡ true → parent_text q ≡ Some p → is_below p path ≡ true → is_below q path ≡ true
  below_parent q p q_one is below =
      let p_one = parent_is_path q p q_one is in
      let parts = and_parts (not (bytes_eq p path)) (is_under p path) below in
      let far = longer_below p p_one below in
      let more = shorter_parent q p q_one is in
      let apart : bytes_eq q path ≡ false = differ q path (λ e. let l = ap length e in absurd (omega (arith, l, far, more))) in
      and_from (not (bytes_eq q path)) (is_under q path) (ap not apart) (under_parent q p path q_one one other is p_one parts.1)

  -- edits stay edits
  pub cleared_kept : (r : ℕ) (cells : List Cell) (touched : Touched) → AreTouched r cells touched → AreTouched r cells (cleared path touched)
  cleared_kept r cells touched a = record {
    sorted = order-cleared path touched a.sorted;
    placed = λ q edit e.
        let was = kept_was path touched q edit e in
        let old = a.placed q edit was.1 in
        record {
          one = old.one;
          parents = λ p is. moved q p edit old.one is was.0 (old.parents p is) (is_below p path) refl;
          stands = old.stands;
        };
    held = λ q h e. a.held q h (kept_was path touched q (Some h) e).1;
  }
    where
      moved : (q p : List ℕ) (edit : Option Held) → is_path q ≡ true → parent_text q ≡ Some p → is_below q path ≡ false → IsInDir touched p edit → (b : Bool) → is_below p path ≡ b → IsInDir (cleared path touched) p edit
      moved q p edit q_one is apart d true f = absurd (let u = below_parent q p q_one is f in cc (u, apart))
      moved q p edit q_one is apart d false f = record { above = d.above; there = still_there path touched p f ∙ d.there; dir = d.dir; created = d.created; since = d.since }

  -- and nothing is touched below the path
  pub none_touched : (touched : Touched) (q : List ℕ) (edit : Option Held) → is_path q ≡ true → touched_at (cleared path touched) q ≡ Some edit → parent_text q ≡ Some path → ⊥
  none_touched touched q edit q_one e is =
      let was = kept_was path touched q edit e in
      let more = shorter_parent q path q_one is in
      let apart : bytes_eq q path ≡ false = differ q path (λ s. let l = ap length s in absurd (omega (arith, l, more))) in
      let u : is_below q path ≡ true = and_from (not (bytes_eq q path)) (is_under q path) (ap not apart) (under_parent q path path q_one one other is one (under_itself path)) in
      cc (u, was.0)
