-- Bodies by chunks: how long they are, and where more bytes follow.
use Rattle.std.proofs.Common.{◌≡◌, ℕ, ◌+◌, ◌<◌, ◌≤◌, true, false, List, [], ◌∷◌, ◌++◌, length, drop, nat_lt, refl, sym, ap, ◌∙◌, subst, arith, length-drop, Some}
use Rattle.std.specs.Prelude.{◌==◌}
use Rattle.std.proofs.lemmas.Bool.Decides.{nat_tests}
use Rattle.std.proofs.lemmas.List.{drop-append-le}
use Rattle.http_front.specs.declared.byte_place.BytePlace.TheVariants.{Between}
use Rattle.http_front.specs.declared.size_line.SizeLine.{SizeLine}
use Rattle.http_front.specs.declared.size_line.SizeLine.TheVariants.{Line, Unended, Unreadable}
use Rattle.http_front.specs.Chunks.{IsSizeLine, EndsBody, IsContent, chunk_step, after_data, after_last, placed_after}
use Rattle.http_front.specs.Outcomes.{Outcome, Whole, Part, Refused}
use Rattle.http_front.specs.Sections.{section_from}
use Rattle.http_front.proofs.ChunkLemmas.{line_length, line_stable, unreadable_stable, data_wrong_stable, chunks_within, has_stable}
use Rattle.http_front.proofs.SectionLemmas.{section_stable, section_fits, section_rises}

-- more bytes don't change it
abbrev pub IsFinal : {A : Type 0} → Outcome A → Type 0
IsFinal (Whole x n) = Unit {0}
IsFinal Part = ⊥
IsFinal (Refused why) = Unit {0}

some_same : {A : Type 0} (x y : A) → Some x ≡ Some y → x ≡ y
some_same x y e = cc

part_not_final : (x : Outcome (List ℕ)) → Part ≡ x → IsFinal x → ⊥
part_not_final x e f = subst IsFinal (sym e) f

no_whole : (bytes t : List ℕ) (n : ℕ) → after_data bytes ≡ Some (Whole t n) → ⊥
no_whole [] t n e = cc
no_whole (b ∷ []) t n e = elim (b == 13) as (λ v. (b == 13) ≡ v → ⊥) [ true ↦ λ h. cc (rw h at e) | false ↦ λ h. cc (rw h at e) ] refl
no_whole (b ∷ c ∷ bytes) t n e =
    elim (b == 13) as (λ v. (b == 13) ≡ v → ⊥) [
      | true ↦ λ h. elim (c == 10) as (λ v. (c == 10) ≡ v → ⊥) [ true ↦ λ k. cc (rw (h, k) at e) | false ↦ λ k. cc (rw (h, k) at e) ] refl
      | false ↦ λ h. cc (rw h at e)
    ] refl

data_final : (bytes more : List ℕ) (x : Outcome (List ℕ)) → IsFinal x → after_data bytes ≡ Some x → (1 ≤ length bytes) × (after_data (bytes ++ more) ≡ Some x)
data_final [] more x f e = absurd (part_not_final x (some_same Part x e) f)
data_final (b ∷ bytes) more (Whole t n) f e = (omega arith, absurd (no_whole (b ∷ bytes) t n e))
data_final (b ∷ bytes) more Part f e = absurd f
data_final (b ∷ bytes) more (Refused why) f e = (omega arith, data_wrong_stable (b ∷ bytes) more why e)

last_final : (body : List ℕ) (n : ℕ) (bytes more : List ℕ) (x : Outcome (List ℕ)) → IsFinal x → after_last body n (section_from Between bytes) ≡ x → after_last body n (section_from Between (bytes ++ more)) ≡ x
last_final body n bytes more x f e =
    elim (nat_lt 16384 (section_from Between bytes).lines) as (λ v. nat_lt 16384 (section_from Between bytes).lines ≡ v → after_last body n (section_from Between (bytes ++ more)) ≡ x) [
      | true ↦ λ t.
          let long : 16384 < (section_from Between bytes).lines = grind (arith, nat_tests) in
          let test : nat_lt 16384 (section_from Between (bytes ++ more)).lines ≡ true = grind (arith, nat_tests, section_rises Between bytes more) in
          rw test (rw t at e)
      | false ↦ λ t.
          elim (nat_lt 0 (section_from Between bytes).closing) as (λ v. nat_lt 0 (section_from Between bytes).closing ≡ v → after_last body n (section_from Between (bytes ++ more)) ≡ x) [
            | true ↦ λ u. ap (after_last body n) (section_stable Between bytes more (grind (arith, nat_tests))) ∙ e
            | false ↦ λ u. absurd (part_not_final x (rw (t, u) at e) f)
          ] refl
    ] refl

step_final : (body bytes more : List ℕ) (n size : ℕ) (x : Outcome (List ℕ)) → n ≤ length bytes → IsFinal x → chunk_step body (Line n size) bytes ≡ Some x → chunk_step body (Line n size) (bytes ++ more) ≡ Some x
step_final body bytes more n size x fits f e =
    elim (size == 0) as (λ v. (size == 0) ≡ v → chunk_step body (Line n size) (bytes ++ more) ≡ Some x) [
      | true ↦ λ t.
          rw t (ap (λ rest. Some (after_last body n (section_from Between rest))) (drop-append-le n bytes more fits)
          ∙ ap (λ y. Some y) (last_final body n (drop n bytes) more x f (some_same _ x (rw t at e))))
      | false ↦ λ t.
          elim (nat_lt 16777216 (length body + size)) as (λ v. nat_lt 16777216 (length body + size) ≡ v → chunk_step body (Line n size) (bytes ++ more) ≡ Some x) [
            | true ↦ λ u. rw (t, u) (rw (t, u) at e)
            | false ↦ λ u.
                let still = data_final (drop (n + size) bytes) more x f (rw (t, u) at e) in
                rw (t, u) (ap after_data (drop-append-le (n + size) bytes more (omega (arith, still.0, length-drop (n + size) bytes))) ∙ still.1)
          ] refl
    ] refl

pub ends_stable : (body bytes more : List ℕ) (x : Outcome (List ℕ)) (line : SizeLine) → IsSizeLine bytes line → chunk_step body line bytes ≡ Some x → IsFinal x → EndsBody body (bytes ++ more) x
ends_stable body bytes more x (Line n size) is_line e f = record {
  line = Line n size;
  is_line = line_stable bytes more n size is_line;
  ends = step_final body bytes more n size x (line_length bytes n size is_line).1 f e;
}
ends_stable body bytes more x Unended is_line e f = absurd (part_not_final x (some_same Part x e) f)
ends_stable body bytes more x Unreadable is_line e f = record {
  line = Unreadable;
  is_line = unreadable_stable bytes more is_line;
  ends = e;
}

moved_final : (used : ℕ) (x y : Outcome (List ℕ)) → x ≡ placed_after used y → IsFinal x → IsFinal y
moved_final used x (Whole b n) e f = tt
moved_final used x Part e f = part_not_final x (sym e) f
moved_final used x (Refused why) e f = tt

pub content_stable : (bytes more : List ℕ) (x : Outcome (List ℕ)) → IsContent bytes x → IsFinal x → IsContent (bytes ++ more) x
content_stable bytes more x c f =
    let within = chunks_within c.chunks.chunks [] bytes c.body c.used c.chunks.are in
    record {
      body = c.body;
      used = c.used;
      ending = c.ending;
      chunks = has_stable bytes more c.body c.used c.chunks;
      ends = subst (λ t. EndsBody c.body t c.ending) (sym (drop-append-le c.used bytes more within)) (ends_stable c.body (drop c.used bytes) more c.ending c.ends.line c.ends.is_line c.ends.ends (moved_final c.used x c.ending c.is f));
      is = c.is;
    }

-- ---- lengths

whole_size : (a b : List ℕ) (n m : ℕ) → Whole a n ≡ Whole b m → n ≡ m
whole_size a b n m e = cc

last_size : (body : List ℕ) (n : ℕ) (bytes b : List ℕ) (m : ℕ) → after_last body n (section_from Between bytes) ≡ Whole b m → m ≤ n + length bytes
last_size body n bytes b m e =
    elim (nat_lt 16384 (section_from Between bytes).lines) as (λ v. nat_lt 16384 (section_from Between bytes).lines ≡ v → m ≤ n + length bytes) [
      | true ↦ λ t. cc (rw t at e)
      | false ↦ λ t.
          elim (nat_lt 0 (section_from Between bytes).closing) as (λ v. nat_lt 0 (section_from Between bytes).closing ≡ v → m ≤ n + length bytes) [
            | true ↦ λ u.
                let some : 0 < (section_from Between bytes).closing = grind (arith, nat_tests) in
                let is : n + (section_from Between bytes).lines + (section_from Between bytes).closing ≡ m = whole_size body b _ m (rw (t, u) at e) in
                omega (arith, is, section_fits Between bytes some)
            | false ↦ λ u. cc (rw (t, u) at e)
          ] refl
    ] refl

step_size : (body bytes b : List ℕ) (m n size : ℕ) → n ≤ length bytes → chunk_step body (Line n size) bytes ≡ Some (Whole b m) → m ≤ length bytes
step_size body bytes b m n size fits e =
    elim (size == 0) as (λ v. (size == 0) ≡ v → m ≤ length bytes) [
      | true ↦ λ t. omega (arith, last_size body n (drop n bytes) b m (some_same _ (Whole b m) (rw t at e)), length-drop n bytes)
      | false ↦ λ t.
          elim (nat_lt 16777216 (length body + size)) as (λ v. nat_lt 16777216 (length body + size) ≡ v → m ≤ length bytes) [
            | true ↦ λ u. cc (rw (t, u) at e)
            | false ↦ λ u. absurd (no_whole (drop (n + size) bytes) b m (rw (t, u) at e))
          ] refl
    ] refl

ends_size : (body bytes b : List ℕ) (m : ℕ) (line : SizeLine) → IsSizeLine bytes line → chunk_step body line bytes ≡ Some (Whole b m) → m ≤ length bytes
ends_size body bytes b m (Line n size) is_line e = step_size body bytes b m n size (line_length bytes n size is_line).1 e
ends_size body bytes b m Unended is_line e = cc
ends_size body bytes b m Unreadable is_line e = cc

moved_size : (used most : ℕ) (b : List ℕ) (n : ℕ) (y : Outcome (List ℕ)) → Whole b n ≡ placed_after used y → ((a : List ℕ) (m : ℕ) → y ≡ Whole a m → used + m ≤ most) → n ≤ most
moved_size used most b n (Whole a m) e bound = omega (arith, bound a m refl, whole_size b a n (used + m) e)
moved_size used most b n Part e bound = cc
moved_size used most b n (Refused why) e bound = cc

-- a body by chunks has no more bytes than are there
pub content_size : (bytes body : List ℕ) (n : ℕ) → IsContent bytes (Whole body n) → n ≤ length bytes
content_size bytes body n c =
    let within = chunks_within c.chunks.chunks [] bytes c.body c.used c.chunks.are in
    moved_size c.used (length bytes) body n c.ending c.is
    (λ a m e. omega (arith, ends_size c.body (drop c.used bytes) a m c.ends.line c.ends.is_line (c.ends.ends ∙ ap (λ y. Some y) e), within, length-drop c.used bytes))
