-- Sections where more bytes follow.
use Rattle.std.proofs.Common.{◌≡◌, ℕ, ◌+◌, ◌<◌, ◌≤◌, true, false, List, [], ◌∷◌, ◌++◌, length, take, drop, nat_lt, refl, sym, ap, ◌∙◌, arith, append_assoc, length-append, length-take, Some, None}
use Rattle.std.specs.Prelude.{◌==◌}
use Rattle.std.proofs.lemmas.Bool.Decides.{nat_tests}
use Rattle.std.proofs.lemmas.List.{drop-append-le}
use Rattle.http_front.specs.declared.byte_place.BytePlace.{BytePlace}
use Rattle.http_front.specs.declared.byte_place.BytePlace.TheVariants.{Before, Between, Inside}
use Rattle.http_front.specs.declared.scan.Scan.{Scan}
use Rattle.http_front.specs.declared.line_section.LineSection.{LineSection}
use Rattle.http_front.specs.Scans.{IsScanned, further}
use Rattle.http_front.specs.Sections.{section_from, section_length, one_more, begins_with_line_end, is_return_alone, place_after, head_length}
use Rattle.http_front.proofs.ScanLemmas.{line_end_fits}
use Rattle.http_front.proofs.ChunkLemmas.{take_longer}

abbrev IsStable : BytePlace → List ℕ → List ℕ → Type 0
IsStable place bytes more = 0 < (section_from place bytes).closing → section_from place (bytes ++ more) ≡ section_from place bytes

-- a section that has ended stays, whatever follows
pub section_stable : (place : BytePlace) (bytes more : List ℕ) → IsStable place bytes more
section_stable Inside [] more h = absurd (omega (arith, h))
section_stable Inside (b ∷ bytes) more h = ap one_more (section_stable (place_after b) bytes more h)
section_stable Between [] more h = absurd (omega (arith, h))
section_stable Between (b ∷ []) more h =
    elim (b == 10) as (λ v. (b == 10) ≡ v → section_from Between (b ∷ more) ≡ section_from Between (b ∷ [])) [
      | true ↦ λ e. rw e refl
      | false ↦ λ e.
          elim (b == 13) as (λ v. (b == 13) ≡ v → section_from Between (b ∷ more) ≡ section_from Between (b ∷ [])) [
            | true ↦ λ f. absurd (omega (arith, rw (e, f) at h))
            | false ↦ λ f. absurd (omega (arith, rw (e, f) at h))
          ] refl
    ] refl
section_stable Between (b ∷ c ∷ bytes) more h =
    elim (begins_with_line_end (b ∷ c ∷ bytes)) as (λ v. begins_with_line_end (b ∷ c ∷ bytes) ≡ v → section_from Between (b ∷ c ∷ (bytes ++ more)) ≡ section_from Between (b ∷ c ∷ bytes)) [
      | true ↦ λ e. rw e refl
      | false ↦ λ e. rw e (ap one_more (section_stable Inside (c ∷ bytes) more (rw e at h)))
    ] refl
section_stable Before [] more h = absurd (omega (arith, h))
section_stable Before (b ∷ []) more h =
    elim (b == 10) as (λ v. (b == 10) ≡ v → section_from Before (b ∷ more) ≡ section_from Before (b ∷ [])) [
      | true ↦ λ e. absurd (omega (arith, rw e at h))
      | false ↦ λ e.
          elim (b == 13) as (λ v. (b == 13) ≡ v → section_from Before (b ∷ more) ≡ section_from Before (b ∷ [])) [
            | true ↦ λ f. absurd (omega (arith, rw (e, f) at h))
            | false ↦ λ f. absurd (omega (arith, rw (e, f) at h))
          ] refl
    ] refl
section_stable Before (b ∷ c ∷ bytes) more h =
    elim (begins_with_line_end (b ∷ c ∷ bytes)) as (λ v. begins_with_line_end (b ∷ c ∷ bytes) ≡ v → section_from Before (b ∷ c ∷ (bytes ++ more)) ≡ section_from Before (b ∷ c ∷ bytes)) [
      | true ↦ λ e. rw e (ap one_more (section_stable Before (c ∷ bytes) more (rw e at h)))
      | false ↦ λ e. rw e (ap one_more (section_stable Inside (c ∷ bytes) more (rw e at h)))
    ] refl

-- a section that has ended lies in the bytes
pub section_fits : (place : BytePlace) (bytes : List ℕ) → 0 < (section_from place bytes).closing → (section_from place bytes).lines + (section_from place bytes).closing ≤ length bytes
section_fits Inside [] h = absurd (omega (arith, h))
section_fits Inside (b ∷ bytes) h = omega (arith, section_fits (place_after b) bytes h)
section_fits Between [] h = absurd (omega (arith, h))
section_fits Between (b ∷ bytes) h =
    elim (begins_with_line_end (b ∷ bytes)) as (λ v. begins_with_line_end (b ∷ bytes) ≡ v → (section_from Between (b ∷ bytes)).lines + (section_from Between (b ∷ bytes)).closing ≤ length (b ∷ bytes)) [
      | true ↦ λ e. rw e (omega (arith, line_end_fits (b ∷ bytes)))
      | false ↦ λ e.
          elim (is_return_alone (b ∷ bytes)) as (λ v. is_return_alone (b ∷ bytes) ≡ v → (section_from Between (b ∷ bytes)).lines + (section_from Between (b ∷ bytes)).closing ≤ length (b ∷ bytes)) [
            | true ↦ λ f. absurd (omega (arith, rw (e, f) at h))
            | false ↦ λ f. rw (e, f) (omega (arith, section_fits Inside bytes (rw (e, f) at h)))
          ] refl
    ] refl
section_fits Before [] h = absurd (omega (arith, h))
section_fits Before (b ∷ bytes) h =
    elim (begins_with_line_end (b ∷ bytes)) as (λ v. begins_with_line_end (b ∷ bytes) ≡ v → (section_from Before (b ∷ bytes)).lines + (section_from Before (b ∷ bytes)).closing ≤ length (b ∷ bytes)) [
      | true ↦ λ e. rw e (omega (arith, section_fits Before bytes (rw e at h)))
      | false ↦ λ e.
          elim (is_return_alone (b ∷ bytes)) as (λ v. is_return_alone (b ∷ bytes) ≡ v → (section_from Before (b ∷ bytes)).lines + (section_from Before (b ∷ bytes)).closing ≤ length (b ∷ bytes)) [
            | true ↦ λ f. absurd (omega (arith, rw (e, f) at h))
            | false ↦ λ f. rw (e, f) (omega (arith, section_fits Inside bytes (rw (e, f) at h)))
          ] refl
    ] refl

inside_some : (bytes : List ℕ) → 1 ≤ (section_from Inside bytes).lines
inside_some [] = omega arith
inside_some (b ∷ bytes) = omega arith

-- more bytes make no fewer
pub section_rises : (place : BytePlace) (bytes more : List ℕ) → (section_from place bytes).lines ≤ (section_from place (bytes ++ more)).lines
section_rises Inside [] more = inside_some more
section_rises Inside (b ∷ bytes) more = omega (arith, section_rises (place_after b) bytes more)
section_rises Between [] more = omega arith
section_rises Between (b ∷ []) [] = omega arith
section_rises Between (b ∷ []) (c ∷ more) =
    elim (b == 10) as (λ v. (b == 10) ≡ v → (section_from Between (b ∷ [])).lines ≤ (section_from Between (b ∷ c ∷ more)).lines) [
      | true ↦ λ e. rw e (omega arith)
      | false ↦ λ e.
          elim (b == 13) as (λ v. (b == 13) ≡ v → (section_from Between (b ∷ [])).lines ≤ (section_from Between (b ∷ c ∷ more)).lines) [
            | true ↦ λ f. rw (e, f) (omega arith)
            | false ↦ λ f. rw (e, f) (omega (arith, inside_some (c ∷ more)))
          ] refl
    ] refl
section_rises Between (b ∷ c ∷ bytes) more =
    elim (begins_with_line_end (b ∷ c ∷ bytes)) as (λ v. begins_with_line_end (b ∷ c ∷ bytes) ≡ v → (section_from Between (b ∷ c ∷ bytes)).lines ≤ (section_from Between (b ∷ c ∷ (bytes ++ more))).lines) [
      | true ↦ λ e. rw e (omega arith)
      | false ↦ λ e. rw e (omega (arith, section_rises Inside (c ∷ bytes) more))
    ] refl
section_rises Before [] more = omega arith
section_rises Before (b ∷ []) [] = omega arith
section_rises Before (b ∷ []) (c ∷ more) =
    elim (b == 10) as (λ v. (b == 10) ≡ v → (section_from Before (b ∷ [])).lines ≤ (section_from Before (b ∷ c ∷ more)).lines) [
      | true ↦ λ e. rw e (omega arith)
      | false ↦ λ e.
          elim (b == 13) as (λ v. (b == 13) ≡ v → (section_from Before (b ∷ [])).lines ≤ (section_from Before (b ∷ c ∷ more)).lines) [
            | true ↦ λ f. rw (e, f) (omega arith)
            | false ↦ λ f. rw (e, f) (omega (arith, inside_some (c ∷ more)))
          ] refl
    ] refl
section_rises Before (b ∷ c ∷ bytes) more =
    elim (begins_with_line_end (b ∷ c ∷ bytes)) as (λ v. begins_with_line_end (b ∷ c ∷ bytes) ≡ v → (section_from Before (b ∷ c ∷ bytes)).lines ≤ (section_from Before (b ∷ c ∷ (bytes ++ more))).lines) [
      | true ↦ λ e. rw e (omega (arith, section_rises Before (c ∷ bytes) more))
      | false ↦ λ e. rw e (omega (arith, section_rises Inside (c ∷ bytes) more))
    ] refl

pub scanned_stable : (first : BytePlace) (bytes more : List ℕ) (scan : Scan) → IsScanned first bytes scan → IsScanned first (bytes ++ more) scan
scanned_stable first bytes more scan x = record {
  within = omega (arith, x.within, length-append bytes more);
  goes = λ rest.
      ap (section_from first) (append_assoc bytes more rest) ∙ x.goes (more ++ rest)
      ∙ ap (λ t. further scan.at (section_from scan.place t)) (sym (append_assoc (drop scan.at bytes) more rest) ∙ ap (λ (t : List ℕ). t ++ rest) (sym (drop-append-le scan.at bytes more x.within)));
}

-- ---- heads

some_number : (a b : ℕ) → Some a ≡ Some b → a ≡ b
some_number a b e = cc

-- a head that has ended
pub head_ended : (bytes : List ℕ) (n : ℕ) → head_length bytes ≡ Some n → (0 < (section_from Before bytes).closing) × (n ≡ (section_from Before bytes).lines + (section_from Before bytes).closing)
unfolding head_length
head_ended bytes n e =
    elim (nat_lt 0 (section_from Before bytes).closing) as (λ v. nat_lt 0 (section_from Before bytes).closing ≡ v → (0 < (section_from Before bytes).closing) × (n ≡ (section_from Before bytes).lines + (section_from Before bytes).closing)) [
      | true ↦ λ t. (grind (arith, nat_tests), some_number n _ (sym (rw t at e)))
      | false ↦ λ t. cc (rw t at e)
    ] refl

pub head_some : (bytes : List ℕ) → 0 < (section_from Before bytes).closing → head_length bytes ≡ Some ((section_from Before bytes).lines + (section_from Before bytes).closing)
unfolding head_length
head_some bytes h =
    let test : nat_lt 0 (section_from Before bytes).closing ≡ true = grind (arith, nat_tests) in
    rw test refl

pub head_none : (bytes : List ℕ) → (section_from Before bytes).closing ≡ 0 → head_length bytes ≡ None
unfolding head_length
head_none bytes h =
    let test : nat_lt 0 (section_from Before bytes).closing ≡ false = grind (arith, nat_tests) in
    rw test refl

pub head_size : (bytes : List ℕ) (n : ℕ) → head_length (take 16384 bytes) ≡ Some n → (0 < n) × (n ≤ length bytes) × (n ≤ 16384)
head_size bytes n e =
    let ended = head_ended (take 16384 bytes) n e in
    let fits = section_fits Before (take 16384 bytes) ended.0 in
    let taken = length-take 16384 bytes in
    (omega (arith, ended.0, ended.1), omega (arith, ended.1, fits, taken), omega (arith, ended.1, fits, taken))

same_head : (a b : List ℕ) → section_from Before a ≡ section_from Before b → head_length a ≡ head_length b
unfolding head_length
same_head a b e = ap section_length e

pub head_stable : (bytes more : List ℕ) (n : ℕ) → head_length (take 16384 bytes) ≡ Some n → head_length (take 16384 (bytes ++ more)) ≡ Some n
head_stable bytes more n e =
    let ended = head_ended (take 16384 bytes) n e in
    let longer = take_longer 16384 bytes more in
    let same : section_from Before (take 16384 bytes ++ longer.0) ≡ section_from Before (take 16384 bytes) = section_stable Before (take 16384 bytes) longer.0 ended.0 in
    ap head_length longer.1 ∙ same_head (take 16384 bytes ++ longer.0) (take 16384 bytes) same ∙ e

pub head_from_section : (bytes : List ℕ) (s : LineSection) → section_from Before bytes ≡ s → 0 < s.closing → head_length bytes ≡ Some (s.lines + s.closing)
unfolding head_length
head_from_section bytes s e h =
    let test : nat_lt 0 s.closing ≡ true = grind (arith, nat_tests) in
    ap section_length e ∙ rw test refl

pub head_none_from : (bytes : List ℕ) (s : LineSection) → section_from Before bytes ≡ s → s.closing ≡ 0 → head_length bytes ≡ None
head_none_from bytes s e h = head_none bytes (ap (λ (t : LineSection). t.closing) e ∙ h)
