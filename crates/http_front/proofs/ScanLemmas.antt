-- Sections that are read byte by byte.
use Rattle.std.proofs.Common.{◌≡◌, ℕ, ◌+◌, ◌<◌, ◌≤◌, true, false, List, [], ◌∷◌, ◌++◌, length, drop, nat_lt, refl, sym, ap, ◌∙◌, arith, append-nil, length-drop}
use Rattle.std.specs.Prelude.{if◌then◌else◌, ◌==◌, ◌&&◌}
use Rattle.std.proofs.lemmas.List.{drop-drop, drop_all}
use Rattle.std.proofs.lemmas.Bool.Decides.{nat_tests}
use Rattle.http_front.specs.declared.byte_place.BytePlace.{BytePlace}
use Rattle.http_front.specs.declared.byte_place.BytePlace.TheVariants.{Before, Between, Inside}
use Rattle.http_front.specs.declared.scan.ScanStep.TheVariants.{Goes}
use Rattle.http_front.specs.declared.line_section.LineSection.{LineSection}
use Rattle.http_front.specs.Sections.{section_from, section_end, one_more, line_end_length, begins_with_line_end, is_return_alone, place_after, blank_length}
use Rattle.http_front.specs.Scans.{ScanStepSays, IsScanned, further}

abbrev pub section_of : ℕ → ℕ → LineSection
section_of lines closing = record { lines = lines; closing = closing }

abbrev same : (a b n : ℕ) → a ≡ b → ◌≡◌ {A = LineSection} (record { lines = a; closing = n }) (record { lines = b; closing = n })
same a b n e = λ i. record { lines = e i; closing = n }

further_more : (at : ℕ) (s : LineSection) → further at (one_more s) ≡ further (at + 1) s
further_more at s = same (at + (s.lines + 1)) (at + 1 + s.lines) s.closing (omega arith)

blank_step : (rest : List ℕ) → 0 < length rest → 0 < line_end_length rest → blank_length rest ≡ blank_length (drop 1 rest) + 1
blank_step [] some ends = absurd (omega (arith, some))
blank_step (b ∷ rest) some ends =
    let test : nat_lt 0 (line_end_length (b ∷ rest)) ≡ true = grind (arith, nat_tests) in
    rw test refl

blank_stop : (rest : List ℕ) → line_end_length rest ≡ 0 → blank_length rest ≡ 0
blank_stop [] ends = refl
blank_stop (b ∷ rest) ends =
    let test : nat_lt 0 (line_end_length (b ∷ rest)) ≡ false = grind (arith, nat_tests) in
    rw test refl

-- one line end more
pub blank_more : (bytes : List ℕ) (at : ℕ) → at < length bytes → 0 < line_end_length (drop at bytes)
    → blank_length bytes ≡ at + blank_length (drop at bytes) → blank_length bytes ≡ at + 1 + blank_length (drop (at + 1) bytes)
blank_more bytes at inside ends so_far =
    let step : blank_length (drop at bytes) ≡ blank_length (drop 1 (drop at bytes)) + 1 = blank_step (drop at bytes) (omega (arith, length-drop at bytes)) ends in
    let next : blank_length (drop 1 (drop at bytes)) ≡ blank_length (drop (at + 1) bytes) = ap blank_length (drop-drop 1 at bytes) in
    omega arith

pub blank_done : (bytes : List ℕ) (at : ℕ) → line_end_length (drop at bytes) ≡ 0 → blank_length bytes ≡ at + blank_length (drop at bytes) → at ≡ blank_length bytes
blank_done bytes at ends so_far = omega (arith, blank_stop (drop at bytes) ends)

module _ (first : BytePlace) (bytes : List ℕ) (at : ℕ) (place : BytePlace) (so_far : IsScanned first bytes (record { at = at; place = place })) where
  pub scanned_more : (next : BytePlace) → at < length bytes → ScanStepSays place (drop at bytes) (Goes next) → IsScanned first bytes (record { at = at + 1; place = next })
  scanned_more next inside step = record {
    within = omega arith;
    goes = λ more.
        so_far.goes more ∙ ap (further at) (step more)
        ∙ ap (λ rest. further at (one_more (section_from next (rest ++ more)))) (drop-drop 1 at bytes)
        ∙ further_more at (section_from next (drop (at + 1) bytes ++ more));
  }

  pub scanned_here : section_from first bytes ≡ further at (section_from place (drop at bytes))
  scanned_here =
      ap (section_from first) (sym (append-nil bytes)) ∙ so_far.goes []
      ∙ ap (λ rest. further at (section_from place rest)) (append-nil (drop at bytes))

  pub scanned_to : (closing : ℕ) → section_from place (drop at bytes) ≡ section_end closing → section_from first bytes ≡ section_of at closing
  scanned_to closing e = scanned_here ∙ ap (further at) e ∙ same (at + 0) at closing (omega arith)

  pub scanned_all : (last : ℕ) → length bytes ≤ at → section_from place [] ≡ section_of last 0 → section_from first bytes ≡ section_of (at + last) 0
  scanned_all last all e = scanned_here ∙ ap (λ rest. further at (section_from place rest)) (drop_all at bytes all) ∙ ap (further at) e

further_further : (a b : ℕ) (s : LineSection) → further a (further b s) ≡ further (a + b) s
further_further a b s = same (a + (b + s.lines)) (a + b + s.lines) s.closing (omega arith)

-- a reading that goes on from where another stopped
pub scanned_join : (first place next : BytePlace) (bytes : List ℕ) (at more : ℕ) → IsScanned first bytes (record { at = at; place = place })
    → IsScanned place (drop at bytes) (record { at = more; place = next }) → IsScanned first bytes (record { at = at + more; place = next })
scanned_join first place next bytes at more x y = record {
  within = omega (arith, x.within, y.within, length-drop at bytes);
  goes = λ rest.
      x.goes rest ∙ ap (further at) (y.goes rest)
      ∙ ap (λ t. further at (further more (section_from next (t ++ rest)))) (drop-drop more at bytes)
      ∙ further_further at more (section_from next (drop (at + more) bytes ++ rest));
}

-- ---- lengths

pub line_end_fits : (bytes : List ℕ) → line_end_length bytes ≤ length bytes
line_end_fits [] = omega arith
line_end_fits (b ∷ []) =
    elim (b == 10) as (λ v. (b == 10) ≡ v → line_end_length (b ∷ []) ≤ length (b ∷ [])) [
      | true ↦ λ e. rw e (omega arith)
      | false ↦ λ e. rw e (elim (b == 13) as (λ v. (b == 13) ≡ v → (if (b == 13) && false then 2 else 0) ≤ 1) [ true ↦ λ t. rw t (omega arith) | false ↦ λ t. rw t (omega arith) ] refl)
    ] refl
line_end_fits (b ∷ c ∷ bytes) =
    elim (b == 10) as (λ v. (b == 10) ≡ v → line_end_length (b ∷ c ∷ bytes) ≤ length (b ∷ c ∷ bytes)) [
      | true ↦ λ e. rw e (omega arith)
      | false ↦ λ e. rw e (elim ((b == 13) && (c == 10)) as (λ v. (if v then 2 else 0) ≤ length (b ∷ c ∷ bytes)) [ true ↦ omega arith | false ↦ omega arith ])
    ] refl

-- a section has no more bytes than are there, and one that a line may need more
pub section_within : (place : BytePlace) (bytes : List ℕ) → (section_from place bytes).lines + (section_from place bytes).closing ≤ length bytes + 1
section_within Inside [] = omega arith
section_within Inside (b ∷ bytes) = omega (arith, section_within (place_after b) bytes)
section_within Between [] = omega arith
section_within Between (b ∷ bytes) =
    elim (begins_with_line_end (b ∷ bytes)) as (λ v. begins_with_line_end (b ∷ bytes) ≡ v → (section_from Between (b ∷ bytes)).lines + (section_from Between (b ∷ bytes)).closing ≤ length (b ∷ bytes) + 1) [
      | true ↦ λ e. rw e (omega (arith, line_end_fits (b ∷ bytes)))
      | false ↦ λ e. rw e
          (elim (is_return_alone (b ∷ bytes)) as (λ v. (if v then section_end 0 else one_more (section_from Inside bytes)).lines + (if v then section_end 0 else one_more (section_from Inside bytes)).closing ≤ length (b ∷ bytes) + 1) [
            | true ↦ omega arith
            | false ↦ omega (arith, section_within Inside bytes)
          ])
    ] refl
section_within Before [] = omega arith
section_within Before (b ∷ bytes) =
    elim (begins_with_line_end (b ∷ bytes)) as (λ v. begins_with_line_end (b ∷ bytes) ≡ v → (section_from Before (b ∷ bytes)).lines + (section_from Before (b ∷ bytes)).closing ≤ length (b ∷ bytes) + 1) [
      | true ↦ λ e. rw e (omega (arith, section_within Before bytes))
      | false ↦ λ e. rw e
          (elim (is_return_alone (b ∷ bytes)) as (λ v. (if v then section_end 0 else one_more (section_from Inside bytes)).lines + (if v then section_end 0 else one_more (section_from Inside bytes)).closing ≤ length (b ∷ bytes) + 1) [
            | true ↦ omega arith
            | false ↦ omega (arith, section_within Inside bytes)
          ])
    ] refl
