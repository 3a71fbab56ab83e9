-- What each step in a body by chunks says.
use Rattle.std.proofs.Common.{◌≡◌, ◌≢◌, ℕ, ◌+◌, ◌<◌, ◌≤◌, true, false, List, ◌++◌, length, take, drop, nat_lt, nat_eq, refl, sym, ap, ◌∙◌, subst, arith, length-append, length-take, length-drop, Some, None}
use Rattle.std.proofs.lemmas.Bool.Decides.{nat_tests}
use Rattle.std.proofs.lemmas.List.{drop-drop, drop_all}
use Rattle.http_front.specs.declared.byte_place.BytePlace.{BytePlace}
use Rattle.http_front.specs.declared.byte_place.BytePlace.TheVariants.{Between}
use Rattle.http_front.specs.declared.message_fault.MessageFault.TheVariants.{HeadTooLarge, BodyTooLarge}
use Rattle.http_front.specs.declared.line_section.LineSection.{LineSection}
use Rattle.http_front.specs.declared.size_line.SizeLine.{SizeLine}
use Rattle.http_front.specs.declared.size_line.SizeLine.TheVariants.{Line}
use Rattle.http_front.specs.declared.stage.Stage.{Stage}
use Rattle.http_front.specs.declared.stage.Stage.TheVariants.{AtLine, InData, InTrailers}
use Rattle.http_front.specs.Chunks.{IsSizeLine, HasChunks, IsContent, chunk_step, chunk_length, after_data, after_last, placed_after}
use Rattle.http_front.specs.Outcomes.{Outcome, Whole, Part, Refused}
use Rattle.http_front.specs.Readings.{IsData, IsReading, StageSays}
use Rattle.http_front.specs.Scans.{further}
use Rattle.http_front.specs.Sections.{section_from}
use Rattle.http_front.proofs.ChunkLemmas.{line_length, has_more, whole_fits}
use Rattle.http_front.proofs.ScanLemmas.{scanned_here}

pub content_from : (bytes body : List ℕ) (used : ℕ) (line : SizeLine) (ending : Outcome (List ℕ)) → HasChunks bytes body used → IsSizeLine (drop used bytes) line
    → chunk_step body line (drop used bytes) ≡ Some ending → IsContent bytes (placed_after used ending)
content_from bytes body used line ending chunks is_line step = record {
  body = body;
  used = used;
  ending = ending;
  chunks = chunks;
  ends = record { line = line; is_line = is_line; ends = step };
  is = refl;
}

pub large_step : (body bytes : List ℕ) (n size : ℕ) → size ≢ 0 → 16777216 < length body + size → chunk_step body (Line n size) bytes ≡ Some (Refused BodyTooLarge)
large_step body bytes n size some large =
    let a : nat_eq size 0 ≡ false = grind (arith, nat_tests) in
    let b : nat_lt 16777216 (length body + size) ≡ true = grind (arith, nat_tests) in
    rw (a, b) refl

pub data_step : (body bytes : List ℕ) (n size : ℕ) → 0 < size → length body + size ≤ 16777216 → chunk_step body (Line n size) bytes ≡ after_data (drop (n + size) bytes)
data_step body bytes n size some fits =
    let a : nat_eq size 0 ≡ false = grind (arith, nat_tests) in
    let b : nat_lt 16777216 (length body + size) ≡ false = grind (arith, nat_tests) in
    rw (a, b) refl

module _ (bytes body : List ℕ) (used : ℕ) (stage : Stage) (reading : IsReading bytes body used stage) where
  -- ---- data

  module _ (n size : ℕ) (is : stage ≡ InData n size) where
    pub data_here : IsData body (drop used bytes) n size
    data_here = subst (StageSays body (drop used bytes)) is reading.stage_says

    pub data_bound : n + size ≤ 16778240
    data_bound = omega (arith, line_length (drop used bytes) n size data_here.is_line, data_here.fits)

    pub data_ends : (ending : Outcome (List ℕ)) → after_data (drop (n + size) (drop used bytes)) ≡ Some ending → IsContent bytes (placed_after used ending)
    data_ends ending e = content_from bytes body used (Line n size) ending reading.chunks data_here.is_line (data_step body (drop used bytes) n size data_here.some data_here.fits ∙ e)

    pub data_short : length (drop used bytes) ≤ n + size → IsContent bytes Part
    data_short short = data_ends Part (ap after_data (drop_all (n + size) (drop used bytes) short))

    whole : after_data (drop (n + size) (drop used bytes)) ≡ None → chunk_step body (Line n size) (drop used bytes) ≡ None
    whole e = data_step body (drop used bytes) n size data_here.some data_here.fits ∙ e

    pub data_fits : after_data (drop (n + size) (drop used bytes)) ≡ None → used + chunk_length n size ≤ length bytes
    data_fits e = omega (arith, whole_fits body (drop used bytes) n size (whole e), length-drop used bytes, reading.within)

    pub data_taken : after_data (drop (n + size) (drop used bytes)) ≡ None → IsReading bytes (body ++ take size (drop n (drop used bytes))) (used + chunk_length n size) AtLine
    data_taken e = record {
      chunks = has_more bytes body used n size reading.chunks data_here.is_line (whole e);
      within = data_fits e;
      room = omega (arith, data_here.fits, length-append body (take size (drop n (drop used bytes))), length-take size (drop n (drop used bytes)));
      stage_says = tt;
    }

  -- ---- the last chunk and the trailers

  module _ (n at : ℕ) (place : BytePlace) (is : stage ≡ InTrailers n (record { at = at; place = place })) where
    pub trailers_here : StageSays body (drop used bytes) (InTrailers n (record { at = at; place = place }))
    trailers_here = subst (StageSays body (drop used bytes)) is reading.stage_says

    pub trailers_fit : (used + n + at ≤ length bytes) × (n ≤ 1024)
    trailers_fit =
        let line = line_length (drop used bytes) n 0 trailers_here.0 in
        (omega (arith, line.1, trailers_here.1.within, length-drop n (drop used bytes), length-drop used bytes, reading.within), omega (arith, line.2))

    -- the bytes that weren't read
    pub trailers_rest : drop (used + n + at) bytes ≡ drop at (drop n (drop used bytes))
    trailers_rest = sym (ap (drop at) (drop-drop n used bytes) ∙ drop-drop at (used + n) bytes)

    module _ (s : LineSection) (section : section_from place (drop at (drop n (drop used bytes))) ≡ s) where
      whole_section : section_from Between (drop n (drop used bytes)) ≡ further at s
      whole_section = scanned_here Between (drop n (drop used bytes)) at place trailers_here.1 ∙ ap (further at) section

      last_step : chunk_step body (Line n 0) (drop used bytes) ≡ Some (after_last body n (further at s))
      last_step = ap (λ t. Some (after_last body n t)) whole_section

      last_content : IsContent bytes (placed_after used (after_last body n (further at s)))
      last_content = content_from bytes body used (Line n 0) (after_last body n (further at s)) reading.chunks trailers_here.0 last_step

      pub trailers_long : 16384 < at + s.lines → IsContent bytes (Refused HeadTooLarge)
      trailers_long long =
          let a : nat_lt 16384 (at + s.lines) ≡ true = grind (arith, nat_tests) in
          rw a at last_content

      pub trailers_whole : at + s.lines ≤ 16384 → 0 < s.closing → (k : ℕ) → k ≡ used + n + (at + s.lines) + s.closing → IsContent bytes (Whole body k)
      trailers_whole short closed k is_k =
          let a : nat_lt 16384 (at + s.lines) ≡ false = grind (arith, nat_tests) in
          let b : nat_lt 0 s.closing ≡ true = grind (arith, nat_tests) in
          let e : used + (n + (at + s.lines) + s.closing) ≡ k = omega arith in
          subst (λ m. IsContent bytes (Whole body m)) e (rw (a, b) at last_content)

      pub trailers_open : at + s.lines ≤ 16384 → s.closing ≡ 0 → IsContent bytes Part
      trailers_open short none =
          let a : nat_lt 16384 (at + s.lines) ≡ false = grind (arith, nat_tests) in
          let b : nat_lt 0 s.closing ≡ false = grind (arith, nat_tests) in
          rw (a, b) at last_content
