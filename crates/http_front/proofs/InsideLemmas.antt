-- What was read of a message stays read where more bytes come.
use Rattle.std.proofs.Common.{◌≡◌, ℕ, ◌<◌, List, ◌++◌, length, take, drop, nat_lt, sym, ap, ◌∙◌, subst, arith, length-append}
use Rattle.std.proofs.lemmas.List.{take-append-le, drop-append-le}
use Rattle.http_front.specs.declared.advance.Progress.{Progress}
use Rattle.http_front.specs.declared.advance.Progress.TheVariants.{InHead, InBody, InChunks}
use Rattle.http_front.specs.declared.framing.Framing.{Framing}
use Rattle.http_front.specs.declared.head.Head.{Head}
use Rattle.http_front.specs.declared.phase.Phase.{Phase}
use Rattle.http_front.specs.declared.phase.Phase.TheVariants.{Open}
use Rattle.http_front.specs.declared.byte_place.BytePlace.TheVariants.{Before, Between}
use Rattle.http_front.specs.declared.stage.Stage.{Stage}
use Rattle.http_front.specs.declared.stage.Stage.TheVariants.{AtLine, InData, InTrailers}
use Rattle.http_front.specs.declared.user.User.{User}
use Rattle.http_front.specs.Advances.{IsProgress, HasFramed, IsAlways}
use Rattle.http_front.specs.Answers.{Waits}
use Rattle.http_front.specs.Heads.{IsRead}
use Rattle.http_front.specs.FrontInside.{FrontHolds, IsFew}
use Rattle.http_front.specs.Outcomes.{Part}
use Rattle.http_front.specs.Readings.{IsReading, StageSays}
use Rattle.http_front.specs.Scans.{IsScanned}
use Rattle.http_front.specs.Sections.{header_lines}
use Rattle.http_front.proofs.ChunkLemmas.{take_longer, line_length, line_stable, has_stable}
use Rattle.http_front.proofs.Laws.{part_size}
use Rattle.http_front.proofs.SectionLemmas.{head_stable, scanned_stable}

stage_stable : (body rest more : List ℕ) (stage : Stage) → StageSays body rest stage → StageSays body (rest ++ more) stage
stage_stable body rest more AtLine x = tt
stage_stable body rest more (InData n size) x = record { is_line = line_stable rest more n size x.is_line; some = x.some; fits = x.fits }
stage_stable body rest more (InTrailers n scan) x = (
  line_stable rest more n 0 x.0,
  subst (λ t. IsScanned Between t scan) (sym (drop-append-le n rest more (line_length rest n 0 x.0).1)) (scanned_stable Between (drop n rest) more scan x.1),
)

reading_stable : (bytes more body : List ℕ) (used : ℕ) (stage : Stage) → IsReading bytes body used stage → IsReading (bytes ++ more) body used stage
reading_stable bytes more body used stage x = record {
  chunks = has_stable bytes more body used x.chunks;
  within = omega (arith, x.within, length-append bytes more);
  room = x.room;
  stage_says = subst (λ t. StageSays body t stage) (sym (drop-append-le used bytes more x.within)) (stage_stable body (drop used bytes) more stage x.stage_says);
}

framed_stable : (bytes more : List ℕ) (head : Head) (how : Framing) → HasFramed bytes head how → HasFramed (bytes ++ more) head how
framed_stable bytes more head how x =
    let text : take head.len bytes ≡ take head.len (bytes ++ more) = sym (take-append-le head.len bytes more x.head_is.fits) in
    record {
      head_is = record {
        ends = head_stable bytes more head.len x.head_is.ends;
        fits = omega (arith, x.head_is.fits, length-append bytes more);
        few = ap (λ t. nat_lt 100 (header_lines t)) (sym text) ∙ x.head_is.few;
        read = subst (λ t. IsRead t head) text x.head_is.read;
      };
      framing_is = x.framing_is;
    }

pub progress_stable : (bytes more : List ℕ) (progress : Progress) → IsProgress bytes progress → IsProgress (bytes ++ more) progress
progress_stable bytes more (InHead scan) x =
    let longer = take_longer 16384 bytes more in
    subst (λ t. IsScanned Before t scan) (sym longer.1) (scanned_stable Before (take 16384 bytes) longer.0 scan x)
progress_stable bytes more (InBody head size) x = framed_stable bytes more head _ x
progress_stable bytes more (InChunks head chunks) x =
    let longer = take_longer 134217728 (drop head.len bytes) more in
    let after : take 134217728 (drop head.len (bytes ++ more)) ≡ take 134217728 (drop head.len bytes) ++ longer.0 = ap (take 134217728) (drop-append-le head.len bytes more x.0.head_is.fits) ∙ longer.1 in (
      framed_stable bytes more head _ x.0,
      subst (λ t. IsReading t chunks.body.items chunks.used chunks.stage) (sym after) (reading_stable (take 134217728 (drop head.len bytes)) longer.0 chunks.body.items chunks.used chunks.stage x.1),
    )

pub kept_more : (number at start : ℕ) (bytes more all : List ℕ) (phase : Phase) (progress : Progress) → all ≡ bytes ++ more → FrontHolds number at bytes start phase progress → FrontHolds number at all start phase progress
kept_more number at start bytes more all phase progress e x = record {
  within = omega (arith, x.within, length-append bytes more, ap length e);
  progress_is = subst (λ t. IsProgress t progress) (sym (ap (drop start) e ∙ drop-append-le start bytes more x.within)) (progress_stable (drop start bytes) more progress x.progress_is);
  few = x.few;
  bounded = x.bounded;
}

pub waits_from : (users : List User) (number at start : ℕ) (bytes : List ℕ) (phase : Phase) (progress : Progress) → FrontHolds number at bytes start phase progress → phase ≡ Open
    → IsAlways (drop start bytes) (λ u n. Part) → Waits users (record { number = number; at = at; rest = drop start bytes; phase = phase })
waits_from users number at start bytes phase progress x is_open first =
    let few : number < 1000000 = subst (λ p. IsFew p number) is_open x.few in
    record {
      is_open = is_open;
      first = first users number;
      bounded = record {
        requests = few;
        bytes = omega (arith, x.bounded, part_size users number (drop start bytes) (first users number));
      };
    }
