use Rattle.std.proofs.Common.{◌≡◌, take, drop, arith, subst, sym, ap, ◌∙◌}
use Rattle.http_front.specs.declared.byte_place.BytePlace.TheVariants.{Before}
use Rattle.http_front.specs.Scans.{IsScanned, further}
use Rattle.http_front.specs.Sections.{section_from}
use Rattle.http_front.proofs.AdvanceLemmas.{first_open, first_too_long}
use Rattle.http_front.proofs.ScanLemmas.{scanned_here, scanned_join}
use Rattle.http_front.proofs.SectionLemmas.{head_from_section, head_none_from}
use Rattle.http_front.proofs.advancing.advance_head.Goals as goal

pub take_head-requires : goal.take_head-requires
take_head-requires c =
    let whole : section_from Before (take 16384 c.args.bytes.now) ≡ further c.args.scan.at c.scan_section-scanned.result.section = scanned_here Before (take 16384 c.args.bytes.now) c.args.scan.at c.args.scan.place c.requires ∙ ap (further c.args.scan.at) (ap (section_from c.args.scan.place) (sym (c.rest_from.ensures ∙ ap (drop c.args.scan.at) c.front_bytes-front.ensures)) ∙ c.scan_section-scanned.ensures.section) in
    head_from_section (take 16384 c.args.bytes.now) (further c.args.scan.at c.scan_section-scanned.result.section) whole (omega arith)

pub returns-then-bytes-ge-MOST_HEAD_BYTES : goal.returns-then-bytes-ge-MOST_HEAD_BYTES
returns-then-bytes-ge-MOST_HEAD_BYTES c = λ users number.
    let whole : section_from Before (take 16384 c.args.bytes.now) ≡ further c.args.scan.at c.scan_section-scanned.result.section = scanned_here Before (take 16384 c.args.bytes.now) c.args.scan.at c.args.scan.place c.requires ∙ ap (further c.args.scan.at) (ap (section_from c.args.scan.place) (sym (c.rest_from.ensures ∙ ap (drop c.args.scan.at) c.front_bytes-front.ensures)) ∙ c.scan_section-scanned.ensures.section) in
    first_too_long users number c.args.bytes.now (head_none_from (take 16384 c.args.bytes.now) (further c.args.scan.at c.scan_section-scanned.result.section) whole (omega arith)) (omega arith)

pub returns : goal.returns
returns c =
    let whole : section_from Before (take 16384 c.args.bytes.now) ≡ further c.args.scan.at c.scan_section-scanned.result.section = scanned_here Before (take 16384 c.args.bytes.now) c.args.scan.at c.args.scan.place c.requires ∙ ap (further c.args.scan.at) (ap (section_from c.args.scan.place) (sym (c.rest_from.ensures ∙ ap (drop c.args.scan.at) c.front_bytes-front.ensures)) ∙ c.scan_section-scanned.ensures.section) in (
      λ users number. first_open users number c.args.bytes.now (head_none_from (take 16384 c.args.bytes.now) (further c.args.scan.at c.scan_section-scanned.result.section) whole (omega arith)) (omega arith),
      scanned_join Before c.args.scan.place c.scan_section-scanned.result.scan.place (take 16384 c.args.bytes.now) c.args.scan.at c.scan_section-scanned.result.scan.at c.requires
          (subst (λ t. IsScanned c.args.scan.place t c.scan_section-scanned.result.scan) (c.rest_from.ensures ∙ ap (drop c.args.scan.at) c.front_bytes-front.ensures) c.scan_section-scanned.ensures.reached),
    )
