use Rattle.std.proofs.Common.{◌+◌, length, drop, arith, refl, subst, sym, ap, ◌∙◌}
use Rattle.http_front.specs.Sections.{section_from}
use Rattle.http_front.specs.Scans.{IsScanned}
use Rattle.http_front.specs.declared.byte_place.BytePlace.TheVariants.{Between}
use Rattle.http_front.proofs.ScanLemmas.{scanned_join}
use Rattle.http_front.proofs.ReadingLemmas.{trailers_here, trailers_fit, trailers_rest, trailers_long, trailers_whole, trailers_open}
use Rattle.http_front.proofs.chunks.Chunks.read_trailers.Goals as goal

pub overflow_add-start : goal.overflow_add-start
overflow_add-start c = omega (arith, (trailers_fit c.args.bytes.now c.args.self.now.body.items c.args.self.now.used c.args.self.now.stage c.requires.reads c.args.len c.args.scan.at c.args.scan.place c.requires.stage).0)

pub overflow_add-start-2 : goal.overflow_add-start-2
overflow_add-start-2 c = omega (arith, (trailers_fit c.args.bytes.now c.args.self.now.body.items c.args.self.now.used c.args.self.now.stage c.requires.reads c.args.len c.args.scan.at c.args.scan.place c.requires.stage).0)

pub overflow_add-lines : goal.overflow_add-lines
overflow_add-lines c = omega (arith, (trailers_fit c.args.bytes.now c.args.self.now.body.items c.args.self.now.used c.args.self.now.stage c.requires.reads c.args.len c.args.scan.at c.args.scan.place c.requires.stage).0, c.scan_section-scanned.ensures.within, ap length c.rest_from.ensures)

pub overflow_add-used-then-scanned-gt0 : goal.overflow_add-used-then-scanned-gt0
overflow_add-used-then-scanned-gt0 c = omega (arith, (trailers_fit c.args.bytes.now c.args.self.now.body.items c.args.self.now.used c.args.self.now.stage c.requires.reads c.args.len c.args.scan.at c.args.scan.place c.requires.stage).0, c.scan_section-scanned.ensures.within, ap length c.rest_from.ensures)

pub returns-then-lines-gt-MOST_TRAILER_BYTES : goal.returns-then-lines-gt-MOST_TRAILER_BYTES
returns-then-lines-gt-MOST_TRAILER_BYTES c =
    trailers_long c.args.bytes.now c.args.self.now.body.items c.args.self.now.used c.args.self.now.stage c.requires.reads c.args.len c.args.scan.at c.args.scan.place c.requires.stage c.scan_section-scanned.result.section
    (ap (section_from c.args.scan.place) (sym (c.rest_from.ensures ∙ trailers_rest c.args.bytes.now c.args.self.now.body.items c.args.self.now.used c.args.self.now.stage c.requires.reads c.args.len c.args.scan.at c.args.scan.place c.requires.stage)) ∙ c.scan_section-scanned.ensures.section)
    (omega arith)

pub returns-then-scanned-gt0 : goal.returns-then-scanned-gt0
returns-then-scanned-gt0 c =
    trailers_whole c.args.bytes.now c.args.self.now.body.items c.args.self.now.used c.args.self.now.stage c.requires.reads c.args.len c.args.scan.at c.args.scan.place c.requires.stage c.scan_section-scanned.result.section
    (ap (section_from c.args.scan.place) (sym (c.rest_from.ensures ∙ trailers_rest c.args.bytes.now c.args.self.now.body.items c.args.self.now.used c.args.self.now.stage c.requires.reads c.args.len c.args.scan.at c.args.scan.place c.requires.stage)) ∙ c.scan_section-scanned.ensures.section)
    (omega arith) (omega arith) (c.args.self.now.used + c.args.len + (c.args.scan.at + c.scan_section-scanned.result.section.lines) + c.scan_section-scanned.result.section.closing) refl

pub returns : goal.returns
returns c =
    let here = trailers_here c.args.bytes.now c.args.self.now.body.items c.args.self.now.used c.args.self.now.stage c.requires.reads c.args.len c.args.scan.at c.args.scan.place c.requires.stage in (
      record {
        chunks = c.requires.reads.chunks;
        within = c.requires.reads.within;
        room = c.requires.reads.room;
        stage_says = (
          here.0,
          scanned_join Between c.args.scan.place c.scan_section-scanned.result.scan.place (drop c.args.len (drop c.args.self.now.used c.args.bytes.now)) c.args.scan.at c.scan_section-scanned.result.scan.at here.1
              (subst (λ t. IsScanned c.args.scan.place t c.scan_section-scanned.result.scan) (c.rest_from.ensures ∙ trailers_rest c.args.bytes.now c.args.self.now.body.items c.args.self.now.used c.args.self.now.stage c.requires.reads c.args.len c.args.scan.at c.args.scan.place c.requires.stage) c.scan_section-scanned.ensures.reached),
        );
      },
      trailers_open c.args.bytes.now c.args.self.now.body.items c.args.self.now.used c.args.self.now.stage c.requires.reads c.args.len c.args.scan.at c.args.scan.place c.requires.stage c.scan_section-scanned.result.section
          (ap (section_from c.args.scan.place) (sym (c.rest_from.ensures ∙ trailers_rest c.args.bytes.now c.args.self.now.body.items c.args.self.now.used c.args.self.now.stage c.requires.reads c.args.len c.args.scan.at c.args.scan.place c.requires.stage)) ∙ c.scan_section-scanned.ensures.section)
          (omega arith) (omega arith),
    )
